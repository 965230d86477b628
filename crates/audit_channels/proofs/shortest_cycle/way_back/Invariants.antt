-- From the channel at an index on, the way leads back to the first.
use Rattle.std.proofs.Common.{◌≡◌, ◌<◌, ◌+◌, length}
use Rattle.audit_channels.specs.ChannelOrders.{Follows, GoesOn}
use Rattle.audit_channels.specs.ShortestCycle.{at_index}
use Rattle.audit_channels.proofs.shortest_cycle.way_back.Given as goal

abbrev pub invariant-loop-at : goal.invariant-loop-at
invariant-loop-at l = record {
  within : l.at < length l.reached;
  goes : GoesOn (Follows l.waits) (at_index l.reached l.at).channel l.way.items l.first;
  count : length l.way.items + (at_index l.reached l.at).count ≡ (at_index l.reached l.index).count;
}

abbrev pub decreases-loop-at : goal.decreases-loop-at
decreases-loop-at l = l.at
