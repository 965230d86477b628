-- Those so far have been reached.
use Rattle.std.proofs.Common.{◌≡◌, ◌<◌, ◌+◌, ℕ, [], true, slice_index_or}
use Rattle.audit_channels.specs.Numbers.{has_none}
use Rattle.audit_channels.specs.ShortestCycle.{HasReached, IsSearch, Grows}
use Rattle.audit_channels.proofs.shortest_cycle.reach_on.Given as goal

abbrev pub invariant-loop-channel : goal.invariant-loop-channel
invariant-loop-channel l = record {
  search : IsSearch l.waits l.first (l.here.count + 1) l.reached.items l.marks;
  grows : Grows l.fn.reached.items l.reached.items;
  items : l.channel-items ≡ slice_index_or l.waits l.here.channel [];
  onward : (c k : ℕ) → k < l.channel-index → slice_index_or l.channel-items k c ≡ c → has_none l.numbers c ≡ true
      → HasReached l.reached.items c (l.here.count + 1);
}
