-- A cycle, and no shorter one from the channels so far.
use Rattle.std.proofs.Common.{◌≡◌, ◌<◌, ◌≤◌, ℕ, true, length, slice_index_or}
use Rattle.audit_channels.specs.Numbers.{has_none}
use Rattle.audit_channels.specs.ChannelOrders.{Follows, IsCycle}
use Rattle.audit_channels.specs.ShortestCycle.{NoneBelow}
use Rattle.audit_channels.proofs.shortest_cycle.shortest_cycle.Given as goal

abbrev pub invariant-loop-first : goal.invariant-loop-first
invariant-loop-first l = record {
  cycle : IsCycle (Follows l.waits) l.shortest.items;
  many : length l.marks.items ≡ length l.waits;
  marks : (c : ℕ) → slice_index_or l.marks.items c 0 ≤ l.first;
  none : (c : ℕ) → c < l.first → has_none l.numbers c ≡ true → NoneBelow l.waits c (length l.shortest.items);
}
