-- They agree so far.
use Rattle.std.proofs.Common.{◌≡◌, ◌<◌, ℕ}
use Rattle.std.specs.Prelude.{slice_index_or}
use Rattle.packet_walks.specs.declared.next_hop.NextHop.TheVariants.{To}
use Rattle.next_tables.specs.SettledEntries.{hops_of}
use Rattle.next_tables.proofs.settled_entries.are_hops_of.Given as goal

abbrev pub invariant-loop-index : goal.invariant-loop-index
invariant-loop-index l = (k : ℕ) → k < l.index → slice_index_or l.hops k (To 0) ≡ slice_index_or (hops_of l.steps) k (To 0)
