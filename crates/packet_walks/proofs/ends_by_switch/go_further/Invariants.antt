-- The first walks have gone on.
use Rattle.std.proofs.Common.{◌≡◌}
use Rattle.std.specs.Prelude.{take}
use Rattle.packet_walks.proofs.Ended.{tos}
use Rattle.packet_walks.proofs.Further.{FurtherSoFar}
use Rattle.packet_walks.proofs.ends_by_switch.go_further.Given as goal

abbrev pub invariant-loop-index : goal.invariant-loop-index
invariant-loop-index l = record {
  further : FurtherSoFar l.fn.jumps.items l.index l.jumps.items;
  left : l.left ≡ tos (take l.index l.jumps.items);
}
