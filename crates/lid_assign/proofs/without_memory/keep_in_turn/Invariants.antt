use Rattle.std.proofs.Common.{length}
use Rattle.fact_store.specs.View.{cells_of}
use Rattle.subnet_view.specs.EndPort.{ports_after}
use Rattle.lid_assign.proofs.InTurn.{KeepsInTurn}
use Rattle.lid_assign.proofs.without_memory.keep_in_turn.Given as goal

abbrev pub invariant-loop-end : goal.invariant-loop-end
invariant-loop-end l = KeepsInTurn l.lmc (cells_of l.store) l.last l.claimed l.taken

-- those that are left grow fewer
abbrev pub decreases-loop-end : goal.decreases-loop-end
decreases-loop-end l = length (ports_after (cells_of l.store) l.last)
