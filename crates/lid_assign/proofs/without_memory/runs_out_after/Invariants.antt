use Rattle.std.proofs.Common.{length}
use Rattle.fact_store.specs.View.{cells_of}
use Rattle.subnet_view.specs.EndPort.{ports_after}
use Rattle.lid_assign.proofs.InTurn.{GivesInTurn}
use Rattle.lid_assign.proofs.without_memory.runs_out_after.Given as goal

-- each end port so far found a LID
abbrev pub invariant-loop-end : goal.invariant-loop-end
invariant-loop-end l = GivesInTurn l.lmc (cells_of l.store) l.last l.claimed l.taken l.next

-- those that are left grow fewer
abbrev pub decreases-loop-end : goal.decreases-loop-end
decreases-loop-end l = length (ports_after (cells_of l.store) l.last)
