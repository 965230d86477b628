-- The first channels.
use Rattle.step_loops.proofs.LoopLids.{NotedSoFar}
use Rattle.step_loops.proofs.lids_in_loop.note_lid.Given as goal

abbrev pub invariant-loop-index : goal.invariant-loop-index
invariant-loop-index l = NotedSoFar l.held l.next l.lid l.cycle l.after l.fn.lids l.index l.lids
