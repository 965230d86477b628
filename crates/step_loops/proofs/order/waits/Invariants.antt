-- The LIDs so far.
use Rattle.std.proofs.Common.{◌≡◌}
use Rattle.fact_store.specs.View.{cells_of}
use Rattle.step_loops.specs.StepOrder.{IsAddedInStep}
use Rattle.step_loops.proofs.InStep.{SoFar}
use Rattle.step_loops.proofs.order.waits.Given as goal

abbrev pub invariant-loop-below : goal.invariant-loop-below
invariant-loop-below l = record {
  held : l.held_at.seen ≡ l.fn.held;
  next : l.next_at.seen ≡ l.fn.next;
  so_far : SoFar l.below (cells_of l.fn.held.facts) l.fn.held.held l.fn.next.held l.waits;
  added : IsAddedInStep l.before.held.items l.before.next.items l.waits;
}
