-- The LIDs so far.
use Rattle.std.proofs.Common.{◌≡◌}
use Rattle.fact_store.specs.View.{cells_of}
use Rattle.step_loops.proofs.LoopLids.{LidsUpTo}
use Rattle.step_loops.proofs.lids_in_loop.loop_lids.Given as goal

abbrev pub invariant-loop-below : goal.invariant-loop-below
invariant-loop-below l = record {
  held : l.held_at.seen ≡ l.fn.held;
  next : l.next_at.seen ≡ l.fn.next;
  lids : LidsUpTo (cells_of l.fn.held.facts) l.fn.held.held l.fn.next.held l.below l.cycle l.after.items l.lids.items;
}
