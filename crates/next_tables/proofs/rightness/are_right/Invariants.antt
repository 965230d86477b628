-- The LIDs so far are right.
use Rattle.std.proofs.Common.{◌≡◌}
use Rattle.fact_store.specs.View.{cells_of}
use Rattle.next_tables.specs.SwitchPositions.{position_at}
use Rattle.next_tables.proofs.by_order.ToldRight.{RightSoFar}
use Rattle.next_tables.proofs.rightness.are_right.Given as goal

abbrev pub invariant-loop-below : goal.invariant-loop-below
invariant-loop-below l = record {
  seen : l.cursor.seen ≡ l.fn.held;
  right : RightSoFar (cells_of l.fn.held.facts) (position_at l.positions) l.fn.held.held l.below;
}
