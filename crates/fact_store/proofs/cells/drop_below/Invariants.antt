-- Of the cells so far those that are kept stand in front.
use Rattle.fact_store.proofs.Dropping.{IsDropping}
use Rattle.fact_store.proofs.cells.drop_below.Given as goal

abbrev pub invariant-loop-i : goal.invariant-loop-i
invariant-loop-i l = IsDropping l.floor l.fn.cells.items l.cells.items l.i l.left
