-- The key's index lies between the two, and there are comparisons left for those there.
use Rattle.std.proofs.Common.{◌+◌, ◌-◌, ◌≤◌, length}
use Rattle.fact_store.specs.Comparisons.{IsBudget}
use Rattle.fact_store.proofs.Searches.{IsNarrowed}
use Rattle.fact_store.proofs.search.find.Given as goal

abbrev pub invariant-loop-low : goal.invariant-loop-low
invariant-loop-low l = record {
  narrowed : IsNarrowed l.key l.cells.items l.low l.high l.steps;
  budget : IsBudget (length l.cells.items) l.steps l.most;
  enough : l.high ≤ l.low + l.most;
}

abbrev pub decreases-loop-low : goal.decreases-loop-low
decreases-loop-low l = l.high - l.low
