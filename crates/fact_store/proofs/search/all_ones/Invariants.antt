-- One digit more each time.
use Rattle.std.proofs.Common.{◌-◌}
use Rattle.fact_store.specs.Comparisons.{IsBudget}
use Rattle.fact_store.proofs.search.all_ones.Given as goal

abbrev pub invariant-loop-ones : goal.invariant-loop-ones
invariant-loop-ones l = IsBudget l.n 0 l.ones

abbrev pub decreases-loop-ones : goal.decreases-loop-ones
decreases-loop-ones l = l.n - l.ones
