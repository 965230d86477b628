use Rattle.std.proofs.Common.{arith}
use Rattle.fact_store.proofs.Searches.{no_budget, more_budget, budget_fits}
use Rattle.fact_store.proofs.search.all_ones.Goals as goal

pub loop-ones-init : goal.loop-ones-init
loop-ones-init c = no_budget c.args.n

pub loop-ones-preserved : goal.loop-ones-preserved
loop-ones-preserved c = more_budget c.args.n c.loop-ones.ones c.loop-ones.invariant c.loop-ones-test.true

pub overflow_mul-ones : goal.overflow_mul-ones
overflow_mul-ones c =
    let fits = budget_fits c.args.n c.loop-ones.ones (omega (arith, c.ranges.n)) c.loop-ones.invariant c.loop-ones-test.true in
    omega (arith, fits)

pub overflow_add-ones : goal.overflow_add-ones
overflow_add-ones c =
    let fits = budget_fits c.args.n c.loop-ones.ones (omega (arith, c.ranges.n)) c.loop-ones.invariant c.loop-ones-test.true in
    omega (arith, fits)
