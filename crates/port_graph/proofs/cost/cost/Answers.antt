-- There is room for one more.
use Rattle.std.proofs.Common.{sym, arith}
use Rattle.port_graph.proofs.CostSteps.{least_below}
use Rattle.port_graph.proofs.cost.cost.Goals as goal

pub overflow_add-result : goal.overflow_add-result
overflow_add-result c =
    let below = least_below c.args.ups.now c.args.costs.now _ c.requires.room c.in_ok-least.least (sym c.in_ok-least.ensures) in
    omega (arith, below)
