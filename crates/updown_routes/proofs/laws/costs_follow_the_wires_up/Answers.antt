use Rattle.updown_routes.proofs.Ways.{cost_recursion}
use Rattle.updown_routes.proofs.laws.costs_follow_the_wires_up.Goals as goal

pub returns : goal.returns
returns c = cost_recursion
