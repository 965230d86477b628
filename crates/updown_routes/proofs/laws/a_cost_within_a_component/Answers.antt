use Rattle.updown_routes.proofs.ComponentCosts.{cost_in_component}
use Rattle.updown_routes.proofs.laws.a_cost_within_a_component.Goals as goal

pub returns : goal.returns
returns c = cost_in_component
