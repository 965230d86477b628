use Rattle.updown_routes.proofs.LeastCosts.{no_cost_between}
use Rattle.updown_routes.proofs.laws.no_cost_between_components.Goals as goal

pub returns : goal.returns
returns c = no_cost_between
