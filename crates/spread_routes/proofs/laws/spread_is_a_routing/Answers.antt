use Rattle.spread_routes.proofs.Routed.{spread_is_routing}
use Rattle.spread_routes.proofs.laws.spread_is_a_routing.Goals as goal

pub returns : goal.returns
returns c = spread_is_routing
