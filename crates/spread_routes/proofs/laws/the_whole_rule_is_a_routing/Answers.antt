use Rattle.spread_routes.proofs.Whole.{spread_by_is_routing}
use Rattle.spread_routes.proofs.laws.the_whole_rule_is_a_routing.Goals as goal

pub returns : goal.returns
returns c = spread_by_is_routing
