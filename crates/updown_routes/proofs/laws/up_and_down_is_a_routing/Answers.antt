use Rattle.updown_routes.proofs.Routed.{updown_is_routing}
use Rattle.updown_routes.proofs.laws.up_and_down_is_a_routing.Goals as goal

pub returns : goal.returns
returns c = updown_is_routing
