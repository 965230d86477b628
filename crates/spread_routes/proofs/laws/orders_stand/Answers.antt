use Rattle.spread_routes.proofs.OrderLaws.{orders_stand}
use Rattle.spread_routes.proofs.laws.orders_stand.Goals as goal

pub returns : goal.returns
returns c = orders_stand
