use Rattle.two_orders.proofs.GrownOrders.{grown_orders_stay}
use Rattle.two_orders.proofs.laws.grown_orders_stay.Goals as goal

pub returns : goal.returns
returns c = record { law = grown_orders_stay }
