use Rattle.held_order.proofs.Agreement.{orders_stay}
use Rattle.held_order.proofs.laws.between.orders_stay.Goals as goal

pub returns : goal.returns
returns c = record { law = orders_stay }
