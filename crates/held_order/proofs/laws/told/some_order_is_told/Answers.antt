use Rattle.held_order.proofs.ToldOrders.{some_order_is_told}
use Rattle.held_order.proofs.laws.told.some_order_is_told.Goals as goal

pub returns : goal.returns
returns c = record { law = some_order_is_told }
