use Rattle.held_order.proofs.ToldOrders.{told_orders_are_right}
use Rattle.held_order.proofs.laws.told.told_orders_are_right.Goals as goal

pub returns : goal.returns
returns c = record { law = told_orders_are_right }
