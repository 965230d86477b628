use Rattle.held_order.proofs.Agreed.{told_orders_are_stable}
use Rattle.held_order.proofs.laws.told.told_orders_are_stable.Goals as goal

pub returns : goal.returns
returns c = record { law = told_orders_are_stable }
