use Rattle.held_order.proofs.Agreed.{told_orders_agree}
use Rattle.held_order.proofs.laws.told.told_orders_agree.Goals as goal

pub returns : goal.returns
returns c = record { law = told_orders_agree }
