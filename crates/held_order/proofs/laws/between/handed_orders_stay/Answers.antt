use Rattle.held_order.proofs.HandedSteps.{handed_orders_stay}
use Rattle.held_order.proofs.laws.between.handed_orders_stay.Goals as goal

pub returns : goal.returns
returns c = record { law = handed_orders_stay }
