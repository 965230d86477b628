use Rattle.table_laws.proofs.plan_orders.PlanRight.{plan_turns_rise}
use Rattle.table_laws.proofs.laws.plan_orders.plan_turns_rise.Goals as goal

pub returns : goal.returns
returns c = record { law = plan_turns_rise }
