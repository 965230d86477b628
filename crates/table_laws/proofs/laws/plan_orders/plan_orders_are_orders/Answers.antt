use Rattle.table_laws.proofs.plan_orders.PlanSteps.{plan_orders_are_orders}
use Rattle.table_laws.proofs.laws.plan_orders.plan_orders_are_orders.Goals as goal

pub returns : goal.returns
returns c = record { law = plan_orders_are_orders }
