use Rattle.table_laws.proofs.plan_orders.PlanSteps.{plans_are_right}
use Rattle.table_laws.proofs.laws.plan_orders.plans_are_right.Goals as goal

pub returns : goal.returns
returns c = record { law = plans_are_right }
