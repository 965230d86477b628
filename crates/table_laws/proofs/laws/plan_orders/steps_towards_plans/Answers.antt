use Rattle.table_laws.proofs.plan_orders.PlanSteps.{steps_towards_plans}
use Rattle.table_laws.proofs.laws.plan_orders.steps_towards_plans.Goals as goal

pub returns : goal.returns
returns c = record { law = steps_towards_plans }
