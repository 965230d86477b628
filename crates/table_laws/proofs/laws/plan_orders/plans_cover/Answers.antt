use Rattle.table_laws.proofs.plan_orders.PlansCover.{plans_cover}
use Rattle.table_laws.proofs.laws.plan_orders.plans_cover.Goals as goal

pub returns : goal.returns
returns c = record { law = plans_cover }
