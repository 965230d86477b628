use Rattle.table_laws.proofs.step_ends.WholePlans.{plans_give_own_lids}
use Rattle.table_laws.proofs.laws.step_ends.plans_give_own_lids.Goals as goal

pub returns : goal.returns
returns c = record { law = plans_give_own_lids }
