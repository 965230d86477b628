use Rattle.table_laws.proofs.step_ends.WholePlans.{plans_are_whole}
use Rattle.table_laws.proofs.laws.step_ends.plans_are_whole.Goals as goal

pub returns : goal.returns
returns c = record { law = plans_are_whole }
