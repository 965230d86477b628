use Rattle.manager_laws.proofs.Held.{written_plans_are_held}
use Rattle.manager_laws.proofs.laws.written_plans_are_held.Goals as goal

pub returns : goal.returns
returns c = written_plans_are_held
