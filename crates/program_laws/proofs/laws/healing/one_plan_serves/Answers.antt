use Rattle.program_laws.proofs.laws.healing.one_plan_serves.Goals as goal
use Rattle.program_laws.proofs.managed.OnePlan as managed

pub returns : goal.returns
returns c = managed.one_plan_serves
