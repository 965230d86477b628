use Rattle.program_laws.proofs.laws.managed_writings.some_manager_writes_one_plan.Goals as goal
use Rattle.program_laws.proofs.managed.OnePlanExample as managed

pub returns : goal.returns
returns c = managed.some_manager_writes_one_plan
