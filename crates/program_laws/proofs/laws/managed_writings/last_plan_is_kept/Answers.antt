use Rattle.program_laws.proofs.laws.managed_writings.last_plan_is_kept.Goals as goal
use Rattle.program_laws.proofs.managed.OnePlan as managed

pub returns : goal.returns
returns c = managed.last_plan_is_kept
