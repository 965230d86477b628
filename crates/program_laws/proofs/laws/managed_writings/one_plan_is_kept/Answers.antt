use Rattle.program_laws.proofs.laws.managed_writings.one_plan_is_kept.Goals as goal
use Rattle.program_laws.proofs.managed.OnePlan as managed

pub returns : goal.returns
returns c = managed.one_plan_is_kept
