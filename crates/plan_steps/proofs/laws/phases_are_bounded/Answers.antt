use Rattle.plan_steps.proofs.Bounds.{phase_bound_law}
use Rattle.plan_steps.proofs.laws.phases_are_bounded.Goals as goal

pub returns : goal.returns
returns c = phase_bound_law
