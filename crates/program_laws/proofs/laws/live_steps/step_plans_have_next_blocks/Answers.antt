use Rattle.program_laws.proofs.live_steps.StepPlan as proved
use Rattle.program_laws.proofs.laws.live_steps.step_plans_have_next_blocks.Goals as goal

pub returns : goal.returns
returns c = proved.step_plans_have_next_blocks
