use Rattle.plan_steps.proofs.SetLaws as laws
use Rattle.plan_steps.proofs.laws.lid_and_state_agree.Goals as goal

pub returns : goal.returns
returns c = laws.lid_and_state_agree
