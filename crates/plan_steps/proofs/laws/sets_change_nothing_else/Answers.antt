use Rattle.plan_steps.proofs.SetLaws as laws
use Rattle.plan_steps.proofs.laws.sets_change_nothing_else.Goals as goal

pub returns : goal.returns
returns c = laws.sets_change_nothing_else
