use Rattle.plan_steps.proofs.SetLaws as laws
use Rattle.plan_steps.proofs.laws.sets_say_the_plan.Goals as goal

pub returns : goal.returns
returns c = laws.sets_say_the_plan
