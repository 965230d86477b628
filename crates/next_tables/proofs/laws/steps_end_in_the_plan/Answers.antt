use Rattle.next_tables.proofs.StepLaws.{steps_end_in_the_plan}
use Rattle.next_tables.proofs.laws.steps_end_in_the_plan.Goals as goal

pub returns : goal.returns
returns c = record { law = steps_end_in_the_plan }
