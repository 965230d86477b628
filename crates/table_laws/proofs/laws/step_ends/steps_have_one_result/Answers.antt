use Rattle.table_laws.proofs.step_ends.OneStep.{steps_have_one_result}
use Rattle.table_laws.proofs.laws.step_ends.steps_have_one_result.Goals as goal

pub returns : goal.returns
returns c = record { law = steps_have_one_result }
