use Rattle.table_laws.proofs.step_ends.Ended.{steps_end}
use Rattle.table_laws.proofs.laws.step_ends.steps_end.Goals as goal

pub returns : goal.returns
returns c = record { law = steps_end }
