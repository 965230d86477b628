use Rattle.table_laws.proofs.step_ends.Texts.{printed_steps_end}
use Rattle.table_laws.proofs.laws.step_ends.printed_steps_end.Goals as goal

pub returns : goal.returns
returns c = record { law = printed_steps_end }
