use Rattle.table_laws.proofs.step_ends.Calls.{following_calls_end}
use Rattle.table_laws.proofs.laws.step_ends.following_calls_end.Goals as goal

pub returns : goal.returns
returns c = record { law = following_calls_end }
