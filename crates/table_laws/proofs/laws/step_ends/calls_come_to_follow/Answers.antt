use Rattle.table_laws.proofs.step_ends.Calls.{calls_come_to_follow}
use Rattle.table_laws.proofs.laws.step_ends.calls_come_to_follow.Goals as goal

pub returns : goal.returns
returns c = record { law = calls_come_to_follow }
