use Rattle.table_laws.proofs.step_ends.Calls.{calls_make_no_loop}
use Rattle.table_laws.proofs.laws.step_ends.calls_make_no_loop.Goals as goal

pub returns : goal.returns
returns c = record { law = calls_make_no_loop }
