use Rattle.table_laws.proofs.step_ends.NoLoop.{told_steps_make_no_loop}
use Rattle.table_laws.proofs.laws.step_ends.told_steps_make_no_loop.Goals as goal

pub returns : goal.returns
returns c = record { law = told_steps_make_no_loop }
