use Rattle.table_laws.proofs.step_ends.NoLoop.{free_steps_make_no_loop}
use Rattle.table_laws.proofs.laws.step_ends.free_steps_make_no_loop.Goals as goal

pub returns : goal.returns
returns c = record { law = free_steps_make_no_loop }
