use Rattle.table_laws.proofs.step_ends.NoLoop.{right_tables_make_no_loop}
use Rattle.table_laws.proofs.laws.step_ends.right_tables_make_no_loop.Goals as goal

pub returns : goal.returns
returns c = record { law = right_tables_make_no_loop }
