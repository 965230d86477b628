use Rattle.table_laws.proofs.step_ends.Reached.{plans_deliver_what_tables_can}
use Rattle.table_laws.proofs.laws.step_ends.plans_deliver_what_tables_can.Goals as goal

pub returns : goal.returns
returns c = record { law = plans_deliver_what_tables_can }
