use Rattle.next_tables.proofs.BeingWritten.{written_tables_are_in_change}
use Rattle.next_tables.proofs.laws.written_tables_are_in_change.Goals as goal

pub returns : goal.returns
returns c = record { law = written_tables_are_in_change }
