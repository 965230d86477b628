use Rattle.tables_file.proofs.Printed.{tables_are_read}
use Rattle.tables_file.proofs.laws.printed_tables_are_read.Goals as goal

pub returns : goal.returns
returns c = record { law = tables_are_read }
