use Rattle.tables_file.proofs.Printed.{printed_is_read}
use Rattle.tables_file.proofs.laws.printed_plans_are_read.Goals as goal

pub returns : goal.returns
returns c = record { law = printed_is_read }
