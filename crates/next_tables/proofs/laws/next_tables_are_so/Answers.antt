use Rattle.next_tables.proofs.StepLaws.{next_tables_are_so}
use Rattle.next_tables.proofs.laws.next_tables_are_so.Goals as goal

pub returns : goal.returns
returns c = record { law = next_tables_are_so }
