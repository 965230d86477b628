use Rattle.law_examples.proofs.Changed.{some_tables_change}
use Rattle.law_examples.proofs.laws.some_tables_change.Goals as goal

pub returns : goal.returns
returns c = record { law = some_tables_change }
