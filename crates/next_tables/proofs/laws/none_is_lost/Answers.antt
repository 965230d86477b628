use Rattle.next_tables.proofs.Steps.{none_is_lost}
use Rattle.next_tables.proofs.laws.none_is_lost.Goals as goal

pub returns : goal.returns
returns c = record { law = none_is_lost }
