use Rattle.next_tables.proofs.Steps.{heal_in_two}
use Rattle.next_tables.proofs.laws.heal_in_two.Goals as goal

pub returns : goal.returns
returns c = record { law = heal_in_two }
