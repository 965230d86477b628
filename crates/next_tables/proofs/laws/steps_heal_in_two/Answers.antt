use Rattle.next_tables.proofs.StepLaws.{steps_heal_in_two}
use Rattle.next_tables.proofs.laws.steps_heal_in_two.Goals as goal

pub returns : goal.returns
returns c = record { law = steps_heal_in_two }
