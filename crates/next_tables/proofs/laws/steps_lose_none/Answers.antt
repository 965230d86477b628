use Rattle.next_tables.proofs.StepLaws.{steps_lose_none}
use Rattle.next_tables.proofs.laws.steps_lose_none.Goals as goal

pub returns : goal.returns
returns c = record { law = steps_lose_none }
