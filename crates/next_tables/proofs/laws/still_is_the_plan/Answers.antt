use Rattle.next_tables.proofs.Steps.{still_is_the_plan}
use Rattle.next_tables.proofs.laws.still_is_the_plan.Goals as goal

pub returns : goal.returns
returns c = record { law = still_is_the_plan }
