use Rattle.next_tables.proofs.Steps.{end_in_the_plan}
use Rattle.next_tables.proofs.laws.end_in_the_plan.Goals as goal

pub returns : goal.returns
returns c = record { law = end_in_the_plan }
