use Rattle.next_tables.proofs.by_order.Goal.{end_in_the_goal}
use Rattle.next_tables.proofs.laws.by_order.end_in_the_goal.Goals as goal

pub returns : goal.returns
returns c = record { law = end_in_the_goal }
