use Rattle.next_tables.proofs.by_order.Goal.{end_in_twice_as_many}
use Rattle.next_tables.proofs.laws.by_order.end_in_twice_as_many.Goals as goal

pub returns : goal.returns
returns c = record { law = end_in_twice_as_many }
