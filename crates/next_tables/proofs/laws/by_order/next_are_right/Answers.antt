use Rattle.next_tables.proofs.by_order.Turns.{next_are_right}
use Rattle.next_tables.proofs.laws.by_order.next_are_right.Goals as goal

pub returns : goal.returns
returns c = record { law = next_are_right }
