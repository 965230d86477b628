use Rattle.next_tables.proofs.by_order.ToldRight.{rightness_is_told}
use Rattle.next_tables.proofs.laws.by_order.rightness_is_told.Goals as goal

pub returns : goal.returns
returns c = record { law = rightness_is_told }
