use Rattle.next_tables.proofs.by_order.EndRight.{end_right_by_any}
use Rattle.next_tables.proofs.laws.by_order.end_right_by_any.Goals as goal

pub returns : goal.returns
returns c = record { law = end_right_by_any }
