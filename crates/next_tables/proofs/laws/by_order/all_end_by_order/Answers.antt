use Rattle.next_tables.proofs.by_order.Round.{all_end_by_order}
use Rattle.next_tables.proofs.laws.by_order.all_end_by_order.Goals as goal

pub returns : goal.returns
returns c = record { law = all_end_by_order }
