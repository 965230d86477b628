use Rattle.next_tables.proofs.by_order.Round.{next_deliver_or_drop_by_order}
use Rattle.next_tables.proofs.laws.by_order.next_deliver_or_drop_by_order.Goals as goal

pub returns : goal.returns
returns c = record { law = next_deliver_or_drop_by_order }
