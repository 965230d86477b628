use Rattle.next_tables.proofs.by_order.Lost.{none_is_lost_by_order}
use Rattle.next_tables.proofs.laws.by_order.none_is_lost_by_order.Goals as goal

pub returns : goal.returns
returns c = record { law = none_is_lost_by_order }
