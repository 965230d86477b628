use Rattle.next_tables.proofs.by_order.Waits.{numbers_rise_by_order}
use Rattle.next_tables.proofs.laws.by_order.numbers_rise_by_order.Goals as goal

pub returns : goal.returns
returns c = record { law = numbers_rise_by_order }
