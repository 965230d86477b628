use Rattle.next_tables.proofs.by_order.ChangingFabric.{packets_arrive_by_order}
use Rattle.next_tables.proofs.laws.by_order.packets_arrive_by_order.Goals as goal

pub returns : goal.returns
returns c = record { law = packets_arrive_by_order }
