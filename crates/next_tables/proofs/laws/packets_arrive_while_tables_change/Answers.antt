use Rattle.next_tables.proofs.ChangingFabric.{packets_arrive_while_tables_change}
use Rattle.next_tables.proofs.laws.packets_arrive_while_tables_change.Goals as goal

pub returns : goal.returns
returns c = record { law = packets_arrive_while_tables_change }
