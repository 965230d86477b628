use Rattle.next_tables.proofs.by_order.Waits.{no_cycle_by_order}
use Rattle.next_tables.proofs.laws.by_order.no_cycle_by_order.Goals as goal

pub returns : goal.returns
returns c = record { law = no_cycle_by_order }
