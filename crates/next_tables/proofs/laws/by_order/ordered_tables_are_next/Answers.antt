use Rattle.next_tables.proofs.by_order.OrderedTables.{ordered_tables_are_next}
use Rattle.next_tables.proofs.laws.by_order.ordered_tables_are_next.Goals as goal

pub returns : goal.returns
returns c = record { law = ordered_tables_are_next }
