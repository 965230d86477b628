use Rattle.held_order.proofs.WholeTables.{whole_tables_grow}
use Rattle.held_order.proofs.laws.between.whole_tables_grow.Goals as goal

pub returns : goal.returns
returns c = record { law = whole_tables_grow }
