use Rattle.table_laws.proofs.step_ends.SpreadOrders.{spread_orders_grow}
use Rattle.table_laws.proofs.laws.step_ends.spread_orders_grow.Goals as goal

pub returns : goal.returns
returns c = record { law = spread_orders_grow }
