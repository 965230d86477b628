use Rattle.next_tables.proofs.by_order.Healed.{heal_by_order}
use Rattle.next_tables.proofs.laws.by_order.heal_by_order.Goals as goal

pub returns : goal.returns
returns c = record { law = heal_by_order }
