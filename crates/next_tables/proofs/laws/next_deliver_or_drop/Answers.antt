use Rattle.next_tables.proofs.Steps.{next_deliver_or_drop}
use Rattle.next_tables.proofs.laws.next_deliver_or_drop.Goals as goal

pub returns : goal.returns
returns c = record { law = next_deliver_or_drop }
