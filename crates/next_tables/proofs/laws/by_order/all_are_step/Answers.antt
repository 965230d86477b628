use Rattle.next_tables.proofs.by_order.Round.{all_are_step}
use Rattle.next_tables.proofs.laws.by_order.all_are_step.Goals as goal

pub returns : goal.returns
returns c = record { law = all_are_step }
