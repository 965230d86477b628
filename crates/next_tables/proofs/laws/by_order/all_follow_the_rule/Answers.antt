use Rattle.next_tables.proofs.by_order.Round.{all_follow_the_rule}
use Rattle.next_tables.proofs.laws.by_order.all_follow_the_rule.Goals as goal

pub returns : goal.returns
returns c = record { law = all_follow_the_rule }
