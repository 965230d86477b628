use Rattle.next_tables.proofs.by_order.Lost.{rule_is_choice}
use Rattle.next_tables.proofs.laws.by_order.rule_is_choice.Goals as goal

pub returns : goal.returns
returns c = record { law = rule_is_choice }
