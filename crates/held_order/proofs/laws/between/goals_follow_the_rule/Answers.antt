use Rattle.held_order.proofs.Safe.{goals_follow_the_rule}
use Rattle.held_order.proofs.laws.between.goals_follow_the_rule.Goals as goal

pub returns : goal.returns
returns c = record { law = goals_follow_the_rule }
