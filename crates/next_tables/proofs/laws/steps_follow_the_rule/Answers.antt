use Rattle.next_tables.proofs.StepLaws.{steps_follow_the_rule}
use Rattle.next_tables.proofs.laws.steps_follow_the_rule.Goals as goal

pub returns : goal.returns
returns c = record { law = steps_follow_the_rule }
