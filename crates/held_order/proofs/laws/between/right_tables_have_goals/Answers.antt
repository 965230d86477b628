use Rattle.held_order.proofs.HandedSteps.{right_tables_have_goals}
use Rattle.held_order.proofs.laws.between.right_tables_have_goals.Goals as goal

pub returns : goal.returns
returns c = record { law = right_tables_have_goals }
