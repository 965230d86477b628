use Rattle.table_laws.proofs.step_ends.Own.{last_text_is_the_plans}
use Rattle.table_laws.proofs.laws.step_ends.last_text_is_the_plans.Goals as goal

pub returns : goal.returns
returns c = record { law = last_text_is_the_plans }
