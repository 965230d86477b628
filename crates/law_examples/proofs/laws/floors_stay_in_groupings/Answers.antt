use Rattle.law_examples.proofs.Weaker.{floors_stay_in_groupings}
use Rattle.law_examples.proofs.laws.floors_stay_in_groupings.Goals as goal

pub returns : goal.returns
returns c = record { law = floors_stay_in_groupings }
