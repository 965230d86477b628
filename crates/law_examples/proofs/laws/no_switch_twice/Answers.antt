use Rattle.law_examples.proofs.Weaker.{no_switch_twice}
use Rattle.law_examples.proofs.laws.no_switch_twice.Goals as goal

pub returns : goal.returns
returns c = record { law = no_switch_twice }
