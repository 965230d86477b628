use Rattle.law_examples.proofs.Computed.{best_is_picked}
use Rattle.law_examples.proofs.laws.best_is_picked.Goals as goal

pub returns : goal.returns
returns c = record { law = best_is_picked }
