use Rattle.trial_loads.proofs.Turns.{shares_in_words}
use Rattle.trial_loads.proofs.laws.shares_law.Goals as goal

pub returns : goal.returns
returns c = shares_in_words
