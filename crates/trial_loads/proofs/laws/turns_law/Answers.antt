use Rattle.trial_loads.proofs.Turns.{turns_in_words}
use Rattle.trial_loads.proofs.laws.turns_law.Goals as goal

pub returns : goal.returns
returns c = turns_in_words
