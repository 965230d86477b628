use Rattle.balanced_choices.proofs.CarriedTo.{first_loads_in_words}
use Rattle.balanced_choices.proofs.laws.first_loads_law.Goals as goal

pub returns : goal.returns
returns c = first_loads_in_words
