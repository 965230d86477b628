use Rattle.subnet_view.proofs.UsableSwitches.{usable_law}
use Rattle.subnet_view.proofs.laws.usable_is_in_words.Goals as goal

pub returns : goal.returns
returns c = usable_law
