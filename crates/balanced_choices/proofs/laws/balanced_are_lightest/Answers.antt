use Rattle.balanced_choices.proofs.FirstLightest.{balanced_are_lightest}
use Rattle.balanced_choices.proofs.laws.balanced_are_lightest.Goals as goal

pub returns : goal.returns
returns c = balanced_are_lightest
