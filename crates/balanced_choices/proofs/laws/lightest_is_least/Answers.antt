use Rattle.balanced_choices.proofs.FirstLeast.{lightest_is_least}
use Rattle.balanced_choices.proofs.laws.lightest_is_least.Goals as goal

pub returns : goal.returns
returns c = lightest_is_least
