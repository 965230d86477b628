use Rattle.lft_blocks.proofs.RulesRoute.{rules_stay}
use Rattle.lft_blocks.proofs.laws.rules_stay.Goals as goal

pub returns : goal.returns
returns c = rules_stay
