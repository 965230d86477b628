use Rattle.lft_blocks.proofs.RulesRoute.{rules_are_routings}
use Rattle.lft_blocks.proofs.laws.rules_are_routings.Goals as goal

pub returns : goal.returns
returns c = rules_are_routings
