use Rattle.lft_blocks.proofs.Stability.{plans_stay}
use Rattle.lft_blocks.proofs.laws.plans_stay.Goals as goal

pub returns : goal.returns
returns c = plans_stay
