use Rattle.lid_assign.proofs.Staying.{lids_stay}
use Rattle.lft_blocks.proofs.laws.lids_stay_in_plans.Goals as goal

pub returns : goal.returns
returns c = λ rule. lids_stay
