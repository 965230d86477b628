use Rattle.lft_blocks.proofs.BlockOwners.{blocks_are_of_switches}
use Rattle.lft_blocks.proofs.laws.blocks_are_of_switches.Goals as goal

pub returns : goal.returns
returns c = blocks_are_of_switches
