use Rattle.lft_blocks.proofs.BlockLaws.{blocks_hold_entries}
use Rattle.lft_blocks.proofs.laws.blocks_hold_entries.Goals as goal

pub returns : goal.returns
returns c = blocks_hold_entries
