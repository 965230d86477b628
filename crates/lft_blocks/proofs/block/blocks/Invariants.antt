use Rattle.std.proofs.Common.{◌≡◌, map}
use Rattle.std.specs.List.{range_with_len}
use Rattle.lft_blocks.specs.Attachment.{block_in}
use Rattle.lft_blocks.proofs.block.blocks.Given as goal

-- the blocks so far
abbrev pub invariant-loop-b : goal.invariant-loop-b
invariant-loop-b l = l.blocks.items ≡ map (block_in l.attachments l.row l.own) (range_with_len 0 l.b)
