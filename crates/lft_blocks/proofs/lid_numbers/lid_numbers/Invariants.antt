use Rattle.std.proofs.Common.{◌≡◌, map}
use Rattle.std.specs.List.{range_with_len}
use Rattle.lft_blocks.specs.LidNumbers.{indexed_number}
use Rattle.lft_blocks.proofs.lid_numbers.lid_numbers.Given as goal

-- the numbers so far
abbrev pub invariant-loop-lid : goal.invariant-loop-lid
invariant-loop-lid l = l.numbers.items ≡ map (indexed_number l.by l.attachments) (range_with_len 0 l.lid)
