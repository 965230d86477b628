use Rattle.std.proofs.Common.{◌≡◌, ◌+◌, ◌*◌, ◌<◌, ℕ, length, get_or}
use Rattle.lft_blocks.specs.Attachment.{entry_in}
use Rattle.lft_blocks.proofs.block.block.Given as goal

-- the entries below the index are there
abbrev pub invariant-loop-i : goal.invariant-loop-i
invariant-loop-i l = (length l.block ≡ 64) × ((k : ℕ) → k < l.i → get_or l.block k 0 ≡ entry_in l.attachments l.row l.own (64 * l.b + k))
