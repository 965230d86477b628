use Rattle.std.proofs.Common.{◌≡◌}
use Rattle.lft_blocks.specs.Attachment.{row_of}
use Rattle.lft_blocks.proofs.updown_table.row.Given as goal

-- the ports so far
abbrev pub invariant-loop-to : goal.invariant-loop-to
invariant-loop-to l = l.row.items ≡ row_of l.routes l.own l.to
