use Rattle.std.proofs.Common.{◌≡◌, map}
use Rattle.std.specs.List.{range_with_len}
use Rattle.lft_blocks.specs.Attachment.{table_in}
use Rattle.lft_blocks.proofs.updown_table.tables.Given as goal

-- the tables so far
abbrev pub invariant-loop-own : goal.invariant-loop-own
invariant-loop-own l = l.tables.items ≡ map (table_in l.attachments l.routes l.guids l.count) (range_with_len 0 l.own)
