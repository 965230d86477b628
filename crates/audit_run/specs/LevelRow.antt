-- The end ports whose packets may lack a service level, for 64 LIDs at a time: those of a block, the first of which
-- is 64 times the block's number. An audit by lane looks at these instead of all end ports.
use Rattle.std.specs.Prelude.{ℕ, ◌%◌, ◌≡◌, Bool, false, not, List, filter, find, map, Option, None, Some, nat_lt}
use Rattle.std.specs.Prelude.{slice_index}
use Rattle.std.specs.List.{list_all, range_with_len}
use Rattle.held_tables.specs.declared.held.HeldLid.{HeldLid}
use Rattle.audit_counts.specs.declared.site.Site.{Site}
use Rattle.lanes_file.specs.Lanes.{LanesSaid, is_block, level_by}
use Rattle.lanes_file.specs.declared.lanes.LevelBlock.{LevelBlock}
use Rattle.audit_run.specs.declared.level_row.RowSender.{RowSender}
use Rattle.audit_run.specs.declared.levels_missing.PacketPair.{PacketPair}
use Rattle.audit_run.specs.LevelsMissing.{lacks, pair_of}

-- the block of levels of packets from the end port of `site` to the LIDs of the block `number`; None if the text has
-- no such block
abbrev pub block_of : LanesSaid → ℕ → Site → Option LevelBlock
block_of said number site = find (is_block site.port.node site.port.port number) said.levels

-- each byte of `block` is a service level, so that packets to each of its LIDs have one
abbrev pub gives_each : LevelBlock → Bool
gives_each block = list_all (λ index. nat_lt (slice_index block.levels index) 16) (range_with_len 0 64)

-- there is a block, and each of its bytes is a service level
abbrev pub is_full : Option LevelBlock → Bool
is_full None = false
is_full (Some block) = gives_each block

-- the end port of `site` with its levels for the LIDs of the block `number`
abbrev pub sender_at : LanesSaid → ℕ → Site → RowSender
sender_at said number site = record { site = site; block = block_of said number site }

-- the end ports of `sites` whose packets may lack a level for one of the LIDs of the block `number`
abbrev pub row_of : LanesSaid → List Site → ℕ → List RowSender
row_of said sites number = filter (λ sender. not (is_full sender.block)) (map (sender_at said number) sites)

-- `senders` is the row of `sites` for the LIDs of the block `number`
abbrev pub IsRow : LanesSaid → List Site → ℕ → List RowSender → Type 0
IsRow said sites number senders = senders ≡ row_of said sites number

-- `sender` and `owner` are of different adapter ports in the same component, and the block of `sender` gives no
-- service level to its packets for the LID of `line`
abbrev pub sender_lacks : LanesSaid → HeldLid → Site → RowSender → Bool
sender_lacks said line owner sender = lacks sender.site owner (level_by said.level (line.lid % 64) sender.block)

-- the packets for the LID of `line` from those of `senders` that lack a service level for it (`sender_lacks`). The end
-- port of `owner` holds the LID
abbrev pub missing_in_row : LanesSaid → List RowSender → HeldLid → Site → List PacketPair
missing_in_row said senders line owner =
    map (λ sender. pair_of line sender.site) (filter (sender_lacks said line owner) senders)
