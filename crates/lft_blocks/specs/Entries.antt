-- The entries of linear forwarding tables, in blocks of 64: by which port a switch sends packets for a LID (subnet
-- management chapter, LinearForwardingTable).
use Rattle.std.specs.Prelude.{ℕ, suc, ◌+◌, ◌*◌, ◌/◌, List, map, Option, Some, ◌==◌, unwrap_or, option_and_then, if◌then◌else◌}
use Rattle.std.specs.Option.{option_map_or}
use Rattle.std.specs.List.{range_with_len}
use Rattle.subnet_view.specs.declared.end_port.EndPort.{EndPort}
use Rattle.subnet_view.specs.Reading.{Cells}
use Rattle.subnet_view.specs.Wires.{attachment_of}
use Rattle.lid_assign.specs.Lids.{Given, owner_of}

-- the attachment of the end port that owns `lid`; None if no end port owns `lid`, or if the owner has no attachment
abbrev pub attachment_of_lid : Cells → Given → ℕ → Option (ℕ × ℕ)
attachment_of_lid cells given lid = option_and_then (attachment_of cells) (owner_of given lid)

-- the port by which a packet for a LID leaves one switch towards another; None if there is no such port
abbrev pub Next : Type 0
Next = ℕ → ℕ → ℕ → Option ℕ

-- the port of the attachment if switch `s` is its switch, and otherwise the next port towards that switch; 255 if there
-- is no next port
abbrev pub port_to : Next → ℕ → ℕ → ℕ × ℕ → ℕ
port_to next lid s attachment = if attachment.0 == s then attachment.1 else unwrap_or (next lid s attachment.0) 255

-- the entry of switch `s` for `lid`; 255 if the LID has no attachment, or if there is no next port
abbrev pub entry : (ℕ → Option (ℕ × ℕ)) → Next → ℕ → ℕ → ℕ
entry attachments next s lid = option_map_or (port_to next lid s) (attachments lid) 255

-- the entries of switch `s` for the 64 LIDs that start at 64 `b`
abbrev pub block : (ℕ → Option (ℕ × ℕ)) → Next → ℕ → ℕ → List ℕ
block attachments next s b = map (λ i. entry attachments next s (64 * b + i)) (range_with_len 0 64)

-- the number of blocks that are needed for all LIDs up to `top`; 0 if `top` is None
abbrev pub block_count : Option ℕ → ℕ
block_count top = option_map_or (λ lid. suc (lid / 64)) top 0

-- the first `count` blocks of switch `s`
abbrev pub blocks : (ℕ → Option (ℕ × ℕ)) → Next → ℕ → ℕ → List (List ℕ)
blocks attachments next count s = map (block attachments next s) (range_with_len 0 count)
