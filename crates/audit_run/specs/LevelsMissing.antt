-- Packets between adapters to which a text of lanes gives no service level.
use Rattle.std.specs.Prelude.{ℕ, ◌&&◌, Bool, not, List, [], filter, map, Option, is_some}
use Rattle.std.specs.Prelude.{if◌then◌else◌}
use Rattle.std.specs.List.{flat_map}
use Rattle.subnet_view.specs.Reading.{Cells}
use Rattle.subnet_view.specs.EndPort.{end_ports}
use Rattle.held_tables.specs.declared.held.HeldLid.{HeldLid}
use Rattle.held_tables.specs.Held.{HeldPlan}
use Rattle.held_tables.specs.Tables.{is_owner, is_same_end, lines_of}
use Rattle.audit_counts.specs.declared.site.Site.{Site}
use Rattle.audit_counts.specs.Site.{are_adapters, are_joined, site_of}
use Rattle.lanes_file.specs.Lanes.{LanesSaid, level_of}
use Rattle.audit_run.specs.declared.levels_missing.PacketPair.{PacketPair}

-- `site` and `owner` are of different adapter ports in the same component, and `level`, that of packets from `site` to
-- `owner`, is None
abbrev pub lacks : Site → Site → Option ℕ → Bool
lacks site owner level =
    are_joined site owner && are_adapters site.port owner.port && not (is_same_end site.port owner.port)
    && not (is_some level)

-- `site` and `owner` are of different adapter ports in the same component, and the text gives packets from `site` for
-- the LID of `line` no service level
abbrev pub lacks_level : LanesSaid → HeldLid → Site → Site → Bool
lacks_level said line owner site =
    lacks site owner (level_of said site.port.node site.port.port line.lid)

-- the packet from `site` for the LID of `line`
abbrev pub pair_of : HeldLid → Site → PacketPair
pair_of line site = record { source = site.port; lid = line.lid }

-- for the LID of `line`, which the end port of `owner` holds, the packets from `sites` without a service level
abbrev pub missing_for : LanesSaid → List Site → HeldLid → Site → List PacketPair
missing_for said sites line owner = map (pair_of line) (filter (lacks_level said line owner) sites)

-- for the LID of `line`, the packets without a service level from other adapter ports in the component of the line's
-- port; none if the line's end port is not one of the facts
abbrev pub missing_at : LanesSaid → Cells → HeldLid → List PacketPair
missing_at said cells line =
    if is_owner (end_ports cells) line.port
    then missing_for said (map (site_of cells) (end_ports cells)) line (site_of cells line.port) else []

-- for all held LIDs, the packets without a service level between adapter ports of the same component
abbrev pub missing_levels : LanesSaid → Cells → HeldPlan → List PacketPair
missing_levels said cells held = flat_map (missing_at said cells) (lines_of held)
