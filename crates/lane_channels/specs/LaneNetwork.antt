-- A network whose packets take the lanes that a text gives.
use Rattle.std.specs.Prelude.{◌≡◌, ◌*◌, ℕ, List, Option, Vec, length, map, refl}
use Rattle.std.specs.declared.alloc.Global.{Global}
use Rattle.std.specs.Coded.{Coded, code_by, coded×}
use Rattle.std.specs.List.{range_with_len}
use Rattle.subnet_view.specs.Reading.{Cells, switches}
use Rattle.subnet_view.specs.EndPort.{end_ports}
use Rattle.packet_walks.specs.Network.{Seen, seen_code}
use Rattle.lanes_file.specs.contracts.lanes.Lanes as lanes
use Rattle.lanes_file.specs.Lanes.{LanesSaid}
use Rattle.lane_channels.specs.Stops.{first_stop}
use Rattle.lane_channels.specs.FarPorts.{far_port_by}

-- facts and tables, and what a text says about lanes
pub record SeenByLane : Type 0 where
  pub seen : Seen
  pub said : LanesSaid

-- the stored form of facts, tables and lanes: a pair
abbrev pub seen_by_lane_code : Coded SeenByLane
seen_by_lane_code = code_by (Seen × LanesSaid) (coded× seen_code (lanes.the_row).coded) (λ s. (s.seen, s.said)) (λ p.
    record { seen = p.0; said = p.1 }) (λ _. refl)

-- the items of each of the given vectors
abbrev pub lists_of : List (Vec ℕ Global) → List (List ℕ)
lists_of = map (λ lids. lids.items)

-- the fields of a lane network: the port at the far end of the wire in each port of usable switches, and for each end
-- port the stop at which its packets first reach a switch
pub record IsLaneNetwork (cells : Cells) (far_ports : List ℕ) (firsts : List (Option ℕ)) : Type 0 where
  pub far_ports_are : far_ports ≡ map (far_port_by cells) (range_with_len 0 (256 * length (switches cells)))
  pub firsts_are : firsts ≡ map (first_stop cells) (end_ports cells)
