-- A test of whether tables are right by an order: no packet goes down and then up.
use Rattle.std.specs.Prelude.{◌≡◌, ◌↔◌, ◌≤◌, ℕ, ◌&&◌, not, Bool, true, false, List, length, Option, None, slice_index_or}
use Rattle.std.specs.List.{list_all, range_with_len}
use Rattle.std.specs.Option.{option_map_or}
use Rattle.port_graph.specs.declared.edge.Edge.{Edge}
use Rattle.subnet_view.specs.Reading.{Cells}
use Rattle.held_tables.specs.Held.{HeldPlan}
use Rattle.packet_walks.specs.Edges.{edges_of, greatest_top}
use Rattle.next_tables.specs.SwitchPositions.{AreRight, is_down, is_up}

-- along `edges`, packets leave the switch at index `j` on a channel up
abbrev pub leaves_up : (ℕ → ℕ) → List (Option Edge) → ℕ → Bool
leaves_up q edges j = option_map_or (λ e. is_up q j e.to) (slice_index_or edges j None) false

-- along `edges`, no packet leaves the switch at index `i` on a channel down and then leaves the next switch on a
-- channel up
abbrev pub goes_well : (ℕ → ℕ) → List (Option Edge) → ℕ → Bool
goes_well q edges i =
    option_map_or (λ e. not (is_down q i e.to && leaves_up q edges e.to)) (slice_index_or edges i None) true

-- along `edges`, no packet for the LID goes down and then up in the order `q`
abbrev pub is_right_column : (ℕ → ℕ) → List (Option Edge) → Bool
is_right_column q edges = list_all (goes_well q edges) (range_with_len 0 (length edges))

-- under `tables`, no packet for a LID from 1 to the greatest top goes down and then up in the order `q`
abbrev pub are_right : Cells → (ℕ → ℕ) → HeldPlan → Bool
are_right cells q tables =
    list_all (λ lid. is_right_column q (edges_of cells tables lid)) (range_with_len 1 (greatest_top cells tables))

-- `are_right` is true exactly when tables are right by the order for every LID
abbrev pub RightnessIsTold : Type 0
RightnessIsTold =
    (cells : Cells) (q : ℕ → ℕ) (tables : HeldPlan)
    → (are_right cells q tables ≡ true) ↔ ((lid : ℕ) → 1 ≤ lid → AreRight cells q tables lid)
