-- The edges up and down of switches, by the positions of switches in an order.
use Rattle.std.specs.Prelude.{◌≡◌, ◌<◌, ℕ, List, map, filter, length, Contains, nat_lt, slice_index}
use Rattle.port_graph.specs.declared.edge.Edge.{Edge}
use Rattle.port_graph.specs.Slopes.{ups_at, downs_at}
use Rattle.port_graph.specs.Heads.{edges_at}
use Rattle.subnet_view.specs.SwitchEdges.{SwitchEdges}
use Rattle.subnet_view.specs.SwitchGraph.{switch_at}
use Rattle.updown_routes.specs.Ranks.{slopes_of}

-- the GUID of the switch at position `p` of `order`, a list of the switches' indices
abbrev pub switch_at_position : List SwitchEdges → List ℕ → ℕ → ℕ
switch_at_position graph order p = switch_at graph (slice_index order p)

-- the edge `e`, which leads to a position, as an edge to the GUID of the switch at that position
abbrev pub by_position : List SwitchEdges → List ℕ → Edge → Edge
by_position graph order e = record { port = e.port; to = switch_at_position graph order e.to }

-- the edge `e`, which leads to an index, as an edge to the position of that index
abbrev pub at_position : List ℕ → Edge → Edge
at_position positions e = record { port = e.port; to = slice_index positions e.to }

-- those of `edges` that lead to positions less than `p`
abbrev pub ups_from : ℕ → List Edge → List Edge
ups_from p edges = filter (λ e. nat_lt e.to p) edges

-- those of `edges` that lead to positions greater than `p`
abbrev pub downs_from : ℕ → List Edge → List Edge
downs_from p edges = filter (λ e. nat_lt p e.to) edges

-- `ups` and `downs` are the edges up and down of the switch at position `p`, as edges to positions. Each edge of `ups`
-- leads to a position less than `p`. Each edge of `downs` leads to a position of `order`
pub record IsAtPosition (graph : List SwitchEdges) (order : List ℕ) (p : ℕ) (ups downs : List Edge) : Type 0 where
  pub up : ups_at (slopes_of graph) (switch_at_position graph order p) ≡ map (by_position graph order) ups
  pub down : downs_at (slopes_of graph) (switch_at_position graph order p) ≡ map (by_position graph order) downs
  pub to_lesser : (e : Edge) → Contains ups e → e.to < p
  pub to_position : (e : Edge) → Contains downs e → e.to < length order

-- at each position, `ups` and `downs` have the edges up and down of the switch there, as edges to positions
pub record AreAtPositions (graph : List SwitchEdges) (order : List ℕ) (ups downs : List (List Edge)) : Type 0 where
  pub all_up : length ups ≡ length order
  pub all_down : length downs ≡ length order
  pub each : (p : ℕ) → p < length order → IsAtPosition graph order p (edges_at ups p) (edges_at downs p)
