-- Ranks of switches, and which edges lead up and which down.
use Rattle.std.specs.Prelude.{◌≡◌, ℕ, Bool, List, map, filter, Option, ◌==◌, ◌&&◌, ◌||◌, nat_lt, unwrap_or, option_and_then}
use Rattle.port_graph.specs.Slopes.{Slope}
use Rattle.subnet_view.specs.SwitchEdges.{SwitchEdges}
use Rattle.subnet_view.specs.Graph.{guids_of}
use Rattle.subnet_view.specs.GraphLaws.{IsGraph}
use Rattle.subnet_view.specs.Components.{distance, root_of}

-- the rank of switch `a`: the length of a shortest walk from the root of its component to `a`; None if `a` is not a
-- switch of the graph
abbrev pub rank_of : List SwitchEdges → ℕ → Option ℕ
rank_of graph a = option_and_then (λ root. distance graph root a) (root_of graph a)

-- whether switch `a` is before switch `b`: it has a lesser rank, or an equal rank and a lesser GUID. A missing rank
-- counts as 0
abbrev pub is_before : List SwitchEdges → ℕ → ℕ → Bool
is_before graph a b = let ra = unwrap_or (rank_of graph a) 0 in let rb =
    unwrap_or (rank_of graph b) 0 in nat_lt ra rb || (ra == rb && nat_lt a b)

-- switch `c` with its edges up, to switches before it, and its edges down, to switches after it
abbrev pub slope_of : List SwitchEdges → SwitchEdges → Slope
slope_of graph c = record {
  guid = c.guid;
  ups = filter (λ e. is_before graph e.to c.guid) c.edges;
  downs =
      filter (λ e. is_before graph c.guid e.to) c.edges;
}

-- each switch with its edges up and its edges down
abbrev pub slopes_of : List SwitchEdges → List Slope
slopes_of graph = map (slope_of graph) graph

-- `graph` is a graph, and `ranks` has the rank of each of its switches, in ascending order of GUID
pub record IsRanked (graph : List SwitchEdges) (ranks : List (Option ℕ)) : Type 0 where
  pub is_graph : IsGraph graph
  pub are_ranks : ranks ≡ map (rank_of graph) (guids_of graph)
