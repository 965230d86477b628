-- The next ports between the switches of a graph, in ascending order of GUID.
use Rattle.std.specs.Prelude.{◌≡◌, ℕ, List, map, Option, option_and_then, slice_get}
use Rattle.port_graph.specs.declared.edge.Edge.{Edge}
use Rattle.port_graph.specs.NextPorts.{indexed}
use Rattle.port_graph.specs.Slopes.{next_port}
use Rattle.subnet_view.specs.SwitchEdges.{SwitchEdges}
use Rattle.subnet_view.specs.Graph.{guids_of}
use Rattle.subnet_view.specs.GraphLaws.{IsGraph}
use Rattle.updown_routes.specs.Ranks.{slopes_of}

-- the next port of each switch towards switch `t`, with the switches in ascending order of GUID; None for a switch that
-- has no next port
abbrev pub ports_to : List SwitchEdges → ℕ → List (Option ℕ)
ports_to graph t = map (λ s. next_port (slopes_of graph) s t) (guids_of graph)

-- for each switch as a target, in ascending order of GUID, the next ports towards it (`ports_to`)
abbrev pub ports_of : List SwitchEdges → List (List (Option ℕ))
ports_of graph = map (ports_to graph) (guids_of graph)

-- the next port from the switch at index `i` towards the switch at index `j`, with the switches in ascending order of
-- GUID. None if there is no next port, or if one of the indices has no switch
abbrev pub next_port_at : List SwitchEdges → ℕ → ℕ → Option ℕ
next_port_at graph i j =
    option_and_then (λ t. option_and_then (λ s. next_port (slopes_of graph) s t) (slice_get (guids_of graph) i))
    (slice_get (guids_of graph) j)

-- for each vertex of `positions` as a target, the next port of each vertex of `positions` towards this target, or None
-- if there is no next port
abbrev pub port_rows : List (List Edge) → List (List Edge) → List ℕ → List (List (Option ℕ))
port_rows ups downs positions = map (λ t. map (λ s. next_port (indexed ups downs) s t) positions) positions

-- `graph` is a graph, and `towards` has, for each of its switches as a target, the next ports of all its switches
pub record IsRouted (graph : List SwitchEdges) (towards : List (List (Option ℕ))) : Type 0 where
  pub is_graph : IsGraph graph
  pub are_ports : towards ≡ ports_of graph
