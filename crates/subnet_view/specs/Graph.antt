-- The graph of the usable switches and the wires between them.
use Rattle.std.specs.Prelude.{ℕ, List, [], ◌∷◌, map, Option, None, Some, ◌==◌, option_and_then, if◌then◌else◌}
use Rattle.std.specs.List.{filter_map, range_with_len}
use Rattle.port_graph.specs.declared.edge.Edge.{Edge}
use Rattle.subnet_view.specs.Reading.{Cells, is_switch_node, port_count_of, switches}
use Rattle.subnet_view.specs.Wires.{across}
use Rattle.subnet_view.specs.SwitchEdges.{SwitchEdges}

-- the edge of the wire in port `p` of node `g`; None if no wire leads from this port to a switch
abbrev pub edge_at : Cells → ℕ → ℕ → Option Edge
edge_at cells g p =
    option_and_then (λ q. if is_switch_node cells q.0 then Some (record { port = p; to = q.0 }) else None)
    (across cells g p)

-- the edges of node `g`: its wires to usable switches, which may include itself, in ascending order of port
abbrev pub edges_of : Cells → ℕ → List Edge
edges_of cells g = filter_map (edge_at cells g) (range_with_len 1 (port_count_of cells g))

-- the usable switches, in ascending order of GUID, each with its edges
abbrev pub graph_of : Cells → List SwitchEdges
graph_of cells = map (λ g. record { guid = g; edges = edges_of cells g }) (switches cells)

-- the GUIDs of the switches of a graph
abbrev pub guids_of : List SwitchEdges → List ℕ
guids_of graph = map (λ c. c.guid) graph

-- the edges of switch `a`; empty if `a` is not in the graph
abbrev pub edges_at : List SwitchEdges → ℕ → List Edge
edges_at [] a = []
edges_at (c ∷ graph) a = if c.guid == a then c.edges else edges_at graph a

-- the switches that the edges of switch `a` lead to, once for each edge
abbrev pub neighbors : List SwitchEdges → ℕ → List ℕ
neighbors graph a = map (λ e. e.to) (edges_at graph a)
