-- The spread rule. It labels switches towards a target, in an order that grows by keys. A packet takes one of the edges
-- that gave a switch its label, chosen by a number.
use Rattle.std.specs.Prelude.{ℕ, List, map, length, Option, option_map}
use Rattle.port_graph.specs.declared.edge.Edge.{Edge}
use Rattle.spread_labels.specs.declared.key_order.VertexKey.{VertexKey}
use Rattle.spread_labels.specs.Labels.{candidates}
use Rattle.spread_labels.specs.CandidatesByMarks.{chosen}
use Rattle.spread_labels.specs.Ways.{cost, channel_number}
use Rattle.spread_labels.specs.Orders.{order, at_position, position_of, positioned_edge}
use Rattle.spread_labels.specs.KeyOrder.{before_by}
use Rattle.spread_labels.specs.EveryPair.{grown}
use Rattle.subnet_view.specs.SwitchEdges.{SwitchEdges}
use Rattle.subnet_view.specs.Graph.{guids_of}
use Rattle.subnet_view.specs.GraphLaws.{IsGraph}
use Rattle.subnet_view.specs.Routing.{Routing, IsRouting}

-- what the spread rule needs: the key of each switch, in ascending order of the switches' GUIDs; and the number by
-- which a packet for a LID chooses among edges at one position towards another
pub record Spreading : Type 0 where
  pub keys : List VertexKey
  pub number : ℕ → ℕ → ℕ → List Edge → ℕ

-- the edges of each switch of the graph, as edges to the indices of switches
abbrev pub by_index : List SwitchEdges → List (List Edge)
by_index graph = map (λ c. map (positioned_edge (guids_of graph)) c.edges) graph

-- the indices of the switches, in the order that grows by `keys`
abbrev pub order_by_keys : List SwitchEdges → List VertexKey → List ℕ
order_by_keys graph keys = order (by_index graph) (before_by keys)

-- the position of switch `g` in the order that grows by `keys`
abbrev pub position : List SwitchEdges → List VertexKey → ℕ → ℕ
position graph keys g = position_of (order_by_keys graph keys) (position_of (guids_of graph) g)

-- the GUID of the switch at position `p` of the order that grows by `keys`
abbrev pub switch_there : List SwitchEdges → List VertexKey → ℕ → ℕ
switch_there graph keys p = at_position (guids_of graph) (at_position (order_by_keys graph keys) p)

-- the edges of the switch at each position of the order that grows by `keys`, as edges to positions
abbrev pub by_positions : List SwitchEdges → List VertexKey → List (List Edge)
by_positions graph keys = grown (by_index graph) (before_by keys)

-- the edge that a packet for `lid` takes at position `p` towards position `q`: the edge at index `by.number` modulo the
-- number of edges; None if there are no edges
abbrev pub taken : Spreading → ℕ → ℕ → ℕ → List Edge → Option Edge
taken by lid p q edges = chosen edges (by.number lid p q edges)

-- the candidate by which a packet for `lid` leaves the switch at position `p` for the switch at position `q`; None if
-- there are no candidates
abbrev pub edge_to : List SwitchEdges → Spreading → ℕ → ℕ → ℕ → Option Edge
edge_to graph by lid p q = taken by lid p q (candidates (by_positions graph by.keys) q p)

-- the spread rule. The port is that of the candidate that is taken. The cost and the channels follow from the
-- positions in the order that grows by the keys
abbrev pub spread : List SwitchEdges → Spreading → Routing
spread graph by = record {
  next = λ lid s t.
      option_map (λ e. e.port) (edge_to graph by lid (position graph by.keys s) (position graph by.keys t));
  cost = λ s t. cost (by_positions graph by.keys) (position graph by.keys t) (position graph by.keys s);
  channel = λ a b.
      channel_number (length (by_positions graph by.keys)) (position graph by.keys a) (position graph by.keys b);
}

-- on each graph, the spread rule is a rule of routing, whatever the keys and the numbers are
abbrev pub SpreadIsRouting : Type 0
SpreadIsRouting = (graph : List SwitchEdges) (by : Spreading) → IsGraph graph → IsRouting graph (spread graph by)
