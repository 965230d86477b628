-- Switches by index, in ascending order of GUID, with edges that lead to indices.
use Rattle.std.specs.Prelude.{◌≡◌, ◌<◌, ℕ, Option, MatchOption, List, [], ◌∷◌, map, length, slice_index, slice_index_or, Contains}
use Rattle.port_graph.specs.declared.edge.Edge.{Edge}
use Rattle.port_graph.specs.Heads.{LeadToVertices}
use Rattle.subnet_view.specs.SwitchEdges.{SwitchEdges}
use Rattle.subnet_view.specs.Graph.{guids_of, edges_at}
use Rattle.subnet_view.specs.GraphLaws.{IsGraph}
use Rattle.subnet_view.specs.Components.{distance}

-- each of the edges leads to an index below `n`
abbrev pub LeadBelow : ℕ → List Edge → Type 0
LeadBelow n edges = (e : Edge) → Contains edges e → e.to < n

-- `number` is at index `i` of `numbers`
abbrev pub IsIndexOf : List ℕ → ℕ → ℕ → Type 0
IsIndexOf numbers number i = (i < length numbers) × (slice_index numbers i ≡ number)

-- `found` is the index of `number` in `numbers`; None if `numbers` does not have it
abbrev pub IsIndexIn : List ℕ → ℕ → Option ℕ → Type 0
IsIndexIn numbers number found = MatchOption found (¬ (Contains numbers number)) (IsIndexOf numbers number)

-- the GUID of the switch at index `i`
abbrev pub switch_at : List SwitchEdges → ℕ → ℕ
switch_at graph i = slice_index (guids_of graph) i

-- the edge `e`, which leads to an index, as an edge to the GUID at that index
abbrev pub by_guid : List ℕ → Edge → Edge
by_guid guids e = record { port = e.port; to = slice_index guids e.to }

-- `edges`, which lead to indices, are the edges of the switch at index `i`
abbrev pub AreEdgesAt : List SwitchEdges → ℕ → List Edge → Type 0
AreEdgesAt graph i edges = map (by_guid (guids_of graph)) edges ≡ edges_at graph (switch_at graph i)

-- the distance from the switch at index `i` to each switch, in ascending order of GUID; None for a switch to which no
-- walk leads
abbrev pub distances_from : List SwitchEdges → ℕ → List (Option ℕ)
distances_from graph i = map (distance graph (switch_at graph i)) (guids_of graph)

-- the switches that have the GUIDs and, at the same index, the edges. There are as many switches as the shorter list
-- has items
abbrev pub switch_edges : List ℕ → List (List Edge) → List SwitchEdges
switch_edges [] edges = []
switch_edges (g ∷ guids) [] = []
switch_edges (g ∷ guids) (es ∷ edges) = record { guid = g; edges = es } ∷ switch_edges guids edges

-- the graph of the switches `guids`. `edges` has the edges of each switch; they lead to indices
abbrev pub named : List ℕ → List (List Edge) → List SwitchEdges
named guids edges = switch_edges guids (map (map (by_guid guids)) edges)

-- `edges` has, for each switch of `guids`, its edges, which lead to indices of switches. The switches with these edges
-- are a graph (`IsGraph`)
pub record IsSwitchGraph (guids : List ℕ) (edges : List (List Edge)) : Type 0 where
  pub as_many : length edges ≡ length guids
  pub to_switches : LeadToVertices edges
  pub is_graph : IsGraph (named guids edges)

-- `edges` has the edges of each switch of the graph, with the switches in ascending order of GUID. The edges lead to
-- indices of switches
pub record AreEdgesByIndex (graph : List SwitchEdges) (edges : List (List Edge)) : Type 0 where
  pub as_many : length edges ≡ length graph
  pub to_switches : LeadToVertices edges
  pub each : (i : ℕ) → i < length graph → AreEdgesAt graph i (slice_index_or edges i [])
