-- The properties of the graph of the usable switches.
use Rattle.std.specs.Prelude.{◌↔◌, ℕ, List, map, Contains, IsTrue}
use Rattle.std.specs.List.Sorted.{IsStrictlyIncreasing}
use Rattle.fact_store.specs.View.{Facts, cells_of}
use Rattle.subnet_view.specs.Reading.{is_usable}
use Rattle.subnet_view.specs.Wires.{IsWire}
use Rattle.subnet_view.specs.SwitchEdges.{SwitchEdges}
use Rattle.subnet_view.specs.Graph.{guids_of, edges_at, neighbors, graph_of}

-- `a` is the GUID of a switch of the graph
abbrev pub IsSwitch : List SwitchEdges → ℕ → Type 0
IsSwitch graph a = Contains (guids_of graph) a

-- the switches are listed in ascending order of GUID, and the edges of each in ascending order of port. Each edge leads
-- to a switch that has an edge back
pub record IsGraph (graph : List SwitchEdges) : Type 0 where
  pub rising : IsStrictlyIncreasing (guids_of graph)
  pub ports_rise : (a : ℕ) → IsStrictlyIncreasing (map (λ e. e.port) (edges_at graph a))
  pub leads_to_switch : (a b : ℕ) → Contains (neighbors graph a) b → IsSwitch graph b
  pub both_ways : (a b : ℕ) → Contains (neighbors graph a) b → Contains (neighbors graph b) a

-- for the cells of any set of facts, `graph_of` gives a graph (`IsGraph`)
abbrev pub GraphLaw : Type 0
GraphLaw = (facts : Facts) → IsGraph (graph_of (cells_of facts))

-- for any set of facts, the switches of the graph are exactly the usable switches
abbrev pub SwitchLaw : Type 0
SwitchLaw = (facts : Facts) (g : ℕ) → IsSwitch (graph_of (cells_of facts)) g ↔ IsTrue (is_usable (cells_of facts) g)

-- a wire leads from port `p` of node `g` to the usable switch `h`
abbrev pub IsSwitchWire : Facts → ℕ → ℕ → ℕ → Type 0
IsSwitchWire facts g p h = IsTrue (is_usable (cells_of facts) h) × ((q : ℕ) × IsWire (cells_of facts) g p h q)

-- for any set of facts, the edges of a usable switch in the graph are exactly its wires to usable switches
abbrev pub EdgeLaw : Type 0
EdgeLaw = (facts : Facts) (g p h : ℕ) → IsTrue (is_usable (cells_of facts) g)
    → Contains (edges_at (graph_of (cells_of facts)) g) (record { port = p; to = h }) ↔ IsSwitchWire facts g p h
