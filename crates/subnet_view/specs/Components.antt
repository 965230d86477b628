-- Components of the switches, and their roots.
use Rattle.std.specs.Prelude.{ℕ, Bool, List, length, Option, is_some}
use Rattle.std.specs.List.{find}
use Rattle.port_graph.specs.Walks.{shortest}
use Rattle.subnet_view.specs.SwitchEdges.{SwitchEdges}
use Rattle.subnet_view.specs.Graph.{guids_of, neighbors}

-- the least number of wires of a walk from switch `a` to switch `b`; None if no walk leads there
abbrev pub distance : List SwitchEdges → ℕ → ℕ → Option ℕ
distance graph a b = shortest (neighbors graph) (length graph) a b

-- whether a walk leads from switch `a` to switch `b`
abbrev pub in_one_component : List SwitchEdges → ℕ → ℕ → Bool
in_one_component graph a b = is_some (distance graph a b)

-- the root of the component of switch `a`: the first switch of the graph that is in the component. If GUIDs rise, it
-- has the least GUID there. None if `a` is not a switch of the graph
abbrev pub root_of : List SwitchEdges → ℕ → Option ℕ
root_of graph a = find (in_one_component graph a) (guids_of graph)
