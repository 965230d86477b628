-- Laws of down distances, costs and next ports in a graph of switches.
use Rattle.std.specs.Prelude.{◌≡◌, ℕ, suc, true, false, List, None, Some, is_some, option_map, MatchOption, if◌then◌else◌}
use Rattle.std.specs.List.{filter_map}
use Rattle.port_graph.specs.Walks.{HasNoWalk}
use Rattle.port_graph.specs.Slopes.{ups_at, below, down_distance, least_of, cost, next_port}
use Rattle.port_graph.specs.Routes.{IsDownDistance, IsRoute, IsCost, IsNextPort, Way}
use Rattle.subnet_view.specs.SwitchEdges.{SwitchEdges}
use Rattle.subnet_view.specs.GraphLaws.{IsGraph, IsSwitch}
use Rattle.subnet_view.specs.Components.{in_one_component}
use Rattle.updown_routes.specs.Ranks.{slopes_of}

-- from a switch of a graph, `down_distance` is the length of a shortest walk down to the target; None exactly when no
-- walk down leads there
abbrev pub DownDistanceLaw : Type 0
DownDistanceLaw = (graph : List SwitchEdges) → IsGraph graph → (s t : ℕ) → IsSwitch graph s
    → MatchOption (down_distance (slopes_of graph) s t) (HasNoWalk (below (slopes_of graph)) s t)
    (IsDownDistance (slopes_of graph) s t)

-- from a switch of a graph, `cost` is as `IsCost` states; None exactly when no route leads to the target
abbrev pub CostLaw : Type 0
CostLaw = (graph : List SwitchEdges) → IsGraph graph → (s t : ℕ) → IsSwitch graph s
    → MatchOption (cost (slopes_of graph) s t) ((n : ℕ) → IsRoute (slopes_of graph) s t n
    → ⊥) (IsCost (slopes_of graph) s t)

-- from a switch of a graph, `next_port` is as `IsNextPort` states; None exactly when no port is a next port
abbrev pub NextPortLaw : Type 0
NextPortLaw = (graph : List SwitchEdges) → IsGraph graph → (s t : ℕ) → IsSwitch graph s
    → MatchOption (next_port (slopes_of graph) s t) ((p : ℕ) → IsNextPort (slopes_of graph) s t p
    → ⊥) (IsNextPort (slopes_of graph) s t)

-- the cost of a switch to a target is its down distance, if there is one. Otherwise it is one more than the least cost
-- of the switches that edges up lead to; None if none of these has a cost
abbrev pub CostRecursion : Type 0
CostRecursion = (graph : List SwitchEdges) → IsGraph graph → (s t : ℕ)
    → cost (slopes_of graph) s t
    ≡ (let down = down_distance (slopes_of graph) s t in
    if is_some down then down else option_map suc
    (least_of (filter_map (λ e. cost (slopes_of graph) e.to t) (ups_at (slopes_of graph) s))))

-- in a graph, from each switch that has a cost to a target, a way up and then down leads to the target along as many
-- edges as the cost
abbrev pub WayLaw : Type 0
WayLaw = (graph : List SwitchEdges) → IsGraph graph → (n s t : ℕ) → cost (slopes_of graph) s t ≡ Some n
    → Way (slopes_of graph) s t n

-- a switch of a graph has no cost and no next port towards any vertex outside its component
abbrev pub NoCostBetween : Type 0
NoCostBetween = (graph : List SwitchEdges) → IsGraph graph → (s t : ℕ) → IsSwitch graph s → in_one_component graph s t
    ≡ false → (cost (slopes_of graph) s t ≡ None) × (next_port (slopes_of graph) s t ≡ None)

-- each switch of a graph has a cost to each switch of its component
abbrev pub CostInComponent : Type 0
CostInComponent = (graph : List SwitchEdges) → IsGraph graph → (s t : ℕ) → IsSwitch graph s → IsSwitch graph t
    → in_one_component graph s t ≡ true → (n : ℕ) × (cost (slopes_of graph) s t ≡ Some n)
