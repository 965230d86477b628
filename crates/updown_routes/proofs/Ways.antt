-- In a graph: the recursion of costs, and the way by next ports.
use Rattle.std.proofs.Common.{◌≡◌, ◌<◌, ℕ, List, [], ◌∷◌, length, arith}
use Rattle.std.specs.Prelude.{Some}
use Rattle.port_graph.specs.Slopes.{Slope, cost}
use Rattle.port_graph.proofs.Costs.{cost_recurs, way}
use Rattle.updown_routes.specs.Ranks.{slopes_of}
use Rattle.updown_routes.specs.RouteLaws.{CostRecursion, WayLaw}
use Rattle.updown_routes.proofs.Before.{height, height_falls, height_bounded}

-- costs follow the wires up
pub cost_recursion : CostRecursion
cost_recursion graph good = cost_recurs (slopes_of graph) (height graph) (height_falls graph good) (height_bounded graph)

some_switch : (slopes : List Slope) (s t n : ℕ) → cost slopes s t ≡ Some n → 0 < length slopes
some_switch [] s t n e = absurd (cc)
some_switch (x ∷ slopes) s t n e = omega arith

-- next ports lead to the target
pub way_law : WayLaw
way_law graph good n s t e = way (slopes_of graph) (height graph) (height_falls graph good) (height_bounded graph) n s t
    (some_switch (slopes_of graph) s t n e) e
