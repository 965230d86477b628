-- The two orders of a step from tables that imply an order: this order, and the next one on the way to the plan's. If
-- the tables imply several orders, the one nearest to a preferred order is taken.
use Rattle.std.specs.Prelude.{◌≡◌, ℕ, List, Option, None, Some, length, map, if◌then◌else◌}
use Rattle.std.specs.List.{range_with_len}
use Rattle.port_graph.specs.declared.edge.Edge.{Edge}
use Rattle.subnet_view.specs.Graph.{graph_of}
use Rattle.subnet_view.specs.Reading.{Cells}
use Rattle.held_tables.specs.Held.{HeldPlan}
use Rattle.spread_routes.specs.Rule.{by_index}
use Rattle.next_tables.specs.SwitchPositions.{position_at}
use Rattle.next_tables.specs.Rightness.{are_right}
use Rattle.held_order.specs.ToldOrder.{IsImpliedOrder, position_in}
use Rattle.two_orders.specs.Growth.{grown_by, positions_in}
use Rattle.two_orders.specs.Trees.{tree}
use Rattle.two_orders.specs.TwoOrders.{TwoOrders, two_orders}

-- for each usable switch, its wires to other switches
abbrev pub edges_in : Cells → List (List Edge)
edges_in cells = by_index (graph_of cells)

-- the positions of `n` switches, if `taken` lists them from the last position to the first
abbrev pub told_positions : List ℕ → ℕ → List ℕ
told_positions taken n = map (position_in taken) (range_with_len 0 n)

-- the two orders of a step, from the positions `told` in the order that the tables imply, and the order `grown` that
-- grows by them. If the tables are right by the grown order, that one is the first, and the second grows by the
-- positions `plan` along the tree of the first. Otherwise the implied order is the first, and the grown one the
-- second
abbrev pub orders_by : Cells → HeldPlan → List (List Edge) → List ℕ → List ℕ → List ℕ → TwoOrders
orders_by cells held edges plan told grown =
    if are_right cells (position_at (positions_in grown (length edges))) held
    then two_orders (positions_in grown (length edges))
    (grown_by (tree edges (positions_in grown (length edges))) plan) (length edges)
    else two_orders told grown (length edges)

-- the two orders of a step, from the positions `told` in the order that the tables imply, towards the positions `plan`
abbrev pub orders_from : Cells → HeldPlan → List (List Edge) → List ℕ → List ℕ → TwoOrders
orders_from cells held edges plan told = orders_by cells held edges plan told (grown_by edges told)

-- the two orders of a step from `held`, by the order that it implies; of several switches that may be last, the one
-- that comes last in the order that grows by the positions `preferred` is taken first. None exactly when `held`
-- implies no order
abbrev pub AreOrders : Cells → HeldPlan → List (List Edge) → List ℕ → List ℕ → Option TwoOrders → Type 0
AreOrders cells held edges plan preferred None = IsImpliedOrder cells held (grown_by edges preferred) None
AreOrders cells held edges plan preferred (Some orders) =
    (taken : List ℕ) × IsImpliedOrder cells held (grown_by edges preferred) (Some taken)
    × (orders ≡ orders_from cells held edges plan (told_positions taken (length edges)))
