-- The position of a switch among those that are named as they stand in an order.
use Rattle.std.proofs.Common.{◌≡◌, ℕ, List, sym, ap, ◌∙◌, arith}
use Rattle.subnet_view.specs.SwitchEdges.{SwitchEdges}
use Rattle.subnet_view.specs.Graph.{guids_of}
use Rattle.subnet_view.specs.GraphLaws.{IsGraph, IsSwitch}
use Rattle.spread_labels.specs.Orders.{position_of}
use Rattle.spread_labels.specs.declared.key_order.VertexKey.{VertexKey}
use Rattle.spread_routes.specs.Rule.{order_by_keys, position}
use Rattle.spread_routes.specs.Spread.{keys_by, switches_in_order}
use Rattle.spread_routes.specs.SwitchOrder.{OrderValue, switches_by_keys}
use Rattle.spread_routes.proofs.Indices.{as_many, index_within, switch_of_index}
use Rattle.spread_routes.proofs.OrderLaws.{below, same_number}

by_keys : (graph : List SwitchEdges) (keys : List VertexKey) (good : IsGraph graph) (g : ℕ) → IsSwitch graph g
    → position_of (switches_by_keys graph keys) g ≡ position graph keys g
by_keys graph keys good g is =
    let a = position_of (guids_of graph) g in
    ap (position_of (switches_by_keys graph keys)) (sym (switch_of_index graph good g is))
    ∙ same_number graph keys good (order_by_keys graph keys) a (below graph keys good) (omega (arith, index_within graph good g is, as_many graph good))

pub named_position : (graph : List SwitchEdges) (adapters : List ℕ) (order : OrderValue) → IsGraph graph → (g : ℕ) → IsSwitch graph g
    → position_of (switches_in_order graph adapters order) g ≡ position graph (keys_by graph adapters order) g
unfolding switches_in_order
named_position graph adapters order good g is = by_keys graph (keys_by graph adapters order) good g is
