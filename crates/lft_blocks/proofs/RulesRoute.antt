-- Each rule that can be asked for is one of routing, and hangs on the wires and on the adapters at switches alone.
use Rattle.std.proofs.Common.{ap, ℕ}
use Rattle.fact_store.specs.View.{Facts, cells_of}
use Rattle.subnet_view.specs.Graph.{graph_of}
use Rattle.updown_routes.specs.Updown.{updown}
use Rattle.subnet_view.specs.Routing.{IsRouting}
use Rattle.subnet_view.proofs.Graphs.{graph_law}
use Rattle.updown_routes.proofs.Routed.{updown_is_routing}
use Rattle.spread_routes.specs.Adapters.{adapters_of}
use Rattle.lft_blocks.specs.Rule.{RuleValue, RulesAreRoutings, RulesStay, routing_by, spread_in, up_and_down}
use Rattle.spread_routes.specs.Spread.{spread_by}
use Rattle.spread_routes.proofs.OrderLaws.{orders_stand}
use Rattle.spread_routes.proofs.Whole.{spread_by_is_routing}
use Rattle.lid_assign.specs.Lids.{lids}
use Rattle.lft_blocks.specs.LidNumbers.{lid_numbers, numbered}
use Rattle.lft_blocks.specs.Plan.{lid_routing, plan_by}
use Rattle.lft_blocks.proofs.LidNumbers.{numbered_is_routing}
use Rattle.lft_blocks.specs.PlanLaws.{OrdersHold}

pub rules_are_routings : RulesAreRoutings
rules_are_routings up_and_down facts = updown_is_routing (graph_of (cells_of facts)) (graph_law facts)
rules_are_routings (spread_in order) facts =
    spread_by_is_routing (graph_of (cells_of facts)) (adapters_of (cells_of facts)) order (graph_law facts)

-- LIDs are routed by it
pub lids_are_routed : (rule : RuleValue) (lmc : ℕ) (facts : Facts)
    → IsRouting (graph_of (cells_of facts)) (lid_routing rule lmc (cells_of facts) (lids lmc (cells_of facts)))
lids_are_routed rule lmc facts =
    numbered_is_routing (lid_numbers lmc (cells_of facts) (lids lmc (cells_of facts))) (graph_of (cells_of facts)) (routing_by rule (cells_of facts))
    (rules_are_routings rule facts)

pub rules_stay : RulesStay
rules_stay up_and_down x y graph adapters = ap updown graph
rules_stay (spread_in order) x y graph adapters = λ i. spread_by (graph i) (adapters i) order

pub orders_hold : OrdersHold
orders_hold order lmc facts =
    let stand = orders_stand (graph_of (cells_of facts)) (adapters_of (cells_of facts)) order (graph_law facts) in
    record { order_stands = stand.order; plan_stands = ap (λ r. plan_by (numbered (lid_numbers lmc (cells_of facts) (lids lmc (cells_of facts))) r) lmc (cells_of facts)) stand.routing }
