-- The rules that can be asked for, on the wires of a view.
use Rattle.std.specs.Prelude.{◌≡◌, ℕ, List}
use Rattle.fact_store.specs.View.{Facts, cells_of}
use Rattle.subnet_view.specs.Reading.{Cells}
use Rattle.subnet_view.specs.Graph.{graph_of}
use Rattle.subnet_view.specs.Routing.{Routing, IsRouting}
use Rattle.updown_routes.specs.Updown.{updown}
use Rattle.lft_blocks.specs.declared.rule.Rule.{Rule}
use Rattle.lft_blocks.specs.declared.rule.Rule.TheVariants.{UpDown, Spread}
use Rattle.spread_routes.specs.Adapters.{adapters_of}
use Rattle.spread_routes.specs.Spread.{spread_by, switches_in_order}
use Rattle.spread_routes.specs.SwitchOrder.{OrderValue, order_value_of}

-- a rule that can be asked for: up/down routing, or spreading by an order of switches
pub data RuleValue : Type 0 where
  up_and_down : RuleValue
  spread_in : OrderValue → RuleValue

-- the value of a `Rule` in the code
abbrev pub value_of : Rule → RuleValue
value_of UpDown = up_and_down
value_of (Spread order) = spread_in (order_value_of order)

-- the routing under a rule that can be asked for, on the wires of a view
abbrev pub routing_by : RuleValue → Cells → Routing
routing_by up_and_down cells = updown (graph_of cells)
routing_by (spread_in order) cells = spread_by (graph_of cells) (adapters_of cells) order

-- the usable switches of a view, in the order of the rule that spreads by `order`
abbrev pub order_of : OrderValue → Cells → List ℕ
order_of order cells = switches_in_order (graph_of cells) (adapters_of cells) order

-- the routing under a `Rule` in the code, on the wires of a view
abbrev pub rule_of : Rule → Cells → Routing
rule_of rule cells = routing_by (value_of rule) cells

-- each rule that can be asked for is a rule of routing, on the graph of any set of facts
abbrev pub RulesAreRoutings : Type 0
RulesAreRoutings =
    (rule : RuleValue) (facts : Facts) → IsRouting (graph_of (cells_of facts)) (routing_by rule (cells_of facts))

-- if two sets of facts have equal graphs of switches and equally many adapters at each switch, each rule that can be
-- asked for routes packets in the same way under both
abbrev pub RulesStay : Type 0
RulesStay = (rule : RuleValue) (x y : Facts) → graph_of (cells_of x) ≡ graph_of (cells_of y)
    → adapters_of (cells_of x) ≡ adapters_of (cells_of y) → routing_by rule (cells_of x) ≡ routing_by rule (cells_of y)
