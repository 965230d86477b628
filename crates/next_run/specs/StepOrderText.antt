-- The lines of the order that a step goes by.
use Rattle.std.specs.Prelude.{ℕ, List, [], Option, None, Some, Vec, length, map, option_map}
use Rattle.std.specs.declared.alloc.Global.{Global}
use Rattle.subnet_view.specs.Reading.{Cells}
use Rattle.two_orders.specs.Growth.{positions_in}
use Rattle.next_tables.specs.SwitchPositions.{switch_at}
use Rattle.held_order.specs.Between.{Goal}
use Rattle.sm_cli.specs.OrderText.{order_text}

-- the GUIDs of the usable switches in the order of their positions
abbrev pub switches_by : Cells → List ℕ → List ℕ
switches_by cells positions = map (switch_at cells) (positions_in positions (length positions))

-- if a step goes by an order that the held tables imply, the GUIDs of the switches in this order; otherwise None
abbrev pub order_of_step : Cells → Option Goal → Option (List ℕ)
order_of_step cells goal = option_map (λ (g : Goal). switches_by cells g.positions) goal

-- the switches of an order as a list; None if there is no order
abbrev pub items_of : Option (Vec ℕ Global) → Option (List ℕ)
items_of order = option_map (λ switches. switches.items) order

-- if there is an order that a step goes by, its lines, in the form of a text of an order; otherwise empty
abbrev pub step_order_text : Option (List ℕ) → List ℕ
step_order_text None = []
step_order_text (Some switches) = order_text switches
