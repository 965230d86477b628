-- How the order of switches is grown (by roots, by a list that names switches, or by the least trial load), and whether
-- loads are balanced.
use Rattle.std.specs.Prelude.{ℕ, Bool, true, false, List, map}
use Rattle.spread_labels.specs.declared.key_order.VertexKey.{VertexKey}
use Rattle.spread_labels.specs.Orders.{at_position, position_of}
use Rattle.subnet_view.specs.SwitchEdges.{SwitchEdges}
use Rattle.subnet_view.specs.Graph.{guids_of}
use Rattle.spread_routes.specs.declared.switch_order.SwitchOrder.{SwitchOrder}
use Rattle.spread_routes.specs.declared.switch_order.SwitchOrder.TheVariants.{FromRoots, AsNamed, BalancedAs, LeastLoaded}
use Rattle.spread_routes.specs.Rule.{order_by_keys}

-- how the order is grown: by distances from roots, or from leaf switches if there are no roots; by a list that names
-- switches, with loads balanced or not; or by the least trial load, with loads balanced
pub data OrderValue : Type 0 where
  from_roots : List ℕ → OrderValue
  as_named : List ℕ → OrderValue
  balanced_as : List ℕ → OrderValue
  least_loaded : OrderValue

-- how the order is grown, as the value of a `SwitchOrder` in the code
abbrev pub order_value_of : SwitchOrder → OrderValue
order_value_of (FromRoots roots) = from_roots roots.items
order_value_of (AsNamed switches) = as_named switches.items
order_value_of (BalancedAs switches) = balanced_as switches.items
order_value_of LeastLoaded = least_loaded

-- whether loads are balanced if the order is grown in the given way
abbrev pub is_balanced : OrderValue → Bool
is_balanced (from_roots roots) = false
is_balanced (as_named switches) = false
is_balanced (balanced_as switches) = true
is_balanced least_loaded = true

-- how the order is grown if the list `switches` names it. Loads are balanced exactly when they are in the given way
abbrev pub named_in : OrderValue → List ℕ → OrderValue
named_in (from_roots roots) switches = as_named switches
named_in (as_named before) switches = as_named switches
named_in (balanced_as before) switches = balanced_as switches
named_in least_loaded switches = balanced_as switches

-- the key of switch `g` according to a list: the number of names before it, or the length of the list if `g` is not
-- named
abbrev pub key_as_named : List ℕ → ℕ → VertexKey
key_as_named switches g = record { distance_class = 0; distance = position_of switches g }

-- the key of each switch of the graph according to a list, in ascending order of the switches' GUIDs. If keys are
-- equal, the lesser GUID comes first, so GUIDs decide between switches that are not named
abbrev pub keys_as_named : List SwitchEdges → List ℕ → List VertexKey
keys_as_named graph switches = map (key_as_named switches) (guids_of graph)

-- the GUIDs of the switches, in the order that grows by `keys`
abbrev pub switches_by_keys : List SwitchEdges → List VertexKey → List ℕ
switches_by_keys graph keys = map (at_position (guids_of graph)) (order_by_keys graph keys)
