-- The spread rule as a function of three things: the wires between switches, how many adapters each switch has, and how
-- the order is grown. These give the keys, the levels and the numbers by which LIDs choose.
use Rattle.std.specs.Prelude.{◌≡◌, ℕ, Bool, List, [], map, filter, length, nat_lt, ◌+◌, ◌/◌, ◌%◌, slice_index, if◌then◌else◌}
use Rattle.std.specs.Prelude.{Option, None, Some}
use Rattle.std.specs.List.{list_any}
use Rattle.port_graph.specs.declared.edge.Edge.{Edge}
use Rattle.spread_labels.specs.declared.key_order.VertexKey.{VertexKey}
use Rattle.spread_labels.specs.DistanceClass.{distance_classes_of}
use Rattle.spread_labels.specs.GrowthKeys.{keys_of}
use Rattle.spread_labels.specs.Leaves.{leaf_vertices}
use Rattle.spread_labels.specs.Level.{levels_of, digit_weight_of}
use Rattle.spread_labels.specs.Orders.{at_position, position_of}
use Rattle.subnet_view.specs.SwitchEdges.{SwitchEdges}
use Rattle.subnet_view.specs.Graph.{guids_of}
use Rattle.subnet_view.specs.GraphLaws.{IsGraph}
use Rattle.subnet_view.specs.Routing.{Routing, IsRouting}
use Rattle.balanced_choices.specs.declared.level_digit.LevelDigit.{LevelDigit}
use Rattle.trial_loads.specs.LeastLoaded.{least_loaded_keys}
use Rattle.spread_routes.specs.declared.lid_digit.LidDigit.{LidDigit}
use Rattle.spread_routes.specs.AdapterChoices.{AdapterChoices, adapter_choices, choice_towards}
use Rattle.spread_routes.specs.LeafNumbers.{leaf_numbers}
use Rattle.spread_routes.specs.Rule.{by_index, by_positions, order_by_keys, spread}
use Rattle.spread_routes.specs.SwitchOrder.{OrderValue, as_named, balanced_as, from_roots, least_loaded, keys_as_named, named_in, switches_by_keys}

-- what a spread rule is made from: the graph; the key and the level of each switch, in ascending order of the switches'
-- GUIDs; and the choices for adapters, which are None unless loads are balanced
pub record Grading : Type 0 where
  pub graph : List SwitchEdges
  pub keys : List VertexKey
  pub levels : List ℕ
  pub choices : Option AdapterChoices

-- the level of the switch at position `p`
abbrev pub level_there : Grading → ℕ → ℕ
level_there by p = slice_index by.levels (at_position (order_by_keys by.graph by.keys) p)

-- the LID digit of the switch at index `i`: its level, the digit weight of that level, and an offset, which is its GUID
-- modulo 31
abbrev pub lid_digit_at : List SwitchEdges → List ℕ → ℕ → LidDigit
lid_digit_at graph levels i = record {
  level = slice_index levels i;
  digit_weight = digit_weight_of (by_index graph) levels (slice_index levels i);
  offset = at_position (guids_of graph) i % 31;
}

-- the LID digit of the switch at position `p`
abbrev pub lid_digit_there : Grading → ℕ → LidDigit
lid_digit_there by p = lid_digit_at by.graph by.levels (at_position (order_by_keys by.graph by.keys) p)

-- whether any of the edges leads from the switch at position `p` to a switch of a higher level
abbrev pub goes_higher : Grading → ℕ → List Edge → Bool
goes_higher by p edges = list_any (λ e. nat_lt (level_there by p) (level_there by e.to)) edges

-- the number by which a LID with the number `lid` chooses at a switch. If `higher`, it is `lid` divided by the digit
-- weight, rounded down; otherwise it is `lid`. The switch's offset is added. `higher` says whether the packet can go to
-- a higher level
abbrev pub number_by : LidDigit → Bool → ℕ → ℕ
number_by lid_digit higher lid = (if higher then lid / lid_digit.digit_weight else lid) + lid_digit.offset

-- the weight of the digit by which numbers choose at a switch: if `higher`, the digit weight; otherwise 1, so that the
-- whole number counts
abbrev pub weight_if : LidDigit → Bool → ℕ
weight_if lid_digit higher = if higher then lid_digit.digit_weight else 1

-- the number by which a LID chooses at position `p` towards position `q`: that of `choice_towards` if loads are
-- balanced, and otherwise that of `number_by`. `higher` says whether the packet can go to a higher level
abbrev pub number_with : Option AdapterChoices → LidDigit → Bool → ℕ → ℕ → ℕ → ℕ
number_with None lid_digit higher lid p q = number_by lid_digit higher lid
number_with (Some choices) lid_digit higher lid p q = choice_towards choices (weight_if lid_digit higher) lid p q

-- the number by which a LID chooses among `edges` at position `p` towards position `q`
abbrev pub number_there : Grading → ℕ → ℕ → ℕ → List Edge → ℕ
number_there by lid p q edges =
    number_with by.choices (lid_digit_there by p) (goes_higher by p edges) lid p q

-- the spread rule of a grading
abbrev pub spread_at : Grading → Routing
spread_at by = spread by.graph (record { keys = by.keys; number = number_there by })

-- the indices of those of `guids` that are switches of the graph
abbrev pub indices_of : List SwitchEdges → List ℕ → List ℕ
indices_of graph guids = filter (λ i. nat_lt i (length graph)) (map (position_of (guids_of graph)) guids)

-- the keys of switches according to their distance classes, which follow from the roots that are in the graph and from
-- the leaf switches. `adapters` has the number of adapters at each switch, in ascending order of the switches' GUIDs
abbrev pub keys_from_roots : List SwitchEdges → List ℕ → List ℕ → List VertexKey
keys_from_roots graph adapters roots =
    keys_of (by_index graph) (distance_classes_of (by_index graph) (leaf_vertices adapters) (indices_of graph roots))

-- the keys of the least trial load: those by how remote switches are if their trial loads are even; otherwise, of these
-- and the keys by depth, the first that have the least trial load
abbrev pub keys_least_loaded : List SwitchEdges → List ℕ → List VertexKey
keys_least_loaded graph adapters = least_loaded_keys (by_index graph) adapters

-- the keys of switches according to how the order is grown: by roots, by a list of switches, or by the least trial load
abbrev pub keys_by : List SwitchEdges → List ℕ → OrderValue → List VertexKey
keys_by graph adapters (from_roots roots) = keys_from_roots graph adapters roots
keys_by graph adapters (as_named switches) = keys_as_named graph switches
keys_by graph adapters (balanced_as switches) = keys_as_named graph switches
keys_by graph adapters least_loaded = keys_least_loaded graph adapters

-- the number of adapters at the switch at each position, in the order that grows by `keys`
abbrev pub adapters_there : List SwitchEdges → List VertexKey → List ℕ → List ℕ
adapters_there graph keys adapters = map (slice_index adapters) (order_by_keys graph keys)

-- the leaf number of the switch at each position, in the order that grows by `keys`
abbrev pub leaf_numbers_there : List SwitchEdges → List VertexKey → List ℕ → List ℕ
leaf_numbers_there graph keys adapters = map (slice_index (leaf_numbers graph adapters)) (order_by_keys graph keys)

-- the level and the digit weight of a LID digit
abbrev pub level_digit : LidDigit → LevelDigit
level_digit lid_digit = record { level = lid_digit.level; weight = lid_digit.digit_weight }

-- the level and the digit weight of the switch at each position, in the order that grows by `keys`
abbrev pub digits_there : List SwitchEdges → List VertexKey → List ℕ → List LevelDigit
digits_there graph keys levels = map (λ i. level_digit (lid_digit_at graph levels i)) (order_by_keys graph keys)

-- the choices for adapters in the order that grows by `keys`
abbrev pub balanced_by : List SwitchEdges → List VertexKey → List ℕ → List ℕ → AdapterChoices
balanced_by graph keys levels adapters =
    adapter_choices (by_positions graph keys) (digits_there graph keys levels) (leaf_numbers_there graph keys adapters)
    (adapters_there graph keys adapters)

-- the choices for adapters if loads are balanced, otherwise None
abbrev pub choices_by : List SwitchEdges → List VertexKey → List ℕ → List ℕ → OrderValue → Option AdapterChoices
choices_by graph keys levels adapters (from_roots roots) = None
choices_by graph keys levels adapters (as_named switches) = None
choices_by graph keys levels adapters (balanced_as switches) = Some (balanced_by graph keys levels adapters)
choices_by graph keys levels adapters least_loaded = Some (balanced_by graph keys levels adapters)

-- the grading for a graph, from the number of adapters at each switch and how the order is grown
abbrev pub grading_of : List SwitchEdges → List ℕ → OrderValue → Grading
grading_of graph adapters order =
    let levels = levels_of (by_index graph) (leaf_vertices adapters) in
    record {
      graph = graph;
      keys = keys_by graph adapters order;
      levels = levels;
      choices = choices_by graph (keys_by graph adapters order) levels adapters order;
    }

-- the spread rule for a graph, from the number of adapters at each switch and how the order is grown
unfoldable pub spread_by : List SwitchEdges → List ℕ → OrderValue → Routing
spread_by graph adapters order = spread_at (grading_of graph adapters order)

-- on each graph, `spread_by` is a rule of routing, however many adapters switches have and however the order is grown
abbrev pub SpreadByIsRouting : Type 0
SpreadByIsRouting = (graph : List SwitchEdges) (adapters : List ℕ) (order : OrderValue) → IsGraph graph
    → IsRouting graph (spread_by graph adapters order)

-- the GUIDs of the switches, in the order of the spread rule
unfoldable pub switches_in_order : List SwitchEdges → List ℕ → OrderValue → List ℕ
switches_in_order graph adapters order = switches_by_keys graph (keys_by graph adapters order)

-- if a list names the switches in the order of the rule, it gives that order again, and packets are routed as before
pub record OrderStands (graph : List SwitchEdges) (adapters : List ℕ) (by : OrderValue) : Type 0 where
  pub order : switches_in_order graph adapters (named_in by (switches_in_order graph adapters by))
      ≡ switches_in_order graph adapters by
  pub routing : spread_by graph adapters (named_in by (switches_in_order graph adapters by))
      ≡ spread_by graph adapters by

-- on each graph, orders stand (`OrderStands`), however many adapters switches have and however the order is grown
abbrev pub OrdersStand : Type 0
OrdersStand = (graph : List SwitchEdges) (adapters : List ℕ) (order : OrderValue) → IsGraph graph
    → OrderStands graph adapters order
