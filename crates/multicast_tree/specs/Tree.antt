-- The tree of an order of switches. The parent of a switch is the first of its neighbors before it in the order. The
-- tree has the wires between switches and their parents, and the wires of adapters.
use Rattle.std.specs.Prelude.{ℕ, Bool, false, List, [], ◌∷◌, map, filter, Contains, Option, None, Some, ◌==◌, ◌&&◌}
use Rattle.std.specs.Prelude.{◌||◌, not, nat_lt, slice_index, slice_index_or, if◌then◌else◌}
use Rattle.std.specs.Option.{option_map_or, option_or}
use Rattle.std.specs.List.{list_any, range_with_len}
use Rattle.port_graph.specs.declared.edge.Edge.{Edge}
use Rattle.spread_labels.specs.Orders.{position_of}
use Rattle.subnet_view.specs.Reading.{Cells, is_usable, port_count_of, switches}
use Rattle.subnet_view.specs.Wires.{across}
use Rattle.subnet_view.specs.SwitchEdges.{SwitchEdges}
use Rattle.subnet_view.specs.Graph.{edges_at, graph_of, guids_of}
use Rattle.lft_blocks.specs.Rule.{RuleValue}
use Rattle.plan_order.specs.PlanOrder.{positions_by}
use Rattle.multicast_tree.specs.Copies.{Copying}

-- the port of the edge, among those that lead to a lesser position than `bound`, that leads to the least position. Of
-- several, it is the first in the list; None if there is no such edge
abbrev pub first_before : (ℕ → ℕ) → ℕ → List Edge → Option ℕ
first_before position bound [] = None
first_before position bound (e ∷ es) =
    if nat_lt (position e.to) bound then option_or (first_before position (position e.to) es) (Some e.port)
    else first_before position bound es

-- the port of switch `g` to its parent, which is the neighbor with the least position: the least port that leads there.
-- None if no neighbor has a lesser position than `g`, or if `g` is not in the graph
abbrev pub parent_port : List SwitchEdges → (ℕ → ℕ) → ℕ → Option ℕ
parent_port graph position g = first_before position (position g) (edges_at graph g)

-- whether the port that may be given is `p`
abbrev pub is_given : Option ℕ → ℕ → Bool
is_given port p = option_map_or (λ q. q == p) port false

-- whether the far end of a wire from a switch is the port of a switch to its parent, given these ports, or a port of an
-- adapter; false if there is no wire
abbrev pub is_below : Cells → (ℕ → Option ℕ) → Option (ℕ × ℕ) → Bool
is_below cells parent far =
    option_map_or (λ q. not (is_usable cells q.0) || is_given (parent q.0) q.1) far false

-- whether port `p` of switch `g` is in the tree, given the port of each switch to its parent. It is if it leads to the
-- parent of `g`, to a switch whose parent is `g` by this wire, or to an adapter
abbrev pub is_tree_port : Cells → (ℕ → Option ℕ) → ℕ → ℕ → Bool
is_tree_port cells parent g p = is_given (parent g) p || is_below cells parent (across cells g p)

-- the ports of switch `g` that are in the tree, in ascending order, given the port of each switch to its parent
abbrev pub tree_ports : Cells → (ℕ → Option ℕ) → ℕ → List ℕ
tree_ports cells parent g = filter (is_tree_port cells parent g) (range_with_len 1 (port_count_of cells g))

-- a switch and its ports in the tree
pub record TreePorts : Type 0 where
  pub guid : ℕ
  pub ports : List ℕ

-- switch `g` with its ports in the tree, given the port of each switch to its parent
abbrev pub tree_at : Cells → (ℕ → Option ℕ) → ℕ → TreePorts
tree_at cells parent g = record { guid = g; ports = tree_ports cells parent g }

-- the tree: the ports of each usable switch, in ascending order of GUID, given the port of each switch to its parent
abbrev pub tree_by : Cells → (ℕ → Option ℕ) → List TreePorts
tree_by cells parent = map (tree_at cells parent) (switches cells)

-- the position of switch `g`, given the positions of `guids`; 0 if `guids` does not have `g`
abbrev pub position_in : List ℕ → List ℕ → ℕ → ℕ
position_in guids positions g = slice_index positions (position_of guids g)

-- the port of switch `g` to its parent, given the ports of `guids`; None if `guids` does not have `g`
abbrev pub parent_in : List ℕ → List (Option ℕ) → ℕ → Option ℕ
parent_in guids parents g = slice_index_or parents (position_of guids g) None

-- the port of each switch to its parent, given the positions of the switches, both in ascending order of GUID
abbrev pub parent_ports : List SwitchEdges → List ℕ → List (Option ℕ)
parent_ports graph positions = map (parent_port graph (position_in (guids_of graph) positions)) (guids_of graph)

-- the tree of the order in which the usable switches, in ascending order of GUID, have the positions that are given
abbrev pub tree_in : Cells → List ℕ → List TreePorts
tree_in cells positions = tree_by cells (parent_port (graph_of cells) (position_in (switches cells) positions))

-- the tree of the order by which a rule plans
abbrev pub tree_of : RuleValue → Cells → List TreePorts
tree_of rule cells = tree_in cells (positions_by rule cells)

-- how the packets of a group are copied on the wires of a view
abbrev pub copying_in : Cells → (ℕ → ℕ → Bool) → Copying
copying_in cells group = record { across = across cells; is_switch = is_usable cells; group = group }

-- the masks of a tree: whether the tree has port `p` of switch `g`
abbrev pub masks_of : List TreePorts → ℕ → ℕ → Bool
masks_of tree g p = list_any (λ x. x.guid == g && list_any (λ q. q == p) x.ports) tree

-- port `p` of switch `g` is in the tree
abbrev pub InTree : List TreePorts → ℕ → ℕ → Type 0
InTree tree g p = (ports : List ℕ) × Contains tree (record { guid = g; ports = ports }) × Contains ports p
