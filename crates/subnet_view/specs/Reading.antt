-- What facts say about the nodes and ports of a subnet: which nodes are switches, which of these are usable, and which
-- ports are up.
use Rattle.std.specs.Prelude.{◌≡◌, ◌↔◌, ◌<◌, ℕ, Bool, false, List, Contains, Option, None, Some, IsTrue, IsSome, is_some, ◌&&◌, if◌then◌else◌}
use Rattle.std.specs.Option.{option_map_or}
use Rattle.std.specs.List.{filter_map, AllPairs}
use Rattle.smp_bytes.specs.declared.node_type.NodeType.{NodeType}
use Rattle.smp_bytes.specs.declared.node_type.NodeType.TheVariants.{Switch}
use Rattle.smp_bytes.specs.NodeType.{is_switch}
use Rattle.smp_bytes.specs.Ports.{is_within}
use Rattle.fact_join.specs.declared.cell.Cell.{Cell}
use Rattle.reply_facts.specs.declared.key.Key.{Key}
use Rattle.reply_facts.specs.declared.key.Key.TheVariants.{Node}
use Rattle.reply_facts.specs.declared.value.Value.{Value}
use Rattle.reply_facts.specs.Known.{cap_of, node_of, up_of}
use Rattle.fact_store.specs.View.{Facts, cells_of}

-- cells with their keys, as facts have them: in the order of keys
abbrev pub Cells : Type 0
Cells = List (Key × Cell Value)

-- whether port `p` of node `g` is known to be up
abbrev pub is_up : Cells → ℕ → ℕ → Bool
is_up cells g p = option_map_or (λ up. up) (up_of cells g p) false

-- whether `node`, which is what is known of a node, says that the node is a switch; false if nothing is known
abbrev pub is_switch_in : Option (NodeType × ℕ) → Bool
is_switch_in node = option_map_or (λ n. is_switch n.0) node false

-- whether node `g` is known to be a switch
abbrev pub is_switch_node : Cells → ℕ → Bool
is_switch_node cells g = is_switch_in (node_of cells g)

-- the number of ports of node `g`; 0 if the node is not known
abbrev pub port_count_of : Cells → ℕ → ℕ
port_count_of cells g = option_map_or (λ n. n.1) (node_of cells g) 0

-- whether node `g` is known to be a switch whose table size is known
abbrev pub is_usable : Cells → ℕ → Bool
is_usable cells g = is_switch_node cells g && is_some (cap_of cells g)

-- whether `p` is from 1 to the number of ports of node `g`
abbrev pub is_port_of : Cells → ℕ → ℕ → Bool
is_port_of cells g p = is_within p (port_count_of cells g)

-- the node whose type a cell gives, if this node is a usable switch; None for other nodes, and for other kinds of cells
abbrev pub usable_guid : Cells → Key × Cell Value → Option ℕ
usable_guid cells ((Node g), c) = if is_usable cells g then Some g else None
usable_guid cells (_, c) = None

-- the usable switches of a set of facts, in ascending order of GUID
abbrev pub switches : Cells → List ℕ
switches cells = filter_map (usable_guid cells) cells

-- the laws of these definitions: ------------------------------------------------------

-- node `g` is a usable switch: it is known to be a switch, and its table size is known
abbrev pub IsUsable : Cells → ℕ → Type 0
IsUsable cells g = (ports : ℕ) × (node_of cells g ≡ Some (Switch, ports)) × IsSome (cap_of cells g)

-- `is_usable` answers true exactly when a node is a usable switch (`IsUsable`)
abbrev pub UsableLaw : Type 0
UsableLaw = (cells : Cells) (g : ℕ) → IsTrue (is_usable cells g) ↔ IsUsable cells g

-- `guids` has exactly the usable switches as members
abbrev pub HasSwitches : Cells → List ℕ → Type 0
HasSwitches cells guids = (g : ℕ) → Contains guids g ↔ IsUsable cells g

-- `switches` has exactly the usable switches as members, each once, in ascending order of GUID
abbrev pub SwitchesLaw : Type 0
SwitchesLaw = (facts : Facts) → HasSwitches (cells_of facts) (switches (cells_of facts))
    × AllPairs (λ a b. a < b) (switches (cells_of facts))
