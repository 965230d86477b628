-- The nodes and the ports that facts name.
use Rattle.std.specs.Prelude.{◌≡◌, ◌⊎◌, ◌++◌, ℕ, Bool, List, Contains, Option, None, Some, option_and_then, option_map, if◌then◌else◌}
use Rattle.std.specs.List.{filter_map}
use Rattle.fact_join.specs.declared.cell.Cell.{Cell}
use Rattle.reply_facts.specs.declared.key.Key.{Key}
use Rattle.reply_facts.specs.declared.key.Key.TheVariants.{Node, PortGuid, Link, Port, Claim, Cap}
use Rattle.reply_facts.specs.declared.value.Value.{Value}
use Rattle.reply_facts.specs.Key.{key_guid}
use Rattle.reply_facts.specs.Known.{kind_in, peer_in, value_in}
use Rattle.subnet_view.specs.Reading.{Cells, is_switch_in}

-- the GUID of the node that a cell is about; never None
abbrev pub own_node : Key × Cell Value → Option ℕ
own_node s = Some (key_guid s.0)

-- the port that a cell is about; for the cell of a node, port 0 if the node is known to be a switch, otherwise None;
-- None for a cell of table room
abbrev pub own_port : Key × Cell Value → Option (ℕ × ℕ)
own_port ((Node g), c) = if is_switch_in (kind_in (value_in (Some c))) then Some (g, 0) else None
own_port ((PortGuid g p), c) = Some (g, p)
own_port ((Link g p), c) = Some (g, p)
own_port ((Port g p), c) = Some (g, p)
own_port ((Claim g p), c) = Some (g, p)
own_port ((Cap g), c) = None

-- if the cell is of a node, this node; otherwise None
abbrev pub node_key : Key × Cell Value → Option ℕ
node_key ((Node g), c) = Some g
node_key (_, c) = None

-- if the cell is of a link, the port of its key; otherwise None
abbrev pub link_key : Key × Cell Value → Option (ℕ × ℕ)
link_key ((Link g p), c) = Some (g, p)
link_key (_, c) = None

-- if the cell is of a link and says where the link leads, the port there; otherwise None
abbrev pub far_port : Key × Cell Value → Option (ℕ × ℕ)
far_port ((Link g p), c) = peer_in (value_in (Some c))
far_port (_, c) = None

-- if the cell is of a link and says where the link leads, the node there; otherwise None
abbrev pub far_node : Key × Cell Value → Option ℕ
far_node s = option_map (λ q. q.0) (far_port s)

-- the cell `s` names the node `g`: the cell is about `g` or a port of `g`, or says that a link leads to `g`
abbrev pub NamesNode : Key × Cell Value → ℕ → Type 0
NamesNode s g = (key_guid s.0 ≡ g) ⊎ (far_node s ≡ Some g)

-- the cell `s` names the port `e`: the cell is about `e`, or says that a link leads to `e`
abbrev pub NamesPort : Key × Cell Value → ℕ × ℕ → Type 0
NamesPort s e = (own_port s ≡ Some e) ⊎ (far_port s ≡ Some e)

-- some cell of the facts names the node `g`
abbrev pub IsNamedNode : Cells → ℕ → Type 0
IsNamedNode cells g = (s : Key × Cell Value) × Contains cells s × NamesNode s g

-- some cell of the facts names the port `e`
abbrev pub IsNamedPort : Cells → ℕ × ℕ → Type 0
IsNamedPort cells e = (s : Key × Cell Value) × Contains cells s × NamesPort s e

-- the named nodes, with repetitions
abbrev pub named_nodes : Cells → List ℕ
named_nodes cells = filter_map own_node cells ++ filter_map far_node cells

-- the named ports, with repetitions
abbrev pub named_ports : Cells → List (ℕ × ℕ)
named_ports cells = filter_map own_port cells ++ filter_map far_port cells

-- what the cell names by `name`; None if the cell names nothing by `name`, or if what the cell names does not pass
-- `test`
abbrev pub kept : {X : Type 0} → (X → Bool) → (Key × Cell Value → Option X) → Key × Cell Value → Option X
kept test name s = option_and_then (λ x. if test x then Some x else None) (name s)
