-- What facts say about a node or a port. Anything disputed is not known.
use Rattle.std.specs.Prelude.{ℕ, Bool, List, Option, None, Some}
use Rattle.std.specs.FinMap.{find}
use Rattle.smp_bytes.specs.declared.node_type.NodeType.{NodeType}
use Rattle.fact_join.specs.declared.cell.Cell.{Cell}
use Rattle.fact_join.specs.declared.cell.Cell.TheVariants.{Known, Disputed}
use Rattle.reply_facts.specs.declared.key.Key.{Key}
use Rattle.reply_facts.specs.declared.key.Key.TheVariants.{Node, PortGuid, Link, Port, Claim, Cap}
use Rattle.reply_facts.specs.declared.value.Value.{Value}
use Rattle.reply_facts.specs.declared.value.Value.TheVariants.{Kind, Guid, Peer, Up, Lid, Count}
use Rattle.reply_facts.specs.Key.{key_cmp}

-- the value of a cell; None if there is no cell, or if the cell is disputed
abbrev pub value_in : Option (Cell Value) → Option Value
value_in None = None
value_in (Some (Known generation value)) = Some value
value_in (Some (Disputed generation)) = None

-- the known value of `key`; None if `cells` have no cell for `key`, or if that cell is disputed
abbrev pub known_in : List (Key × Cell Value) → Key → Option Value
known_in cells key = value_in (find key_cmp key cells)

-- the parts of a value of each kind: -------------------------------------------------

-- the type and the number of ports in a value of a node; None if there is no value, or if it is of another kind
abbrev pub kind_in : Option Value → Option (NodeType × ℕ)
kind_in (Some (Kind kind ports)) = Some (kind, ports)
kind_in _ = None

-- the GUID in a value of a port's GUID; None if there is no value, or if it is of another kind
abbrev pub guid_in : Option Value → Option ℕ
guid_in (Some (Guid guid)) = Some guid
guid_in _ = None

-- the node and the port that a value of a link names; None if there is no value, or if it is of another kind
abbrev pub peer_in : Option Value → Option (ℕ × ℕ)
peer_in (Some (Peer guid port)) = Some (guid, port)
peer_in _ = None

-- whether a value of a port's state says that the port is up; None if there is no value, or if it is of another kind
abbrev pub up_in : Option Value → Option Bool
up_in (Some (Up up)) = Some up
up_in _ = None

-- the LID in a value of a claim; None if there is no value, or if it is of another kind
abbrev pub lid_in : Option Value → Option ℕ
lid_in (Some (Lid lid)) = Some lid
lid_in _ = None

-- the table size in a value, as a number of LIDs; None if there is no value, or if it is of another kind
abbrev pub count_in : Option Value → Option ℕ
count_in (Some (Count count)) = Some count
count_in _ = None

-- what is known of a node or a port: --------------------------------------------------

-- the type of node `g` and the number of its ports; None if they are not known
abbrev pub node_of : List (Key × Cell Value) → ℕ → Option (NodeType × ℕ)
node_of cells g = kind_in (known_in cells (Node g))

-- the GUID of port `p` of node `g`; None if it is not known
abbrev pub port_guid_of : List (Key × Cell Value) → ℕ → ℕ → Option ℕ
port_guid_of cells g p = guid_in (known_in cells (PortGuid g p))

-- the node and the port that the link in port `p` of node `g` leads to; None if they are not known
abbrev pub link_of : List (Key × Cell Value) → ℕ → ℕ → Option (ℕ × ℕ)
link_of cells g p = peer_in (known_in cells (Link g p))

-- whether port `p` of node `g` is up; None if that is not known
abbrev pub up_of : List (Key × Cell Value) → ℕ → ℕ → Option Bool
up_of cells g p = up_in (known_in cells (Port g p))

-- the LID that port `p` of node `g` claims; None if it is not known
abbrev pub claim_of : List (Key × Cell Value) → ℕ → ℕ → Option ℕ
claim_of cells g p = lid_in (known_in cells (Claim g p))

-- the number of LIDs for which the linear forwarding table of switch `g` has room; None if it is not known
abbrev pub cap_of : List (Key × Cell Value) → ℕ → Option ℕ
cap_of cells g = count_in (known_in cells (Cap g))
