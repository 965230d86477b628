-- What facts leave open: nodes whose type or table room is unknown, and ports that are not known to lead to a far end,
-- or to be down.
use Rattle.std.specs.Prelude.{◌≡◌, ◌⊎◌, ◌≤◌, ◌<◌, ℕ, Bool, true, false, ◌==◌, ◌||◌, not, List, filter, map, Contains, Option, Some, IsSome, is_some, MatchBool, if◌then◌else◌}
use Rattle.std.specs.Option.{option_map_or}
use Rattle.std.specs.List.{AllPairs}
use Rattle.std.specs.declared.cmp.Ordering.TheVariants.{Less}
use Rattle.std.specs.Ordering.{nat_cmp}
use Rattle.smp_bytes.specs.declared.node_type.NodeType.{NodeType}
use Rattle.smp_bytes.specs.NodeType.{is_switch}
use Rattle.smp_bytes.specs.Ports.{node_port_cmp}
use Rattle.reply_facts.specs.Known.{cap_of, node_of, up_of}
use Rattle.subnet_view.specs.declared.end_port.EndPort.{EndPort}
use Rattle.subnet_view.specs.EndPort.{IsEndPort, IsNodeWith, is_end_port}
use Rattle.subnet_view.specs.Reading.{Cells}
use Rattle.subnet_view.specs.Wires.{IsWire, across}
use Rattle.audit_counts.specs.InOrder.{each_once}
use Rattle.audit_counts.specs.NamedPorts.{IsNamedNode, IsNamedPort, named_nodes, named_ports}

-- a node is known if its type is known (`node`) and, for a switch, its table room is known (`room`)
abbrev pub is_known_type : Option (NodeType × ℕ) → Bool → Bool
is_known_type node room = option_map_or (λ n. not (is_switch n.0) || room) node false

-- the type of the node `g` is known and, if the node is a switch, its table room is known
abbrev pub is_known_node : Cells → ℕ → Bool
is_known_node cells g = is_known_type (node_of cells g) (is_some (cap_of cells g))

-- the named nodes that are not known, each once, in ascending order of GUID
abbrev pub unusable_nodes : Cells → List ℕ
unusable_nodes cells = each_once nat_cmp (filter (λ g. not (is_known_node cells g)) (named_nodes cells))

-- `up` says that a port is known to be down
abbrev pub is_said_down : Option Bool → Bool
is_said_down up = option_map_or not up false

-- the port `e` is known: port 0 if it is an end port, any other port if it has a wire or is known to be down
abbrev pub is_known_port : Cells → ℕ × ℕ → Bool
is_known_port cells e =
    if e.1 == 0 then is_end_port cells e.0 e.1
    else is_some (across cells e.0 e.1) || is_said_down (up_of cells e.0 e.1)

-- the port with the number `e.1` of the node `e.0`, as an end port
abbrev pub port_at : ℕ × ℕ → EndPort
port_at e = record { node = e.0; port = e.1 }

-- the named ports that are not known (`is_known_port`), each once, in ascending order of node GUID and port
abbrev pub unjoined_ports : Cells → List EndPort
unjoined_ports cells =
    map port_at (each_once node_port_cmp (filter (λ e. not (is_known_port cells e)) (named_ports cells)))

-- each of `guids` is the GUID of a node whose type is known and, if it is a switch, whose table room is known
abbrev pub AreKnownNodes : Cells → List ℕ → Type 0
AreKnownNodes cells guids = (g : ℕ) → Contains guids g → is_known_node cells g ≡ true

-- each of `ports` is known (`is_known_port`)
abbrev pub AreKnownPorts : Cells → List (ℕ × ℕ) → Type 0
AreKnownPorts cells ports = (e : ℕ × ℕ) → Contains ports e → is_known_port cells e ≡ true

-- laws -------------------------------------------------------------------------------------------

-- the type of the node `g` and its number of ports are known and, if the node is a switch, its table room is known
abbrev pub IsKnownNode : Cells → ℕ → Type 0
IsKnownNode cells g = (kind : NodeType) × (ports : ℕ) × IsNodeWith cells g kind ports
    × MatchBool (is_switch kind) (IsSome (cap_of cells g)) (Unit {0})

-- the port `p` is the management port of the switch `g`, and the port's GUID is known
abbrev pub IsManagementPort : Cells → ℕ → ℕ → Type 0
IsManagementPort cells g p = (p ≡ 0) × IsEndPort cells g p

-- the port `p` of the node `g` is not port 0, and is known to be down
abbrev pub IsDown : Cells → ℕ → ℕ → Type 0
IsDown cells g p = (1 ≤ p) × (up_of cells g p ≡ Some false)

-- the port `p` of the node `g` has a wire: the links of both ends name each other, both ends are known to be up, and
-- each is a port of a usable switch or an end port
abbrev pub IsWired : Cells → ℕ → ℕ → Type 0
IsWired cells g p = (h q : ℕ) × IsWire cells g p h q

-- the port `p` of the node `g` is known: it is a switch's end port, is known to be down, or has a wire
abbrev pub IsKnownPort : Cells → ℕ → ℕ → Type 0
IsKnownPort cells g p = IsManagementPort cells g p ⊎ IsDown cells g p ⊎ IsWired cells g p

-- each named node is known or listed; a node is listed only if it is named and not known, and only once, in ascending
-- order of GUID
pub record ListsNodes (cells : Cells) (guids : List ℕ) : Type 0 where
  pub each : (g : ℕ) → IsNamedNode cells g → IsKnownNode cells g ⊎ Contains guids g
  pub only : (g : ℕ) → Contains guids g → IsNamedNode cells g × ¬ (IsKnownNode cells g)
  pub rises : AllPairs (λ a b. a < b) guids

-- each named port is known or listed; a port is listed only if it is named and not known, and only once, in ascending
-- order of node GUID and port
pub record ListsPorts (cells : Cells) (ports : List EndPort) : Type 0 where
  pub each : (g p : ℕ) → IsNamedPort cells (g, p) → IsKnownPort cells g p ⊎ Contains ports (port_at (g, p))
  pub only : (e : EndPort) → Contains ports e
      → IsNamedPort cells (e.node, e.port) × ¬ (IsKnownPort cells e.node e.port)
  pub rises : AllPairs (λ a b. node_port_cmp (a.node, a.port) (b.node, b.port) ≡ Less) ports

-- `unusable_nodes` lists exactly the named nodes that are not known, each once, in ascending order of GUID
abbrev pub NodesLaw : Type 0
NodesLaw = (cells : Cells) → ListsNodes cells (unusable_nodes cells)

-- `unjoined_ports` lists exactly the named ports that are not known, each once, in ascending order of node GUID and
-- port
abbrev pub PortsLaw : Type 0
PortsLaw = (cells : Cells) → ListsPorts cells (unjoined_ports cells)
