-- The end ports, which have LIDs: port 0 of a switch, and the ports of other nodes.
use Rattle.std.specs.Prelude.{◌≡◌, ◌↔◌, ◌≤◌, ℕ, Bool, List, [], ◌∷◌, map, filter, Contains, Option, None, Some, IsTrue, IsSome, is_some, ◌==◌, ◌&&◌, MatchBool, option_map, if◌then◌else◌}
use Rattle.std.specs.List.{filter_map, AllPairs}
use Rattle.std.specs.declared.cmp.Ordering.{Ordering}
use Rattle.std.specs.Ordering.{nat_cmp, is_lt}
use Rattle.std.specs.Cmp.Lexicographic.{slice_cmp}
use Rattle.smp_bytes.specs.declared.node_type.NodeType.{NodeType}
use Rattle.smp_bytes.specs.NodeType.{is_switch}
use Rattle.fact_join.specs.declared.cell.Cell.{Cell}
use Rattle.reply_facts.specs.declared.key.Key.{Key}
use Rattle.reply_facts.specs.declared.key.Key.TheVariants.{PortGuid}
use Rattle.reply_facts.specs.declared.value.Value.{Value}
use Rattle.fact_store.specs.View.{Facts, cells_of}
use Rattle.subnet_view.specs.declared.end_port.EndPort.{EndPort}
use Rattle.reply_facts.specs.Known.{node_of, port_guid_of}
use Rattle.subnet_view.specs.Reading.{Cells, is_switch_node, is_port_of}

-- whether `p` is the number of an end port of node `g`: 0 if the node is known to be a switch, and otherwise from 1 to
-- the node's number of ports
abbrev pub is_end_port_number : Cells → ℕ → ℕ → Bool
is_end_port_number cells g p = if is_switch_node cells g then p == 0 else is_port_of cells g p

-- whether port `p` of node `g` is an end port: `p` is the number of an end port (`is_end_port_number`), and the GUID of
-- the port is known
abbrev pub is_end_port : Cells → ℕ → ℕ → Bool
is_end_port cells g p = is_end_port_number cells g p && is_some (port_guid_of cells g p)

-- the end port whose GUID a cell gives, with this GUID. None if the cell is not of a port GUID, if the GUID is
-- disputed, or if the port is not an end port
abbrev pub guid_and_port : Cells → Key × Cell Value → Option (ℕ × EndPort)
guid_and_port cells ((PortGuid g p), c) =
    if is_end_port_number cells g p then option_map (λ guid. (guid, record { node = g; port = p }))
    (port_guid_of cells g p) else None
guid_and_port cells (_, c) = None

-- the numbers by which end ports are ordered: port GUID, node GUID and port
abbrev pub port_numbers : ℕ × EndPort → List ℕ
port_numbers e = e.0 ∷ e.1.node ∷ e.1.port ∷ []

-- the order of end ports: the first number in which they differ decides
abbrev pub port_cmp : ℕ × EndPort → ℕ × EndPort → Ordering
port_cmp a b = slice_cmp nat_cmp (port_numbers a) (port_numbers b)

-- whether `a` comes before `b` in ascending order of port GUID, then node GUID, then port
abbrev pub comes_before : ℕ × EndPort → ℕ × EndPort → Bool
comes_before a b = is_lt (port_cmp a b)

-- the list with `e` inserted before the first end port that `e` comes before, or at the end if there is no such end
-- port
abbrev pub put_in_order : ℕ × EndPort → List (ℕ × EndPort) → List (ℕ × EndPort)
put_in_order e [] = e ∷ []
put_in_order e (x ∷ xs) = if comes_before e x then e ∷ x ∷ xs else x ∷ put_in_order e xs

-- the list, sorted by insertion into the order of end ports
abbrev pub in_order : List (ℕ × EndPort) → List (ℕ × EndPort)
in_order [] = []
in_order (x ∷ xs) = put_in_order x (in_order xs)

-- the end ports with their port GUIDs, in the order of end ports
abbrev pub guids_and_ports : Cells → List (ℕ × EndPort)
guids_and_ports cells = in_order (filter_map (guid_and_port cells) cells)

-- the end ports, in ascending order of port GUID, then node GUID, then port
abbrev pub end_ports : Cells → List EndPort
end_ports cells = map (λ e. e.1) (guids_and_ports cells)

-- the end ports that come after the given end port, with their port GUIDs; all end ports if none is given
abbrev pub ports_after : Cells → Option (ℕ × EndPort) → List (ℕ × EndPort)
ports_after cells None = guids_and_ports cells
ports_after cells (Some e) = filter (comes_before e) (guids_and_ports cells)

-- the laws of these definitions: ------------------------------------------------------

-- node `g` is known to have the type `kind` and `ports` ports
abbrev pub IsNodeWith : Cells → ℕ → NodeType → ℕ → Type 0
IsNodeWith cells g kind ports = node_of cells g ≡ Some (kind, ports)

-- port `p` of node `g` is an end port. The node and the port's GUID are known, and `p` is 0 for a switch, or from 1 to
-- the number of ports of another node
abbrev pub IsEndPort : Cells → ℕ → ℕ → Type 0
IsEndPort cells g p = (kind : NodeType) × (ports : ℕ) × IsNodeWith cells g kind ports
    × MatchBool (is_switch kind) (p ≡ 0) ((1 ≤ p) × (p ≤ ports)) × IsSome (port_guid_of cells g p)

-- `is_end_port` answers true exactly for end ports (`IsEndPort`)
abbrev pub EndPortLaw : Type 0
EndPortLaw = (cells : Cells) (g p : ℕ) → IsTrue (is_end_port cells g p) ↔ IsEndPort cells g p

-- `a` comes before `b` in the order of end ports; true if the GUID of either is not known
abbrev pub ComesBefore : Cells → EndPort → EndPort → Type 0
ComesBefore cells a b = (m n : ℕ) → port_guid_of cells a.node a.port ≡ Some m → port_guid_of cells b.node b.port
    ≡ Some n → IsTrue (comes_before (m, a) (n, b))

-- `ports` has exactly the end ports as members
abbrev pub HasEndPorts : Cells → List EndPort → Type 0
HasEndPorts cells ports = (e : EndPort) → Contains ports e ↔ IsEndPort cells e.node e.port

-- `end_ports` has exactly the end ports as members, each once, in ascending order of port GUID, node GUID and port
abbrev pub EndPortsLaw : Type 0
EndPortsLaw = (facts : Facts) → HasEndPorts (cells_of facts) (end_ports (cells_of facts))
    × AllPairs (ComesBefore (cells_of facts)) (end_ports (cells_of facts))
