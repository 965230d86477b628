-- The wires between the ports of a subnet.
use Rattle.std.specs.Prelude.{◌≡◌, ◌≢◌, ◌↔◌, ◌≤◌, ℕ, Bool, false, Option, None, Some, IsTrue, IsSome, ◌==◌, ◌&&◌, not}
use Rattle.std.specs.Prelude.{MatchBool, option_and_then, if◌then◌else◌}
use Rattle.std.specs.Option.{option_map_or}
use Rattle.smp_bytes.specs.declared.node_type.NodeType.{NodeType}
use Rattle.smp_bytes.specs.NodeType.{is_switch}
use Rattle.reply_facts.specs.Known.{port_guid_of, link_of, cap_of}
use Rattle.subnet_view.specs.Reading.{Cells, is_up, is_switch_node, is_usable, is_port_of, IsUsable}
use Rattle.subnet_view.specs.EndPort.{is_end_port, IsNodeWith}
use Rattle.subnet_view.specs.declared.end_port.EndPort.{EndPort}

-- whether port `p` of node `g` can have a wire. The port must be up, `p` must be from 1 to the node's number of ports,
-- and either the node is a usable switch or the port is an end port of another node
abbrev pub is_wire_end : Cells → ℕ → ℕ → Bool
is_wire_end cells g p = is_up cells g p && is_port_of cells g p
    && (if is_switch_node cells g then is_usable cells g else is_end_port cells g p)

-- whether `q` is port `p` of node `g`
abbrev pub is_at : ℕ → ℕ → ℕ × ℕ → Bool
is_at g p q = g == q.0 && p == q.1

-- whether a wire joins port `p` of node `g` and the port `q`, given that the link of the first port names `q`. It does
-- if the two are different ports, both can have a wire, and the link of `q` names the first port
abbrev pub is_wire : Cells → ℕ → ℕ → ℕ × ℕ → Bool
is_wire cells g p q = not (is_at g p q) && is_wire_end cells g p && is_wire_end cells q.0 q.1
    && option_map_or (is_at g p) (link_of cells q.0 q.1) false

-- the other end of the wire in port `p` of node `g`; None if no wire is in the port
abbrev pub across : Cells → ℕ → ℕ → Option (ℕ × ℕ)
across cells g p = option_and_then (λ q. if is_wire cells g p q then Some q else None) (link_of cells g p)

-- the switch, and the port of it, that the wire in port `p` of node `g` leads to. None if `g` is itself a switch, or if
-- no wire leads from the port to a switch
abbrev pub attached : Cells → ℕ → ℕ → Option (ℕ × ℕ)
attached cells g p =
    if is_switch_node cells g then None else option_and_then (λ q. if is_switch_node cells q.0 then Some q else None)
    (across cells g p)

-- the laws of these definitions: ------------------------------------------------------

-- port `p` of node `g` can have a wire. The port is up, and `p` is from 1 to the node's number of ports. The node is a
-- switch whose table size is known, or another node at which the GUID of the port is known
abbrev pub CanHaveWire : Cells → ℕ → ℕ → Type 0
CanHaveWire cells g p = (kind : NodeType) × (ports : ℕ) × IsNodeWith cells g kind ports × (1 ≤ p) × (p ≤ ports)
    × IsTrue (is_up cells g p) × MatchBool (is_switch kind) (IsSome (cap_of cells g)) (IsSome (port_guid_of cells g p))

-- a wire joins port `p` of node `g` and port `q` of node `h`: the ports are different, both can have a wire, and their
-- links name each other
pub record IsWire (cells : Cells) (g p h q : ℕ) : Type 0 where
  pub different : ◌≢◌ {A = ℕ × ℕ} (g, p) (h, q)
  pub first : CanHaveWire cells g p
  pub second : CanHaveWire cells h q
  pub named_there : link_of cells g p ≡ Some (h, q)
  pub named_back : link_of cells h q ≡ Some (g, p)

-- `across` gives a port exactly when a wire (`IsWire`) leads there
abbrev pub WireLaw : Type 0
WireLaw = (cells : Cells) (g p h q : ℕ) → (across cells g p ≡ Some (h, q)) ↔ IsWire cells g p h q

-- if a wire leads from one port to another, it also leads back
abbrev pub WiresGoBothWays : Type 0
WiresGoBothWays = (cells : Cells) (g p h q : ℕ) → across cells g p ≡ Some (h, q) → across cells h q ≡ Some (g, p)

-- node `g` is not known to be a switch, and a wire leads from its port `p` to port `q` of the usable switch `h`
pub record IsAttached (cells : Cells) (g p h q : ℕ) : Type 0 where
  pub not_a_switch : is_switch_node cells g ≡ false
  pub wire : IsWire cells g p h q
  pub to_switch : IsUsable cells h

-- `attached` gives a port of a switch exactly when the adapter port is attached to it (`IsAttached`)
abbrev pub AttachedLaw : Type 0
AttachedLaw = (cells : Cells) (g p h q : ℕ) → (attached cells g p ≡ Some (h, q)) ↔ IsAttached cells g p h q

-- the wire to the port `far` leads to `e`; false if there is no wire
abbrev pub leads_to : Option (ℕ × ℕ) → EndPort → Bool
leads_to far e = option_map_or (is_at e.node e.port) far false

-- the switch, and the port of it, at which the end port `e` is attached. A port of a usable switch is attached at port
-- 0 of that switch. An adapter port is attached at the port that it is wired to; None if it is not wired to a usable
-- switch
abbrev pub attachment_of : Cells → EndPort → Option (ℕ × ℕ)
attachment_of cells e = if is_usable cells e.node then Some (e.node, 0) else attached cells e.node e.port
