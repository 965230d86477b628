-- The GUID of a port at which a manager may sit fits 64 bits.
use Rattle.std.proofs.Common.{◌≡◌, ℕ, ◌+◌, ◌<◌, ◌≤◌, ◌^◌, true, false, List, Some, subst, arith}
use Rattle.std.specs.Prelude.{not, nat_le, slice_get}
use Rattle.std.specs.Option.{option_map_or}
use Rattle.std.proofs.lemmas.Bool.{leb-true}
use Rattle.smp_bytes.specs.NodeType.{is_switch}
use Rattle.smp_bytes.specs.Ports.{is_within}
use Rattle.fabric_model.specs.declared.cable.NodePort.{NodePort}
use Rattle.smp_bytes.specs.declared.node_type.NodeType.{NodeType}
use Rattle.smp_bytes.specs.declared.node_type.NodeType.TheVariants.{ChannelAdapter, Switch, Router}
use Rattle.text_words.proofs.Names.{both}
use Rattle.topo_file.specs.Topology.{IsNode, IsOfKind}
use Rattle.topo_file.specs.declared.node.Node.{Node}
use Rattle.schedule_file.specs.Resolve.{is_seat, may_seat}

of_adapter : (kind : NodeType) (ports guid cap : ℕ) → not (is_switch kind) ≡ true → IsOfKind kind ports guid cap → guid + ports < 2 ^ 64
of_adapter Switch ports guid cap adapter h = cc
of_adapter ChannelAdapter ports guid cap adapter h = h.1
of_adapter Router ports guid cap adapter h = absurd h

pub guid_fits : (nodes : List Node) (p : NodePort) (node : Node) → IsNode node → is_seat nodes p ≡ true → slice_get nodes p.node ≡ Some node
    → node.guid + p.port < 2 ^ 64
guid_fits nodes p node is seat there =
    let may : may_seat node p.port ≡ true = subst (λ o. option_map_or (λ n. may_seat n p.port) o false ≡ true) there seat in
    let parts = both (not (is_switch node.kind)) (is_within p.port node.ports) may in
    let within : p.port ≤ node.ports = leb-true _ _ (both (nat_le 1 p.port) (nat_le p.port node.ports) parts.1).1 in
    let room = of_adapter node.kind node.ports node.guid node.cap parts.0 is.of_kind in
    omega arith
