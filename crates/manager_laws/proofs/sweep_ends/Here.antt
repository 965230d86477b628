-- Each vertex that a sweep adds is at a port of a node of the fabric.
use Rattle.std.proofs.Common.{◌≡◌, ℕ, ◌+◌, ◌≤◌, Bool, true, false, cond, ◌&&◌, ◌||◌, List, refl, sym, ap, ◌∙◌, subst, arith}
use Rattle.std.proofs.lemmas.Bool.{and_parts, cond_both, leb-true}
use Rattle.std.proofs.lemmas.Option.{same_Some}
use Rattle.std.specs.Prelude.{Option, Some, None, is_some, nat_le}
use Rattle.std.specs.List.{AllByRecursion}
use Rattle.fabric_model.specs.declared.cable.NodePort.{NodePort}
use Rattle.fabric_model.specs.Fabric.{Fabric, IsNodeAt, Node}
use Rattle.fabric_sim.specs.ToldOfEnd.{SaysNode, SaysOf}
use Rattle.smp_bytes.specs.declared.node_type.NodeType.{NodeType}
use Rattle.smp_bytes.specs.Field.{number_in}
use Rattle.smp_bytes.specs.Header.{node_info}
use Rattle.smp_bytes.specs.NodeType.{is_switch}
use Rattle.smp_bytes.specs.Packet.{attribute_id}
use Rattle.attr_codec.specs.declared.node_info.NodeInfo.{NodeInfo}
use Rattle.attr_codec.specs.NodeTypeNumber.{type_of_number}
use Rattle.reply_facts.specs.Report.{about_of, may_be_asked_by, node_info_of, payload_of}
use Rattle.reply_facts.specs.Sighting.{is_cabled_port}
use Rattle.sweep.specs.declared.question.Question.{Question}
use Rattle.sweep.specs.declared.question.Question.TheVariants as ask
use Rattle.sweep.specs.declared.request.Request.{Request}
use Rattle.sweep.specs.declared.vertex.Vertex.{Vertex}
use Rattle.sweep.specs.Finding.{finding_of, found_again, found_anew, node_found_of, port_found, vertex_of, with_vertex}
use Rattle.sweep.specs.Order.{placed}
use Rattle.sweep.specs.Sweep.{Sweep, attribute_asked, first_vertex, vertex_at, vertex_key}
use Rattle.manager_laws.specs.Truth.{AreGuidsDistinct, HasNode}
use Rattle.manager_laws.proofs.Accepted.{IsFor, IsGoodNode, type_read}
use Rattle.manager_laws.proofs.Lists.{Has, has_with}
use Rattle.manager_laws.proofs.Vertices.{first_has, placed_all}

-- the vertex is port 0 of a switch of the fabric, or a port of another node
pub record IsHere (f : Fabric) (v : Vertex) : Type 0 where
  pub id : ℕ
  pub node : Node
  pub has : HasNode f v.guid id node
  pub kind : v.kind ≡ node.kind
  pub ports : v.ports ≡ node.ports
  pub within : v.port ≤ node.ports
  pub zero : is_switch node.kind ≡ true → v.port ≡ 0

abbrev pub AreHere : Fabric → List Vertex → Type 0
AreHere f reached = AllByRecursion (IsHere f) reached

module _ (f : Fabric) (distinct : AreGuidsDistinct f) (s : Sweep) (here : AreHere f s.reached) (end : NodePort) where
  -- NodeInfo that was read there
  module _ (path : List ℕ) (node : Node) (there : IsNodeAt f end.node node) (info : NodeInfo) (says : SaysNode node end.port info)
      (small : info.local_port_num ≤ info.num_ports) where
    has : HasNode f info.node_guid end.node node
    has = record { there = there; named = sym says.guid }

    vertex_here : (kind : NodeType) (ports : ℕ) → kind ≡ node.kind → ports ≡ node.ports
        → AreHere f (placed vertex_key (vertex_of path info kind ports) s.reached)
    vertex_here kind ports kind_is ports_is =
        let most = says.ports in
        placed_all (IsHere f) (vertex_of path info kind ports) s.reached
        (record {
          id = end.node;
          node = node;
          has = has;
          kind = kind_is;
          ports = ports_is;
          within = cond_both (is_switch kind) 0 info.local_port_num (λ n. n ≤ node.ports) (λ _. omega arith) (λ _. omega (arith, small, most));
          zero = λ switch. ap (λ b. cond b 0 info.local_port_num) (ap is_switch kind_is ∙ switch);
        })
        here

    anew : (m : Option NodeType) → type_of_number info.node_type ≡ m → AreHere f (with_vertex (found_anew path info m) s.reached)
    anew None e = here
    anew (Some kind) e = vertex_here kind info.num_ports (same_Some _ _ (sym e ∙ ap type_of_number says.kind ∙ type_read node.kind)) says.ports

    again : (first : Vertex) → first_vertex s.reached info.node_guid ≡ Some first
        → AreHere f (with_vertex (found_again s path info first) s.reached)
    again first e =
        cond_both (is_switch first.kind || is_some (vertex_at s.reached info.node_guid info.local_port_num)) _ _
        (λ o. AreHere f (with_vertex o s.reached))
        (λ _. here)
        (λ _. vertex_here first.kind first.ports (is.kind ∙ ap (λ (n : Node). n.kind) same_node) (is.ports ∙ ap (λ (n : Node). n.ports) same_node))
      where
        found : Has (λ u. u ≡ first) s.reached × (first.guid ≡ info.node_guid)
        found = first_has s.reached info.node_guid first e

        is : IsHere f first
        is = has_with (IsHere f) (λ u. u ≡ first) s.reached here found.0 (λ x h same. subst (IsHere f) same h)

        same_id : is.id ≡ end.node
        same_id = distinct _ _ is.node node is.has.there there (is.has.named ∙ found.1 ∙ says.guid)

        same_node : is.node ≡ node
        same_node = same_Some _ _ (sym (subst (λ n. IsNodeAt f n is.node) same_id is.has.there) ∙ there)

    pub node_here : (m : Option Vertex) → first_vertex s.reached info.node_guid ≡ m → AreHere f (with_vertex (node_found_of s path info m) s.reached)
    node_here None e = anew (type_of_number info.node_type) refl
    node_here (Some first) e = again first e

  port_here : (path : List ℕ) (about : Option ℕ) (port : ℕ) (info : List ℕ) → AreHere f (with_vertex (port_found s path about port info) s.reached)
  port_here path None port info = here
  port_here path (Some guid) port info = here

  -- a reply that says what is true there
  module _ (r : Request) (packet : List ℕ) (says : SaysOf f end packet) (for : IsFor packet r)
      (good : number_in attribute_id packet ≡ node_info → IsGoodNode r.context packet) where
    small : IsGoodNode r.context packet → (node_info_of packet).local_port_num ≤ (node_info_of packet).num_ports
    small is =
        let info = node_info_of packet in
        let ranges = and_parts (is_cabled_port info.num_ports && nat_le info.local_port_num info.num_ports)
        (may_be_asked_by r.context is.kind info.local_port_num) is.ranges in
        leb-true _ _ (and_parts (is_cabled_port info.num_ports) (nat_le info.local_port_num info.num_ports) ranges.0).1

    pub reply_here : (q : Question) → r.question ≡ q → AreHere f (with_vertex (finding_of s r packet q) s.reached)
    reply_here ask.Node e =
        let info = node_info_of packet in
        let attribute = for.attribute ∙ ap attribute_asked e in
        node_here r.path says.node says.there info (says.node_info attribute) (small (good attribute)) (first_vertex s.reached info.node_guid) refl
    reply_here ask.Switch e = here
    reply_here (ask.Port port) e = port_here r.path (about_of r.context) port (payload_of packet)
    reply_here (ask.Manager guid port) e = here
