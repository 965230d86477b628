-- A sweep that is done, with every answer: its facts agree with the part of the fabric that is joined to its seat.
use Rattle.std.proofs.Common.{◌≡◌, inl, inr, ℕ, zero, suc, ◌≤◌, Bool, true, false, cond, ◌++◌, refl, sym, ap, ◌∙◌, subst, arith}
use Rattle.std.proofs.lemmas.Option.{same_Some}
use Rattle.std.specs.Prelude.{Some, option_map, MatchBool, IsSome, is_some}
use Rattle.std.specs.Option.{option_map_or}
use Rattle.std.specs.List.{AllByRecursion}
use Rattle.fabric_model.specs.declared.cable.NodePort.{NodePort}
use Rattle.smp_bytes.specs.declared.node_type.NodeType.{NodeType}
use Rattle.smp_bytes.specs.declared.node_type.NodeType.TheVariants.{Switch}
use Rattle.smp_bytes.specs.NodeType.{is_switch}
use Rattle.fabric_model.specs.Fabric as fabric
use Rattle.fabric_model.specs.Fabric.{Fabric, IsFabric, IsNodeAt}
use Rattle.fabric_model.specs.FabricWalks.{vertex_of, IsJoinedTo, Walk}
use Rattle.fabric_model.proofs.FabricWalks.{port_at, vertex_node, same_port}
use Rattle.fact_join.specs.declared.cell.Cell.TheVariants.{Known}
use Rattle.reply_facts.specs.declared.key.Key.{Key}
use Rattle.reply_facts.specs.declared.key.Key.TheVariants.{Node, PortGuid, Link, Port, Cap}
use Rattle.reply_facts.specs.declared.value.Value.{Value}
use Rattle.reply_facts.specs.declared.value.Value.TheVariants.{Kind, Guid, Peer, Up, Count}
use Rattle.reply_facts.specs.Known.{kind_in, guid_in, peer_in, up_in, count_in, known_in, node_of, port_guid_of, link_of, up_of, cap_of}
use Rattle.reply_facts.specs.Report.{Sightings, guid_port}
use Rattle.fact_store.specs.View.{cells_of, view}
use Rattle.subnet_view.specs.Reading.{Cells, IsUsable}
use Rattle.subnet_view.specs.EndPort as view_ports
use Rattle.subnet_view.specs.Wires as view_wires
use Rattle.subnet_view.specs.Wires.{CanHaveWire}
use Rattle.subnet_view.specs.FabricAgreement.{AgreesOn, IsEndPortIn, HasEndPort, HasWire, TellsEndPort}
use Rattle.sweep.specs.declared.vertex.Vertex.{Vertex}
use Rattle.sweep.specs.Sweep.{Sweep, Asking, path_to}
use Rattle.manager_laws.specs.Truth.{HasNode, IsTrueOf, IsTrueSighting}
use Rattle.manager_laws.proofs.Sound.{CanBeSwept}
use Rattle.manager_laws.specs.Complete.{HasWay}
use Rattle.manager_laws.proofs.Asked.{IsPending}
use Rattle.manager_laws.proofs.Closed.{WasReached, was_reached, answered_port, crossed, kind_known, guid_known, peer_known}
use Rattle.manager_laws.proofs.Covered.{having, guid_at, IsReached, IsOrigin, Covers, Crossed, IsJoinedPort, IsJoinedOf, IsJoinedSighting, Covered}
use Rattle.manager_laws.proofs.Known.{HasKey, IsSighted, same_node, node_value, guid_value, cap_value}
use Rattle.manager_laws.proofs.Known.{up_value, link_value, true_sighting, known_of, sighted_of}
use Rattle.manager_laws.proofs.Lists.{Has, has_as, has_with, all_contained}
use Rattle.manager_laws.proofs.Vertices.{at_found, at_key}
use Rattle.manager_laws.proofs.Taken.{guid_is, vertex_is}

module _ {f : Fabric} {seat : NodePort} (can : CanBeSwept f seat) (is_fabric : IsFabric f) (at_seat : fabric.Node) (seat_there : IsNodeAt f seat.node at_seat)
    (s : Sweep) (told : Sightings) (c : Covered f seat s told) (none : (a : Asking) → IsPending (s.outstanding ++ s.queued) a → ⊥)
    (start : Has (IsOrigin f seat) s.reached) (all : AllByRecursion (IsTrueSighting f) told) where
  abbrev cells : Cells
  cells = cells_of (view told)

  abbrev Reaches : NodePort → Type 0
  Reaches p = IsReached f seat s.reached p

  abbrev At : NodePort → fabric.Node → Type 0
  At p node = WasReached can is_fabric at_seat seat_there s told c none all p node

  at : (p : NodePort) (node : fabric.Node) → IsNodeAt f p.node node → Reaches p → At p node
  at p node there h = was_reached can is_fabric at_seat seat_there s told c none all p node there h

  -- all that is joined was reached ------------------------------------------------------------------------

  over : (from to : NodePort) → f.across from ≡ Some to → Reaches (vertex_of f from) → Crossed f seat (having s told) from to
  over from to cable reached =
      let (node, there, low, high) = is_fabric.cabled from to cable in
      crossed can is_fabric at_seat seat_there s told c none all from to node there low high cable reached

  all_reached : (n : ℕ) (a b : NodePort) → Reaches a → Walk f a b n → Reaches b
  all_reached zero a b h e = subst Reaches e h
  all_reached (suc n) a b h (d, next, between, w) =
      let cross = over next.out next.into next.wire.cable (subst Reaches (sym next.of_one) h) in
      all_reached n d b (subst Reaches next.of_other cross.end) w

  seat_reached : Reaches seat
  seat_reached = has_as (IsOrigin f seat) (λ (v : Vertex). (v.guid ≡ guid_at f seat seat.node) × (v.port ≡ seat.port)) (λ v is. (is.0, is.1)) s.reached start

  pub joined_reached : (p : NodePort) → IsJoinedTo f seat p → IsReached f seat s.reached p
  joined_reached p (n, w) = all_reached n seat p seat_reached w

  -- what is known of a vertex that was reached ---------------------------------------------------------------

  told_of : (key : Key) (x : Value) → ((v : Value) → IsTrueOf f key v → v ≡ x) → HasKey told key → known_in cells key ≡ Some x
  told_of key x only h = known_of f can.distinct told all key x only h

  module _ (p : NodePort) (node : fabric.Node) (g : ℕ) (has : HasNode f g p.node node) (reached : Reaches p) where
    abbrev vertex : At p node
    vertex = at p node has.there reached

    guid_same : vertex.v.guid ≡ g
    guid_same = vertex.guid ∙ has.named

    node_known : node_of cells g ≡ Some (node.kind, node.ports)
    node_known =
        ap kind_in (told_of (Node g) (Kind node.kind node.ports) (node_value f can.distinct has)
        (subst (λ x. HasKey told (Node x)) guid_same vertex.covers.node_told))

    port_guid_known : port_guid_of cells g p.port ≡ Some (node.port_guid p.port)
    port_guid_known =
        ap guid_in (told_of (PortGuid g p.port) (Guid (node.port_guid p.port)) (guid_value f can.distinct has p.port)
        (subst (λ x. HasKey told (PortGuid x p.port)) guid_same (subst (λ x. HasKey told (PortGuid vertex.v.guid x)) vertex.port vertex.covers.guid_told)))

    kind_same : vertex.v.kind ≡ node.kind
    kind_same = vertex.covers.kind ∙ ap (λ (n : fabric.Node). n.kind) vertex.same

    ports_same : vertex.v.ports ≡ node.ports
    ports_same = vertex.covers.ports ∙ ap (λ (n : fabric.Node). n.ports) vertex.same

    cap_known : is_switch node.kind ≡ true → cap_of cells g ≡ Some node.cap
    cap_known switch =
        ap count_in (told_of (Cap g) (Count node.cap) (cap_value f can.distinct has) (subst (λ x. HasKey told (Cap x)) guid_same cap_told))
      where
        cap_told : HasKey told (Cap vertex.v.guid)
        cap_told = elim (vertex.covers.switch (ap is_switch kind_same ∙ switch)) [ inl k ↦ absurd (none _ k) | inr k ↦ k ]

  -- a port with a cable, of a vertex that was reached -----------------------------------------------------------

  module _ (from to : NodePort) (node : fabric.Node) (g : ℕ) (has : HasNode f g from.node node) (low : 1 ≤ from.port) (high : from.port ≤ node.ports)
      (cable : f.across from ≡ Some to) (reached : Reaches (vertex_of f from)) where
    has_vertex : HasNode f g (vertex_of f from).node node
    has_vertex = record { there = subst (λ k. IsNodeAt f k node) (sym (vertex_node f from)) has.there; named = has.named }

    abbrev mine : At (vertex_of f from) node
    mine = vertex (vertex_of f from) node g has_vertex reached

    mine_kind : mine.v.kind ≡ node.kind
    mine_kind = kind_same (vertex_of f from) node g has_vertex reached

    mine_port : (b : Bool) → is_switch node.kind ≡ b → (vertex_of f from).port ≡ cond b 0 from.port
    mine_port b e = ap (λ (q : NodePort). q.port) (vertex_is f from node has.there) ∙ ap (λ x. cond x 0 from.port) e

    port_told : HasKey told (Port g from.port)
    port_told =
        subst (λ x. HasKey told (Port x from.port)) (guid_same (vertex_of f from) node g has_vertex reached)
        (answered_port can is_fabric at_seat seat_there s told c none all mine.v mine.covers from.port (its (is_switch node.kind) refl)).0
      where
        its : (b : Bool) → is_switch node.kind ≡ b → MatchBool (is_switch mine.v.kind) (from.port ≤ mine.v.ports) (from.port ≡ mine.v.port)
        its true e =
            subst (λ b. MatchBool b (from.port ≤ mine.v.ports) (from.port ≡ mine.v.port)) (sym (ap is_switch mine_kind ∙ e))
            (let most = ports_same (vertex_of f from) node g has_vertex reached in omega (arith, high, most))
        its false e =
            subst (λ b. MatchBool b (from.port ≤ mine.v.ports) (from.port ≡ mine.v.port)) (sym (ap is_switch mine_kind ∙ e))
            (sym (mine.port ∙ mine_port false e))

    up_known : up_of cells g from.port ≡ Some true
    up_known = ap up_in (told_of (Port g from.port) (Up true) (up_value f can.distinct has from.port (inr (to, cable))) port_told)

    can_have : CanHaveWire cells g from.port
    can_have = (
      node.kind,
      node.ports,
      node_known (vertex_of f from) node g has_vertex reached,
      low,
      high,
      ap (λ o. option_map_or (λ up. up) o false) up_known,
      by_kind (is_switch node.kind) refl,
    )
      where
        by_kind : (b : Bool) → is_switch node.kind ≡ b → MatchBool (is_switch node.kind) (IsSome (cap_of cells g)) (IsSome (port_guid_of cells g from.port))
        by_kind true e =
            subst (λ b. MatchBool b (IsSome (cap_of cells g)) (IsSome (port_guid_of cells g from.port))) (sym e)
            (ap is_some (cap_known (vertex_of f from) node g has_vertex reached e))
        by_kind false e =
            subst (λ b. MatchBool b (IsSome (cap_of cells g)) (IsSome (port_guid_of cells g from.port))) (sym e)
            (ap is_some (ap (port_guid_of cells g) (sym (mine_port false e)) ∙ port_guid_known (vertex_of f from) node g has_vertex reached))

  link_known : (from to : NodePort) (a b : fabric.Node) (g h : ℕ) → HasNode f g from.node a → HasNode f h to.node b → f.across from ≡ Some to
      → HasKey told (Link (guid_at f seat from.node) from.port) → link_of cells g from.port ≡ Some (h, to.port)
  link_known from to a b g h here there cable key =
      ap peer_in (told_of (Link g from.port) (Peer h to.port) (link_value f can.distinct here from.port to h b cable there)
      (subst (λ x. HasKey told (Link x from.port)) (guid_is f here seat) key))

  -- what is known is so, of the part that is joined ------------------------------------------------------------------

  joined_sighting : (key : Key) (x : Value) → IsSighted told key x → IsJoinedOf f seat key x
  joined_sighting key x sighted = all_contained (IsJoinedSighting f seat) told (key, Known sighted.generation x) c.joined sighted.there

  node_sighted : (g : ℕ) (kind : NodeType) (ports : ℕ) → node_of cells g ≡ Some (kind, ports) → IsSighted told (Node g) (Kind kind ports)
  node_sighted g kind ports e = sighted_of told (Node g) (Kind kind ports) (kind_known (known_in cells (Node g)) kind ports e)

  guid_sighted : (g p : ℕ) → IsSome (port_guid_of cells g p) → (x : ℕ) × IsSighted told (PortGuid g p) (Guid x)
  guid_sighted g p e =
      let (x, is) = guid_known (known_in cells (PortGuid g p)) e in (x, sighted_of told (PortGuid g p) (Guid x) is)

  -- where a port's vertex is joined
  joined_port : (g p id : ℕ) (node : fabric.Node) → HasNode f g id node → IsJoinedPort f seat g p → IsJoinedTo f seat (port_at id p)
  joined_port g p id node has j = subst (λ k. IsJoinedTo f seat (port_at k p)) (same_node f can.distinct j.has has).0 j.joined

  ends : (port : NodePort) (node : fabric.Node) → IsEndPortIn (IsJoinedTo f seat) f port node → TellsEndPort cells node port.port
  ends port node end =
      let has : HasNode f node.guid port.node node = record { there = end.node_there; named = refl } in
      let reached = joined_reached port end.in_part in
      record {
        kind = node_known port node node.guid has reached;
        port_guid = port_guid_known port node node.guid has reached;
        cap = λ switch. cap_known port node node.guid has reached switch;
      }

  end_there : (g p : ℕ) → view_ports.IsEndPort cells g p → HasEndPort (IsJoinedTo f seat) f g p
  end_there g p (kind, ports, is_node, number, known) =
      let (x, sighted) = guid_sighted g p known in
      let (id, node, has, its_number, value) = true_sighting f can.distinct told all (PortGuid g p) (Guid x) sighted in
      record {
        port = port_at id p;
        named = record { node = node; node_there = has.there; guid_is = has.named; port_is = refl };
        end_port = (node, has.there, its_number);
        in_part = joined_port g p id node has (joined_sighting (PortGuid g p) (Guid x) sighted);
      }

  switch_there : (g : ℕ) → IsUsable cells g → HasEndPort (IsJoinedTo f seat) f g 0
  switch_there g (ports, is_node, known) =
      let sighted = node_sighted g Switch ports is_node in
      let (id, node, has, kind, count) = true_sighting f can.distinct told all (Node g) (Kind Switch ports) sighted in
      record {
        port = port_at id 0;
        named = record { node = node; node_there = has.there; guid_is = has.named; port_is = refl };
        end_port = (node, has.there, subst (λ k. MatchBool (is_switch k) (zero ≡ 0) ((1 ≤ zero) × (zero ≤ node.ports))) (sym kind) refl);
        in_part = joined_port g 0 id node has (joined_sighting (Node g) (Kind Switch ports) sighted refl);
      }

  -- wires ---------------------------------------------------------------------------------------------------------------

  wire_there : (g p h q : ℕ) → view_wires.IsWire cells g p h q → HasWire (IsJoinedTo f seat) f g p h q
  wire_there g p h q w =
      let sighted = sighted_of told (Link g p) (Peer h q) (peer_known (known_in cells (Link g p)) h q w.named_there) in
      let (id, node, has, cable) = true_sighting f can.distinct told all (Link g p) (Peer h q) sighted in
      record {
        from = port_at id p;
        to = cable.far;
        from_named = record { node = node; node_there = has.there; guid_is = has.named; port_is = refl };
        to_named = record { node = cable.other; node_there = cable.node.there; guid_is = cable.node.named; port_is = cable.port_is };
        wire = record {
          cable = cable.cable;
          different = λ same.
              let id_is : id ≡ cable.far.node = ap (λ (x : NodePort). x.node) same in
              let port_is : p ≡ q = ap (λ (x : NodePort). x.port) same ∙ cable.port_is in
              let node_is : node ≡ cable.other = same_Some node cable.other (sym (subst (λ k. IsNodeAt f k node) id_is has.there) ∙ cable.node.there) in
              let guid_is : g ≡ h = sym has.named ∙ ap (λ (n : fabric.Node). n.guid) node_is ∙ cable.node.named in
              w.different (λ j. (guid_is j, port_is j));
        };
        in_part = in_part id node has w.first;
      }
    where
      in_part : (id : ℕ) (node : fabric.Node) → HasNode f g id node → CanHaveWire cells g p → IsJoinedTo f seat (vertex_of f (port_at id p))
      in_part id node has (kind, ports, is_node, low, high, up, tells) = by_kind (is_switch kind) refl tells
        where
          sighted : IsSighted told (Node g) (Kind kind ports)
          sighted = node_sighted g kind ports is_node

          kind_is : node.kind ≡ kind
          kind_is =
              let (at, n, there, k, count) = true_sighting f can.distinct told all (Node g) (Kind kind ports) sighted in
              ap (λ (x : fabric.Node). x.kind) (same_node f can.distinct has there).1 ∙ k

          vertex_there : (b : Bool) → is_switch kind ≡ b → vertex_of f (port_at id p) ≡ port_at id (cond b 0 p)
          vertex_there b e = vertex_is f (port_at id p) node has.there ∙ ap (λ x. port_at id (cond x 0 p)) (ap is_switch kind_is ∙ e)

          by_kind : (b : Bool) → is_switch kind ≡ b → MatchBool b (IsSome (cap_of cells g)) (IsSome (port_guid_of cells g p))
              → IsJoinedTo f seat (vertex_of f (port_at id p))
          by_kind true e known =
              subst (IsJoinedTo f seat) (sym (vertex_there true e)) (joined_port g 0 id node has (joined_sighting (Node g) (Kind kind ports) sighted e))
          by_kind false e known =
              let (x, its) = guid_sighted g p known in
              subst (IsJoinedTo f seat) (sym (vertex_there false e)) (joined_port g p id node has (joined_sighting (PortGuid g p) (Guid x) its))

  wire_known : (g p h q : ℕ) → HasWire (IsJoinedTo f seat) f g p h q → view_wires.IsWire cells g p h q
  wire_known g p h q w =
      let here : HasNode f g w.from.node w.from_named.node = record { there = w.from_named.node_there; named = w.from_named.guid_is } in
      let there : HasNode f h w.to.node w.to_named.node = record { there = w.to_named.node_there; named = w.to_named.guid_is } in
      let reached = joined_reached (vertex_of f w.from) w.in_part in
      let cable = w.wire.cable in
      let back = is_fabric.both_ways w.from w.to cable in
      let cross = over w.from w.to cable reached in
      let (a, a_there, a_low, a_high) = is_fabric.cabled w.from w.to cable in
      let (b, b_there, b_low, b_high) = is_fabric.cabled w.to w.from back in
      let a_is : a ≡ w.from_named.node = same_Some a w.from_named.node (sym a_there ∙ w.from_named.node_there) in
      let b_is : b ≡ w.to_named.node = same_Some b w.to_named.node (sym b_there ∙ w.to_named.node_there) in
      let first : CanHaveWire cells g w.from.port =
      can_have w.from w.to w.from_named.node g here a_low (subst (λ (n : fabric.Node). w.from.port ≤ n.ports) a_is a_high) cable reached in
      let second : CanHaveWire cells h w.to.port =
      can_have w.to w.from w.to_named.node h there b_low (subst (λ (n : fabric.Node). w.to.port ≤ n.ports) b_is b_high) back cross.end in
      let p_is = w.from_named.port_is in
      let q_is = w.to_named.port_is in
      record {
        different = λ same. w.wire.different (alike here there (ap (λ (x : ℕ × ℕ). x.0) same) (p_is ∙ ap (λ (x : ℕ × ℕ). x.1) same ∙ sym q_is));
        first = subst (CanHaveWire cells g) p_is first;
        second = subst (CanHaveWire cells h) q_is second;
        named_there = ap (link_of cells g) (sym p_is) ∙ link_known w.from w.to w.from_named.node w.to_named.node g h here there cable cross.there
            ∙ ap (λ x. Some (h, x)) q_is;
        named_back = ap (link_of cells h) (sym q_is) ∙ link_known w.to w.from w.to_named.node w.from_named.node h g there here back cross.back
            ∙ ap (λ x. Some (g, x)) p_is;
      }
    where
      alike : HasNode f g w.from.node w.from_named.node → HasNode f h w.to.node w.to_named.node → g ≡ h → w.from.port ≡ w.to.port → w.from ≡ w.to
      alike here there same ports =
          same_port w.from w.to (same_node f can.distinct here (record { there = there.there; named = there.named ∙ sym same })).0 ports

  -- the way to each end port that is known
  way_of : (g p : ℕ) (v : Vertex) → Covers f seat (having s told) v → v.guid ≡ g → v.port ≡ p → path_to s g p ≡ Some v.path → HasWay f seat s g p
  way_of g p v covers guid port path =
      let number : guid_port covers.node.kind v.arrival ≡ p = (λ j. guid_port (sym covers.kind j) v.arrival) ∙ sym covers.port ∙ port in
      record {
        path = v.path;
        told = path;
        end = port_at covers.id v.arrival;
        leads = covers.leads;
        node = covers.node;
        there = covers.has.there;
        named = covers.has.named ∙ guid;
        vertex = vertex_is f (port_at covers.id v.arrival) covers.node covers.has.there ∙ ap (port_at covers.id) number;
      }

  pub ways : (g p : ℕ) → view_ports.IsEndPort cells g p → HasWay f seat s g p
  ways g p is =
      let known = end_there g p is in
      let has : HasNode f g known.port.node known.named.node = record { there = known.named.node_there; named = known.named.guid_is } in
      let (v, told_as, there) = at_found s.reached g p
      (has_as (λ (v : Vertex). (v.guid ≡ guid_at f seat known.port.node) × (v.port ≡ known.port.port)) (λ (v : Vertex). (v.guid ≡ g) × (v.port ≡ p))
      (λ v of. (of.0 ∙ guid_is f has seat, of.1 ∙ known.named.port_is)) s.reached (joined_reached known.port known.in_part)) in
      let key = at_key s.reached g p v told_as in
      has_with (Covers f seat (having s told)) (λ u. u ≡ v) s.reached c.vertices there
      (λ u is same. way_of g p v (subst (Covers f seat (having s told)) same is) key.0 key.1 (ap (option_map (λ (x : Vertex). x.path)) told_as))

  pub agrees : AgreesOn (IsJoinedTo f seat) cells f
  agrees =
      record {
        guids_distinct = λ p q a b one other same. can.distinct p.node q.node a b one.node_there other.node_there same;
        tells_end_ports = ends;
        end_ports_exist = end_there;
        switches_exist = switch_there;
        wires = λ g p h q. (wire_there g p h q, wire_known g p h q);
      }
