-- If tables pass by facts, packets are delivered in the part of a fabric that the facts describe.
use Rattle.std.proofs.Common.{◌≡◌, ◌≢◌, ◌≤◌, ℕ, Bool, true, false, cond, ◌||◌, List, [], ◌∷◌, Option, None, Some, refl, sym, ap, ◌∙◌, subst}
use Rattle.std.specs.Prelude.{Contains, is_some, nat_lt, option_and_then, option_map, slice_get, ◌==◌}
use Rattle.std.specs.Option.{option_map_or}
use Rattle.std.proofs.lemmas.Bool.{and_left, eq-eqb}
use Rattle.std.proofs.lemmas.Option.{same_Some}
use Rattle.fabric_model.specs.declared.cable.NodePort.{NodePort}
use Rattle.fabric_model.specs.declared.course.Course.{Course}
use Rattle.fabric_model.specs.declared.course.Course.TheVariants.{Delivers, LeavesBy, Drops}
use Rattle.fabric_model.specs.Cables.{is_same_port}
use Rattle.smp_bytes.specs.NodeType.{is_switch}
use Rattle.fabric_model.specs.Fabric.{Node, Fabric, IsFabric, IsNodeAt, IsEndPort, is_switch_at, owns, IsPortNamed}
use Rattle.fabric_model.specs.FabricWalks.{IsJoinedTo, vertex_of}
use Rattle.fabric_model.specs.Forwarding.{Standing, arrived_at, sent_from, course, adapter_course, entry_course, switch_course, Hop, Goes, IsDelivered}
use Rattle.fabric_model.proofs.Cabled.{same_port-is, same_port-refl}
use Rattle.fabric_model.proofs.FabricWalks.{port_at, same_port, EndNumber, type_at, vertex_node, switch_vertex, adapter_vertex, vertex_is_end, switch_number}
use Rattle.fact_store.specs.View.{Facts, cells_of}
use Rattle.subnet_view.specs.declared.end_port.EndPort.{EndPort}
use Rattle.subnet_view.specs.EndPort.{end_ports}
use Rattle.reply_facts.specs.Known.{cap_of}
use Rattle.subnet_view.specs.Reading.{Cells, is_switch_node, is_usable}
use Rattle.subnet_view.specs.Wires.{across, attached, leads_to}
use Rattle.subnet_view.specs.FabricAgreement.{Part, IsEndPortIn}
use Rattle.subnet_view.proofs.EndPortList.{end_ports_law}
use Rattle.subnet_view.proofs.WireLaws.{wire_law}
use Rattle.held_tables.specs.Held.{HeldPlan}
use Rattle.subnet_view.specs.Graph.{graph_of}
use Rattle.subnet_view.specs.Components.{root_of}
use Rattle.subnet_view.proofs.Components.{rooted, same_root}
use Rattle.subnet_view.proofs.Graphs.{graph_law}
use Rattle.subnet_view.proofs.Joined.{HasAttachment, LiesAt, Meets, apart, by_wire, itself, joined_meet, same, switch_in_graph, wired}
use Rattle.subnet_view.proofs.PartWires.{IsTold, known_type, switch_at_index, switch_known, switch_port, switch_usable}
use Rattle.subnet_view.proofs.GraphSwitches.{usable_switch}
use Rattle.subnet_view.specs.Wires.{attachment_of}
use Rattle.packet_walks.specs.declared.packet_end.End.TheVariants.{Taken}
use Rattle.packet_walks.specs.Fabrics.{EndsAs, IsSeenIn}
use Rattle.packet_walks.specs.HopsByTables.{IsBrought, is_at}
use Rattle.packet_walks.proofs.Elsewhere.{not_there}
use Rattle.packet_walks.proofs.Judged.{same_itself}
use Rattle.packet_walks.proofs.OwnerLines.{owner_line}
use Rattle.packet_walks.proofs.Told.{IsClosed, joined_closed, packets_end_as_told_in_parts}
use Rattle.held_tables.specs.Tables.{is_same_end}
use Rattle.table_laws.specs.AuditLaws.{MissedPacketsMiss, PassingAuditsDeliver}
use Rattle.audit_report.proofs.Judged.{brought}
use Rattle.audit_report.specs.Packets.{arrives}
use Rattle.audit_report.specs.Site.{in_one_component, is_one_root, root_at}

-- what is delivered stays within what is joined -----------------------------------------------

module _ (f : Fabric) (lid : ℕ) (s : Standing) where
  abbrev StaysAt : Course → Type 0
  StaysAt (Delivers p) = vertex_of f p ≡ vertex_of f s.at
  StaysAt (LeavesBy p) = vertex_of f p ≡ vertex_of f s.at
  StaysAt Drops = Unit {0}

  at_adapter : (own : Bool) → StaysAt (adapter_course own s)
  at_adapter true = refl
  at_adapter false = elim s.by_wire as (λ t. StaysAt (cond t Drops (LeavesBy s.at))) [ true ↦ tt | false ↦ refl ]

  at_switch : (node : Node) → IsNodeAt f s.at.node node → is_switch node.kind ≡ true → (ports top entry : ℕ)
      → StaysAt (switch_course ports s.at.node top lid entry)
  at_switch node at kind ports top entry =
      let k = s.at.node in
      let switch : is_switch_at f k ≡ true = type_at f k node at ∙ kind in
      let vertex : (n : ℕ) → vertex_of f (port_at k n) ≡ vertex_of f s.at =
      λ n. switch_vertex f (port_at k n) switch ∙ sym (switch_vertex f s.at switch) in
      elim (lid == 0 || nat_lt top lid) as (λ t. StaysAt (cond t Drops (entry_course ports k entry))) [
        | true ↦ tt
        | false ↦ (elim (entry == 255 || nat_lt ports entry) as
            (λ t. StaysAt (cond t Drops (cond (entry == 0) (Delivers (port_at k 0)) (LeavesBy (port_at k entry))))) [
              | true ↦ tt
              | false ↦ (elim (entry == 0) as (λ t. StaysAt (cond t (Delivers (port_at k 0)) (LeavesBy (port_at k entry)))) [
                | true ↦ vertex 0
                | false ↦ vertex entry
              ])
            ])
      ]

  stays : StaysAt (course f lid s)
  stays =
      let k = s.at.node in
      let does : Node → Course = λ n. cond (is_switch n.kind) (switch_course n.ports k (f.top k) lid (f.entry k lid)) (adapter_course (owns f s.at lid) s) in
      elim (slice_get f.nodes k) as (λ o. slice_get f.nodes k ≡ o → StaysAt (option_map_or does o Drops)) [
        | None ↦ λ e. tt
        | Some node ↦ λ e. (elim (is_switch node.kind) as (λ t. is_switch node.kind ≡ t
            → StaysAt (cond t (switch_course node.ports k (f.top k) lid (f.entry k lid)) (adapter_course (owns f s.at lid) s))) [
              | true ↦ λ kind. at_switch node e kind node.ports (f.top k) (f.entry k lid)
              | false ↦ λ kind. at_adapter (owns f s.at lid)
            ] refl)
      ] refl

module _ (part : Part) (f : Fabric) (fab : IsFabric f) (closed : IsClosed part f) (lid : ℕ) where
  -- the vertex of a port is an end port of the part
  abbrev Within : NodePort → Type 0
  Within p = part (vertex_of f p) × IsEndPort f (vertex_of f p)

  over : (p q : NodePort) → Within p → f.across p ≡ Some q → Within q
  over p q within wire =
      elim (is_same_port p q) as (λ t. is_same_port p q ≡ t → Within q) [
        | true ↦ λ e. subst Within (same_port-is p q e) within
        | false ↦ λ e.
            let different : p ≢ q =
            λ is. (let yes : is_same_port p p ≡ true = same_port-refl p in let moved : is_same_port p p ≡ is_same_port p q = ap (is_same_port p) is in cc) in (
              closed p q within.0 (record { cable = wire; different = different }),
              vertex_is_end f q (fab.cabled q p (fab.both_ways p q wire)),
            )
      ] refl

  moved : (p q : NodePort) → vertex_of f q ≡ vertex_of f p → Within p → Within q
  moved p q e within = (subst part (sym e) within.0, subst (IsEndPort f) (sym e) within.1)

  goes_within : (hops : List Hop) (st end : Standing) (target : NodePort) → Within st.at → Goes f lid st hops end → course f lid end ≡ Delivers target
      → Within target
  goes_within [] st end target within g d =
      let delivers : course f lid st ≡ Delivers target = ap (course f lid) g ∙ d in
      moved st.at target (subst (StaysAt f lid st) delivers (stays f lid st)) within
  goes_within (h ∷ hops) st end target within g d =
      let out : Within h.out = moved st.at h.out (subst (StaysAt f lid st) g.0 (stays f lid st)) within in
      goes_within hops (arrived_at h.into) end target (over h.out h.into out g.1) g.2 d

-- what is joined lies in one component ----------------------------------------------------------

or_first : (a b c : Bool) → a ≡ true → ((a || b) || c) ≡ true
or_first true b c h = refl
or_first false b c h = cc

or_second : (a b c : Bool) → b ≡ true → ((a || b) || c) ≡ true
or_second true b c h = refl
or_second false true c h = refl
or_second false false c h = cc

or_third : (a b c : Bool) → c ≡ true → ((a || b) || c) ≡ true
or_third true b c h = refl
or_third false true c h = refl
or_third false false c h = h

abbrev name : NodePort → Node → EndPort
name p node = record { node = node.guid; port = p.port }

module _ {cells : Cells} {f : Fabric} {origin : NodePort} (told : IsTold cells f origin) where
  abbrev InPart : NodePort → Node → Type 0
  InPart p node = IsEndPortIn (IsJoinedTo f origin) f p node

  named : (p : NodePort) (node : Node) → InPart p node → IsPortNamed f node.guid p.port p
  named p node here = record { node = node; node_there = here.node_there; guid_is = refl; port_is = refl }

  of_type : (v : NodePort) (node : Node) → InPart v node → is_switch_node cells node.guid ≡ is_switch_at f v.node
  of_type v node here = known_type told v node here ∙ sym (type_at f v.node node here.node_there)

  -- the facts have the attachment of an end port
  lies : (v h : NodePort) (node : Node) (g : ℕ) (here : InPart v node) (attachment : HasAttachment f origin v h g) → LiesAt f v h
      → attachment_of cells (name v node) ≡ Some (g, h.port)
  lies v h node g here attachment (itself s z e) =
      let node_is : node ≡ attachment.there.node =
      same_Some node attachment.there.node (sym here.node_there ∙ ap (λ (p : NodePort). slice_get f.nodes p.node) e ∙ attachment.there.at) in
      let guid : node.guid ≡ g = ap (λ (n : Node). n.guid) node_is ∙ attachment.there.guid in
      let number : 0 ≡ h.port = sym z ∙ ap (λ (p : NodePort). p.port) e in
      let usable : is_usable cells node.guid ≡ true = ap (is_usable cells) guid ∙ switch_usable told attachment.there in
      ap (λ t. cond t (Some (node.guid, 0)) (attached cells node.guid v.port)) usable ∙ (λ i. Some (guid i, number i))
  lies v h node g here attachment (by_wire s e) =
      let different : v ≢ h = λ is. cc (s, ap (λ (p : NodePort). is_switch_at f p.node) is, switch_at_index attachment.there) in
      let wire : across cells node.guid v.port ≡ Some (g, h.port) =
      (wire_law cells node.guid v.port g h.port).1 (told.covers.wires_told node.guid v.port g h.port
      (record {
        from = v;
        to = h;
        from_named = named v node here;
        to_named = switch_port attachment.there h.port;
        wire = record { cable = e; different = different };
        in_part = subst (IsJoinedTo f origin) (sym (adapter_vertex f v s)) here.in_part;
      })) in
      let no_switch : is_switch_node cells node.guid ≡ false = of_type v node here ∙ s in
      ap (λ t. cond t (Some (node.guid, 0)) (attached cells node.guid v.port))
      (and_left (is_switch_node cells node.guid) (is_some (cap_of cells node.guid)) no_switch)
      ∙ ap (λ t. cond t None (option_and_then (λ q. cond (is_switch_node cells q.0) (Some q) None) (across cells node.guid v.port))) no_switch
      ∙ ap (option_and_then (λ q. cond (is_switch_node cells q.0) (Some q) None)) wire
      ∙ ap (λ t. cond t (Some (g, h.port)) None) (switch_known told attachment.there)

  root_known : (v h : NodePort) (node : Node) (g : ℕ) → InPart v node → HasAttachment f origin v h g → root_at cells (name v node) ≡ root_of (graph_of cells) g
  root_known v h node g here attachment =
      ap (λ (o : Option (ℕ × ℕ)). option_and_then (root_of (graph_of cells)) (option_map (λ h. h.0) o)) (lies v h node g here attachment attachment.lies)

  -- two that meet
  of_meeting : (v w : NodePort) (a b : Node) → InPart v a → InPart w b → Meets cells f origin v w → in_one_component cells (name v a) (name w b) ≡ true
  of_meeting v w a b at_v at_w m =
      let e = name v a in
      let x = name w b in
      let own = is_same_end e x in
      let one = is_one_root (root_at cells e) (root_at cells x) in
      let wire = leads_to (across cells e.node e.port) x in
      elim m [
        | same is ↦
            let node : a ≡ b = same_Some a b (sym at_v.node_there ∙ ap (λ (p : NodePort). slice_get f.nodes p.node) is ∙ at_w.node_there) in
            let alike : e ≡ x = (λ i. record { node = (node i).guid; port = (is i).port }) in
            or_first own one wire (ap (is_same_end e) (sym alike) ∙ same_itself e)
        | wired s t cable ↦ (elim (is_same_port v w) as (λ t. is_same_port v w ≡ t → ((own || one) || wire) ≡ true) [
          | true ↦ λ k.
              let is : v ≡ w = same_port-is v w k in
              let node : a ≡ b = same_Some a b (sym at_v.node_there ∙ ap (λ (p : NodePort). slice_get f.nodes p.node) is ∙ at_w.node_there) in
              let alike : e ≡ x = (λ i. record { node = (node i).guid; port = (is i).port }) in
              or_first own one wire (ap (is_same_end e) (sym alike) ∙ same_itself e)
          | false ↦ λ k.
              let different : v ≢ w =
              λ is. (let yes : is_same_port v v ≡ true = same_port-refl v in let moved : is_same_port v v ≡ is_same_port v w = ap (is_same_port v) is in cc) in
              let there : across cells a.guid v.port ≡ Some (b.guid, w.port) =
              (wire_law cells a.guid v.port b.guid w.port).1 (told.covers.wires_told a.guid v.port b.guid w.port
              (record {
                from = v;
                to = w;
                from_named = named v a at_v;
                to_named = named w b at_w;
                wire = record { cable = cable; different = different };
                in_part = subst (IsJoinedTo f origin) (sym (adapter_vertex f v s)) at_v.in_part;
              })) in
              or_third own one wire (ap (λ (o : Option (ℕ × ℕ)). leads_to o x) there ∙ same_itself x)
        ] refl)
        | apart h k c d at_h at_k joined ↦
            let graph = graph_of cells in
            let r = rooted graph told.is_graph c (switch_in_graph told at_h.there) in
            let of_e : root_at cells e ≡ Some r.root = root_known v h a c at_v at_h ∙ r.is_root in
            let of_x : root_at cells x ≡ Some r.root =
            root_known w k b d at_w at_k
            ∙ sym (same_root graph told.is_graph c d (switch_in_graph told at_h.there) (switch_in_graph told at_k.there) joined) ∙ r.is_root in
            or_second own one wire ((λ i. is_one_root (of_e i) (of_x i)) ∙ eq-eqb r.root r.root refl)
      ]

-- packets are delivered ---------------------------------------------------------------------------

-- an end port is its own vertex
end_vertex : (f : Fabric) (p : NodePort) → IsEndPort f p → vertex_of f p ≡ p
end_vertex f p is_end =
    elim (is_switch_at f p.node) as (λ t. is_switch_at f p.node ≡ t → vertex_of f p ≡ p) [
      | true ↦ λ k. switch_vertex f p k ∙ sym (same_port p (port_at p.node 0) refl (switch_number f p is_end k))
      | false ↦ λ k. adapter_vertex f p k
    ] refl

-- the facts list the end ports of the part
listed : (part : Part) (facts : Facts) (held : HeldPlan) (f : Fabric) → IsSeenIn part (cells_of facts) held f → (p : NodePort) (node : Node)
    → IsEndPortIn part f p node → Contains (end_ports (cells_of facts)) (name p node)
listed part facts held f seen p node here =
    let told = seen.covers.tells_end_ports p node here in
    let (other, at_other, number) = here.end_port in
    let is : other ≡ node = same_Some other node (sym at_other ∙ here.node_there) in
    let its : EndNumber node.ports p.port (is_switch node.kind) = subst (λ (n : Node). EndNumber n.ports p.port (is_switch n.kind)) is number in
    ((end_ports_law facts).0 (name p node)).1 (node.kind, node.ports, told.kind, its, ap is_some told.port_guid)

pub passing_audits_deliver : PassingAuditsDeliver
passing_audits_deliver facts held f origin is_end seen passes source target a b lid from into some own =
    let cells = cells_of facts in
    let part : Part = IsJoinedTo f origin in
    let closed : IsClosed part f = joined_closed f seen.is_fabric origin in
    let told : IsTold cells f origin = record { is_fabric = seen.is_fabric; covers = seen.covers; is_graph = graph_law facts; listed = usable_switch facts } in
    let e = name source a in
    let x = name target b in
    let l = owner_line held lid x (sym (seen.holds.lids target b lid into some) ∙ own) in
    let owner : l.line.port ≡ x = l.port_is in
    let joined : in_one_component cells e x ≡ true =
    of_meeting told source target a b from into (joined_meet told is_end source target from.in_part into.in_part) in
    let comes = passes.sound.arrive l.line l.is_held e
    (subst (λ (y : EndPort). Contains (end_ports cells) y) (sym owner) (listed part facts held f seen target b into))
    (listed part facts held f seen source a from) (subst (λ (y : EndPort). in_one_component cells e y ≡ true) (sym owner) joined) in
    let some_there : 1 ≤ l.line.lid = subst (λ (n : ℕ). 1 ≤ n) (sym l.lid_is) some in
    let (hops, found, its, delivered) =
    packets_end_as_told_in_parts facts held f origin is_end seen source a l.line.lid (Some (Taken l.line.port)) from some_there comes in
    let start : vertex_of f source ≡ source = end_vertex f source from.end_port in
    let within = goes_within part f seen.is_fabric closed l.line.lid hops (sent_from source) delivered.0 found
    (subst part (sym start) from.in_part, subst (IsEndPort f) (sym start) from.end_port) delivered.1 delivered.2 in
    let found_there : IsEndPortIn part f (vertex_of f found) its.node =
    record { node_there = ap (slice_get f.nodes) (vertex_node f found) ∙ its.node_there; end_port = within.1; in_part = within.0 } in
    let guid : its.node.guid ≡ b.guid = its.guid_is ∙ ap (λ (y : EndPort). y.node) owner in
    let index : found.node ≡ target.node =
    sym (vertex_node f found) ∙ seen.covers.guids_distinct (vertex_of f found) target its.node b found_there into guid in
    let is : found ≡ target = same_port found target index (its.port_is ∙ ap (λ (y : EndPort). y.port) owner) in
    record {
      hops = hops;
      delivered = subst (λ (n : ℕ). IsDelivered f n source hops target) l.lid_is (subst (IsDelivered f l.line.lid source hops) is delivered);
    }

pub missed_packets_miss : MissedPacketsMiss
missed_packets_miss facts held f origin is_end seen packet sent misses some source target from here source_is named a =
    let lid = packet.line.lid in
    let comes : IsBrought (cells_of facts) held lid (name source from) packet.end =
    subst (λ (e : EndPort). IsBrought (cells_of facts) held lid e packet.end) source_is (brought (cells_of facts) held packet sent) in
    let ends : EndsAs f lid source packet.end =
    packets_end_as_told_in_parts facts held f origin is_end seen source from lid packet.end here some comes in
    let apart : packet.end ≢ Some (Taken packet.line.port) =
    λ e. (let yes : arrives packet ≡ true = ap (is_at packet.line.port) e ∙ same_itself packet.line.port in cc) in
    not_there f source target lid packet.line.port packet.end named ends apart a.hops a.delivered
