-- In a fabric that facts describe and that holds the tables: by which port a packet leaves a node, and along which edge.
use Rattle.std.proofs.Common.{◌≡◌, ℕ, zero, suc, ◌≤◌, Bool, true, false, cond, ◌||◌, List, [], ◌∷◌, Option, None, Some, refl, sym, ap, ◌∙◌, subst, arith}
use Rattle.std.specs.Prelude.{slice_get, slice_index_or, map, nat_lt, ◌==◌}
use Rattle.std.specs.Option.{option_map_or}
use Rattle.std.proofs.lemmas.Option.{same_Some}
use Rattle.fabric_model.specs.declared.cable.NodePort.{NodePort}
use Rattle.fabric_model.specs.declared.course.Course.{Course}
use Rattle.fabric_model.specs.declared.course.Course.TheVariants.{Delivers, LeavesBy, Drops}
use Rattle.fabric_model.specs.Cables.{is_same_port}
use Rattle.smp_bytes.specs.NodeType.{is_switch}
use Rattle.fabric_model.specs.Fabric.{Node, Fabric, IsNodeAt, IsEndPort, is_switch_at, owns}
use Rattle.fabric_model.specs.FabricWalks.{vertex_of}
use Rattle.fabric_model.specs.Forwarding.{Standing, arrived_at, course, adapter_course, switch_course, Hop}
use Rattle.fabric_model.proofs.Cabled.{same_port-is, same_port-refl}
use Rattle.fabric_model.proofs.FabricWalks.{port_at, same_port, type_at, switch_vertex, adapter_vertex, switch_number}
use Rattle.port_graph.specs.declared.edge.Edge.{Edge}
use Rattle.fact_store.specs.View.{Facts, cells_of}
use Rattle.subnet_view.specs.Reading.{Cells, switches}
use Rattle.subnet_view.specs.Wires.{across}
use Rattle.subnet_view.specs.FabricAgreement.{Part}
use Rattle.packet_walks.specs.Held.{HeldPlan}
use Rattle.packet_walks.specs.Far.TheVariants.{Nothing, Switch}
use Rattle.packet_walks.specs.Edges.{edge_by, edge_to, edges_of}
use Rattle.packet_walks.specs.Fabrics.{IsSeenIn}
use Rattle.packet_walks.specs.Switches.{index_in, far_at, far_to, far_of, row_of}
use Rattle.packet_walks.specs.Tables.{counted, entry_for}
use Rattle.packet_walks.proofs.FabricParts.{indexed, listed, wire_told, switch_end}
use Rattle.packet_walks.proofs.FarRows.{has, row_at}
use Rattle.packet_walks.proofs.Told.{IsClosed, switch_goes}
use Rattle.audit_channels.specs.Fabrics.{IsChannel}
use Rattle.fabric_model.proofs.NodeCourses.{switch_enters}

same_out : (p q : NodePort) → LeavesBy p ≡ LeavesBy q → p ≡ q
same_out p q e = cc

-- an entry sends a packet on by its port alone
record ByEntry (a b : Bool) (k n : ℕ) (p : NodePort) : Type 0 where
  there : a ≡ false
  onward : b ≡ false
  out : p ≡ port_at k n

by_entry : (a b : Bool) (k n : ℕ) (p : NodePort) → cond a Drops (cond b (Delivers (port_at k 0)) (LeavesBy (port_at k n))) ≡ LeavesBy p → ByEntry a b k n p
by_entry true b k n p e = absurd (cc)
by_entry false true k n p e = absurd (cc)
by_entry false false k n p e = record { there = refl; onward = refl; out = same_out p (port_at k n) (sym e) }

by_adapter : (own wired : Bool) (q p : NodePort) → cond own (Delivers q) (cond wired Drops (LeavesBy q)) ≡ LeavesBy p → (wired ≡ false) × (p ≡ q)
by_adapter true wired q p e = absurd (cc)
by_adapter false true q p e = absurd (cc)
by_adapter false false q p e = (refl, same_out p q (sym e))

edge_at : (guids : List ℕ) (F : ℕ → Option Edge) (i g : ℕ) → slice_get guids i ≡ Some g → slice_index_or (map F guids) i None ≡ F g
edge_at [] F i g e = cc
edge_at (x ∷ guids) F zero g e = ap F (same_Some x g e)
edge_at (x ∷ guids) F (suc i) g e = edge_at guids F i g e

-- a packet leaves by a port of the vertex at which it stands
pub record Leaves (f : Fabric) (st : Standing) (p : NodePort) : Type 0 where
  pub node : Node
  pub node_there : IsNodeAt f st.at.node node
  pub node_is : p.node ≡ st.at.node
  pub vertex_is : vertex_of f p ≡ vertex_of f st.at

module _ (f : Fabric) (lid : ℕ) where
  abbrev does : Standing → Node → Course
  does st n =
      cond (is_switch n.kind) (switch_course n.ports st.at.node (f.top st.at.node) lid (f.entry st.at.node lid)) (adapter_course (owns f st.at lid) st)

  -- an adapter port sends only its own packets on
  pub left_adapter : (st : Standing) (p : NodePort) (node : Node) → IsNodeAt f st.at.node node → is_switch node.kind ≡ false → course f lid st ≡ LeavesBy p
      → (st.by_wire ≡ false) × (p ≡ st.at)
  left_adapter st p node at kind e =
      let it : does st node ≡ LeavesBy p = sym (ap (λ o. option_map_or (does st) o Drops) at) ∙ e in
      let way = switch_course node.ports st.at.node (f.top st.at.node) lid (f.entry st.at.node lid) in
      by_adapter (owns f st.at lid) st.by_wire st.at p (sym (ap (λ t. cond t way (adapter_course (owns f st.at lid) st)) kind) ∙ it)

  abbrev pub number_at : ℕ → ℕ
  number_at k = counted lid (f.top k) (f.entry k lid)

  pub left_switch : (st : Standing) (p : NodePort) (node : Node) → IsNodeAt f st.at.node node → is_switch node.kind ≡ true → course f lid st ≡ LeavesBy p
      → p ≡ port_at st.at.node (number_at st.at.node)
  left_switch st p node at kind e =
      let n = number_at st.at.node in
      (by_entry (n == 255 || nat_lt node.ports n) (n == 0) st.at.node n p (sym (switch_enters f lid st node at kind) ∙ e)).out

  node_left : (st : Standing) (p : NodePort) → course f lid st ≡ LeavesBy p → (node : Node) × IsNodeAt f st.at.node node
  node_left st p e =
      elim (slice_get f.nodes st.at.node) as (λ o. slice_get f.nodes st.at.node ≡ o → option_map_or (does st) o Drops ≡ LeavesBy p
      → (node : Node) × IsNodeAt f st.at.node node) [
        | None ↦ λ at k. absurd (cc)
        | Some node ↦ λ at k. (node, at)
      ] refl e

  pub leaves : (st : Standing) (p : NodePort) → course f lid st ≡ LeavesBy p → Leaves f st p
  leaves st p e =
      let (node, at) = node_left st p e in
      elim (is_switch node.kind) as (λ t. is_switch node.kind ≡ t → Leaves f st p) [
        | true ↦ λ kind.
            let same : p.node ≡ st.at.node = ap (λ (q : NodePort). q.node) (left_switch st p node at kind e) in
            let here : is_switch_at f st.at.node ≡ true = type_at f st.at.node node at ∙ kind in
            record {
              node = node;
              node_there = at;
              node_is = same;
              vertex_is = switch_vertex f p (ap (is_switch_at f) same ∙ here) ∙ ap (λ n. port_at n 0) same ∙ sym (switch_vertex f st.at here);
            }
        | false ↦ λ kind.
            let same = (left_adapter st p node at kind e).1 in
            record { node = node; node_there = at; node_is = ap (λ (q : NodePort). q.node) same; vertex_is = ap (vertex_of f) same }
      ] refl

-- an end port is its own vertex
pub own_vertex : (f : Fabric) (v : NodePort) → IsEndPort f v → vertex_of f v ≡ v
own_vertex f v is =
    elim (is_switch_at f v.node) as (λ t. is_switch_at f v.node ≡ t → vertex_of f v ≡ v) [
      | true ↦ λ e. switch_vertex f v e ∙ same_port (port_at v.node 0) v refl (sym (switch_number f v is e))
      | false ↦ λ e. adapter_vertex f v e
    ] refl

module _ (part : Part) (facts : Facts) (held : HeldPlan) (f : Fabric) (seen : IsSeenIn part (cells_of facts) held f) (closed : IsClosed part f) (lid : ℕ)
    (some : 1 ≤ lid) where
  abbrev cells : Cells
  cells = cells_of facts

  abbrev pub Within : Standing → Type 0
  Within st = part (vertex_of f st.at)

  -- the edge by which a packet takes a channel, and the wire of the channel
  pub record Edges (hop : Hop) (from : Node) (index : ℕ) (to : Node) : Type 0 where
    pub at : slice_get (switches cells) index ≡ Some from.guid
    pub told : across cells from.guid hop.out.port ≡ Some (to.guid, hop.into.port)
    pub far : ℕ
    pub far_is : index_in (switches cells) to.guid ≡ Some far
    pub edge : slice_index_or (edges_of cells held lid) index None ≡ Some (record { port = hop.out.port; to = far })

  -- a switch of the part has an index
  pub record Known (to : Node) : Type 0 where
    pub index : ℕ
    pub index_is : index_in (switches cells) to.guid ≡ Some index

  pub known : (q : NodePort) (to : Node) → IsNodeAt f q.node to → is_switch to.kind ≡ true → part (vertex_of f q) → Known to
  known q to at kind within =
      let vertex = switch_vertex f q (type_at f q.node to at ∙ kind) in
      elim (index_in (switches cells) to.guid) as (λ o. index_in (switches cells) to.guid ≡ o → Known to) [
        | Some j ↦ λ e. record { index = j; index_is = e }
        | None ↦ λ e. absurd (listed part facts held f seen q.node to at kind (subst part vertex within) e)
      ] refl

  pub edges : (st : Standing) (hop : Hop) (channel : ℕ) (c : IsChannel cells f hop channel) → Within st → course f lid st ≡ LeavesBy hop.out
      → Edges hop c.from c.index c.to
  edges st hop channel c within on =
      let its = leaves f lid st hop.out on in
      let node = c.from in
      let g = node.guid in
      let k = st.at.node in
      let n = entry_for held lid g in
      let at : IsNodeAt f k node = sym (ap (slice_get f.nodes) its.node_is) ∙ c.from_there in
      let switch : is_switch_at f k ≡ true = type_at f k node at ∙ c.from_switch in
      let here : part (port_at k 0) = subst part (switch_vertex f st.at switch) within in
      let goes = switch_goes part facts held f seen closed lid some st node at c.from_switch here in
      let by = by_entry (n == 255 || nat_lt node.ports n) (n == 0) k n hop.out (sym goes ∙ on) in
      let few = (seen.is_fabric.counts k node at).1 in
      let small : n ≤ node.ports = has n node.ports by.there in
      let port : hop.out.port ≡ n = ap (λ (q : NodePort). q.port) by.out in
      let leaving : part (vertex_of f hop.out) = subst part (sym its.vertex_is) within in
      let to = known hop.into c.to c.to_there c.to_switch (closed hop.out hop.into leaving c.wire) in
      let told : across cells g hop.out.port ≡ Some (c.to.guid, hop.into.port) =
      wire_told part facts held f seen hop.out hop.into node c.to c.wire.cable c.wire.different c.from_there c.to_there leaving in
      let far : far_of cells g n ≡ Switch to.index =
      ap (far_to (switches cells)) (ap (across cells g) (sym port) ∙ told) ∙ ap (far_at (c.to.guid, hop.into.port)) to.index_is in
      let within_row : slice_index_or (row_of cells g) n Nothing ≡ Switch to.index = row_at cells g n (omega arith) ∙ far in
      let nth = (indexed part facts held f seen (port_at k 0) node c.index (switch_end part facts held f seen k node at c.from_switch here) c.index_is).1 in
      record {
        at = nth;
        told = told;
        far = to.index;
        far_is = to.index_is;
        edge =
            edge_at (switches cells) (λ h. edge_by (row_of cells h) (entry_for held lid h)) c.index g nth
            ∙ ap (λ t. cond t None (edge_to n (slice_index_or (row_of cells g) n Nothing))) by.onward
            ∙ ap (edge_to n) within_row
            ∙ ap (λ m. Some (record { port = m; to = to.index })) (sym port);
      }

  -- over a wire it stays within the part
  pub stays : (st : Standing) (hop : Hop) → Within st → course f lid st ≡ LeavesBy hop.out → f.across hop.out ≡ Some hop.into → Within (arrived_at hop.into)
  stays st hop within on cable =
      let its = leaves f lid st hop.out on in
      let leaving : part (vertex_of f hop.out) = subst part (sym its.vertex_is) within in
      elim (is_same_port hop.out hop.into) as (λ t. is_same_port hop.out hop.into ≡ t → part (vertex_of f hop.into)) [
        | true ↦ λ e. subst (λ (q : NodePort). part (vertex_of f q)) (same_port-is hop.out hop.into e) leaving
        | false ↦ λ e. closed hop.out hop.into leaving
            (record {
              cable = cable;
              different = λ same.
                  let is : is_same_port hop.out hop.out ≡ true = same_port-refl hop.out in
                  let moved : is_same_port hop.out hop.out ≡ is_same_port hop.out hop.into = ap (is_same_port hop.out) same in
                  cc;
            })
      ] refl
