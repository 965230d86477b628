-- In a fabric that facts describe exactly and that holds the tables, packets end as these say.
use Rattle.std.proofs.Common.{◌≡◌, ◌≢◌, ℕ, zero, suc, ◌≤◌, Bool, true, false, cond, ◌||◌, List, [], ◌∷◌, Option, None, Some, refl, sym, ap, ◌∙◌, subst, arith, inl, inr, ◌⊎◌}
use Rattle.std.specs.Prelude.{IsTrue, slice_get, slice_index_or, map, nat_lt, ◌==◌}
use Rattle.std.proofs.lemmas.Bool.{eqb-true, le-ltb}
use Rattle.std.proofs.lemmas.Option.{same_Some}
use Rattle.fabric_model.specs.declared.cable.NodePort.{NodePort}
use Rattle.fabric_model.specs.declared.course.Course.TheVariants.{Delivers, LeavesBy, Drops}
use Rattle.fabric_model.specs.Cables.{is_same_port}
use Rattle.smp_bytes.specs.NodeType.{is_switch}
use Rattle.fabric_model.specs.Fabric.{Node, Fabric, IsFabric, IsNodeAt, is_switch_at, owns, IsPortNamed}
use Rattle.fabric_model.specs.FabricWalks.{IsWire, AreNeighbors, Walk, IsJoinedTo, vertex_of}
use Rattle.fabric_model.specs.Forwarding.{Standing, sent_from, arrived_at, course, entry_course, Hop, Goes, IsLost}
use Rattle.fabric_model.proofs.Cabled.{same_port-is, same_port-refl}
use Rattle.fabric_model.proofs.FabricWalks.{port_at, same_port, EndNumber, type_at, walk_further, vertex_node, switch_vertex, adapter_vertex, adapter_start, switch_number}
use Rattle.fabric_model.proofs.Forwarded.{packets_end_once}
use Rattle.fabric_model.proofs.NodeCourses.{adapter_drops, adapter_sends, adapter_takes, switch_enters}
use Rattle.fact_store.specs.View.{Facts, cells_of}
use Rattle.subnet_view.specs.declared.end_port.EndPort.{EndPort}
use Rattle.subnet_view.specs.Reading.{Cells, switches}
use Rattle.subnet_view.specs.Wires.{across}
use Rattle.subnet_view.specs.FabricAgreement.{Part, WholeFabric, IsEndPortIn}
use Rattle.held_tables.specs.Held.{HeldPlan}
use Rattle.packet_walks.specs.declared.cause.Cause.{Cause}
use Rattle.packet_walks.specs.declared.cause.Cause.TheVariants.{NoLink, Foreign}
use Rattle.packet_walks.specs.declared.packet_end.End.{End}
use Rattle.packet_walks.specs.declared.packet_end.End.TheVariants.{Taken, Lost}
use Rattle.held_tables.specs.declared.far_end.Far.{Far}
use Rattle.held_tables.specs.declared.far_end.Far.TheVariants.{Nothing}
use Rattle.packet_walks.specs.declared.next_hop.NextHop.{NextHop}
use Rattle.packet_walks.specs.declared.next_hop.NextHop.TheVariants.{To, Ends}
use Rattle.packet_walks.specs.Fabrics.{IsSeenIn, EndsAs, PacketsEndAsTold, PacketsEndAsToldInParts}
use Rattle.held_tables.specs.Switches.{index_in, far_at, far_to, far_of, row_of, sender_of}
use Rattle.packet_walks.specs.HopsByTables.{IsBrought, at_port, over, cause_of, by_entry, next_hops_of, sent, first_hop}
use Rattle.held_tables.specs.Tables.{owners_of, is_owner, entry_for}
use Rattle.packet_walks.specs.EndsBySwitch.{onward, after, IsEndOf}
use Rattle.packet_walks.proofs.FabricParts.{InFabric, as_part, seen_whole, vertex_part, switch_end, listed, indexed, wire_told, told_wire}
use Rattle.packet_walks.proofs.FarRows.{has, lacks, no_far, no_port, row_at}

same_out : (p q : NodePort) → LeavesBy p ≡ LeavesBy q → p ≡ q
same_out p q e = cc

module _ (f : Fabric) (lid : ℕ) where
  -- a packet that is delivered at a port, and one that never is
  record Delivered (st : Standing) (e : EndPort) : Type 0 where
    hops : List Hop
    end : Standing
    target : NodePort
    goes : Goes f lid st hops end
    delivers : course f lid end ≡ Delivers target
    named : IsPortNamed f e.node e.port target

  abbrev Never : Standing → Type 0
  Never st = (hops : List Hop) (end : Standing) (target : NodePort) → Goes f lid st hops end → course f lid end ≡ Delivers target → ⊥

  never_dropped : (st : Standing) → course f lid st ≡ Drops → Never st
  never_dropped st drops [] end target g d = let same : course f lid st ≡ course f lid end = ap (course f lid) g in cc
  never_dropped st drops (h ∷ hops) end target g d = let leaves = g.0 in cc

  never_stuck : (st : Standing) (p : NodePort) → course f lid st ≡ LeavesBy p → f.across p ≡ None → Never st
  never_stuck st p leaves none [] end target g d = let same : course f lid st ≡ course f lid end = ap (course f lid) g in cc
  never_stuck st p leaves none (h ∷ hops) end target g d =
      let out : p ≡ h.out = same_out p h.out (sym leaves ∙ g.0) in
      let wire : f.across p ≡ Some h.into = ap f.across out ∙ g.1 in
      cc

  pub into_is : (st : Standing) (p q : NodePort) (h : Hop) → course f lid st ≡ LeavesBy p → f.across p ≡ Some q → course f lid st ≡ LeavesBy h.out
      → f.across h.out ≡ Some h.into → h.into ≡ q
  into_is st p q h leaves wire its there =
      let out : p ≡ h.out = same_out p h.out (sym leaves ∙ its) in
      same_Some h.into q (sym there ∙ sym (ap f.across out) ∙ wire)

  never_on : (st : Standing) (p q : NodePort) → course f lid st ≡ LeavesBy p → f.across p ≡ Some q → Never (arrived_at q) → Never st
  never_on st p q leaves wire never [] end target g d = let same : course f lid st ≡ course f lid end = ap (course f lid) g in cc
  never_on st p q leaves wire never (h ∷ hops) end target g d =
      let into = into_is st p q h leaves wire g.0 g.1 in
      never hops end target (subst (λ (x : NodePort). Goes f lid (arrived_at x) hops end) into g.2) d

  never_loops : (p : NodePort) → course f lid (arrived_at p) ≡ LeavesBy p → f.across p ≡ Some p → Never (arrived_at p)
  never_loops p leaves wire [] end target g d = let same : course f lid (arrived_at p) ≡ course f lid end = ap (course f lid) g in cc
  never_loops p leaves wire (h ∷ hops) end target g d =
      let into = into_is (arrived_at p) p p h leaves wire g.0 g.1 in
      never_loops p leaves wire hops end target (subst (λ (x : NodePort). Goes f lid (arrived_at x) hops end) into g.2) d

  delivered_on : (st : Standing) (p q : NodePort) (e : EndPort) → course f lid st ≡ LeavesBy p → f.across p ≡ Some q → Delivered (arrived_at q) e
      → Delivered st e
  delivered_on st p q e leaves wire d = record {
    hops = record { out = p; into = q } ∷ d.hops;
    end = d.end;
    target = d.target;
    goes = (leaves, wire, d.goes);
    delivers = d.delivers;
    named = d.named;
  }

-- a wire leads on within the part
abbrev pub IsClosed : Part → Fabric → Type 0
IsClosed part f = (p q : NodePort) → part (vertex_of f p) → IsWire f p q → part (vertex_of f q)

module _ (part : Part) (facts : Facts) (held : HeldPlan) (f : Fabric) (seen : IsSeenIn part (cells_of facts) held f) (closed : IsClosed part f) (lid : ℕ)
    (some : 1 ≤ lid) where
  abbrev cells : Cells
  cells = cells_of facts

  abbrev owners : List EndPort
  owners = owners_of held lid

  -- a packet stands at the switch of an index
  record At (i : ℕ) (st : Standing) : Type 0 where
    node : Node
    at : IsNodeAt f st.at.node node
    kind : is_switch node.kind ≡ true
    index : slice_get (switches cells) i ≡ Some node.guid
    within : part (port_at st.at.node 0)

  -- it goes over a wire to the switch of an index
  record Crosses (st : Standing) (j : ℕ) : Type 0 where
    hop : Hop
    leaves : course f lid st ≡ LeavesBy hop.out
    wire : f.across hop.out ≡ Some hop.into
    there : At j (arrived_at hop.into)

  abbrev LeadsTo : Standing → End → Type 0
  LeadsTo st (Taken e) = Delivered f lid st e
  LeadsTo st (Lost g cause) = Never f lid st

  -- what a step says becomes of the packet
  abbrev Leads : Standing → NextHop → Type 0
  Leads st (To j) = Crosses st j
  Leads st (Ends x) = LeadsTo st x

  -- at an adapter port
  at_adapter : (st : Standing) (p q : NodePort) (node : Node) → course f lid st ≡ LeavesBy p → f.across p ≡ Some q → InFabric part facts held f seen q node
      → is_switch node.kind ≡ false → (b : Bool) → is_owner owners (record { node = node.guid; port = q.port }) ≡ b
      → LeadsTo st (cond b (Taken (record { node = node.guid; port = q.port })) (Lost node.guid Foreign))
  at_adapter st p q node leaves wire here kind true e =
      let own : owns f q lid ≡ true = seen.holds.lids q node lid here some ∙ e in
      delivered_on f lid st p q (record { node = node.guid; port = q.port }) leaves wire
      (record {
        hops = [];
        end = arrived_at q;
        target = q;
        goes = refl;
        delivers = adapter_takes f lid (arrived_at q) node here.node_there kind own;
        named = record { node = node; node_there = here.node_there; guid_is = refl; port_is = refl };
      })
  at_adapter st p q node leaves wire here kind false e =
      let other : owns f q lid ≡ false = seen.holds.lids q node lid here some ∙ e in
      never_on f lid st p q leaves wire (never_dropped f lid (arrived_at q) (adapter_drops f lid q node here.node_there kind other))

  -- over a wire to another port
  crossing : (g : ℕ) (cause : Cause) (st : Standing) (p q : NodePort) (node : Node) → course f lid st ≡ LeavesBy p → f.across p ≡ Some q
      → IsNodeAt f q.node node → part (vertex_of f q)
      → (found : Option ℕ) → index_in (switches cells) node.guid ≡ found → Leads st (over owners g cause (far_at (node.guid, q.port) found))
  crossing g cause st p q node leaves wire at within (Some j) e =
      let back : f.across q ≡ Some p = seen.is_fabric.both_ways p q wire in
      let here = indexed part facts held f seen (vertex_of f q) node j (vertex_part part facts held f seen q p node back at within) e in
      let vertex : vertex_of f q ≡ port_at q.node 0 = switch_vertex f q (type_at f q.node node at ∙ here.0) in
      record {
        hop = record { out = p; into = q };
        leaves = leaves;
        wire = wire;
        there = record { node = node; at = at; kind = here.0; index = here.1; within = subst part vertex within };
      }
  crossing g cause st p q node leaves wire at within None e =
      let back : f.across q ≡ Some p = seen.is_fabric.both_ways p q wire in
      let (other, at_other, low, high) = seen.is_fabric.cabled q p back in
      let same : other ≡ node = same_Some other node (sym at_other ∙ at) in
      elim (is_switch node.kind) as (λ t. is_switch node.kind ≡ t → LeadsTo st (at_port owners (record { node = node.guid; port = q.port }))) [
        | true ↦ λ k.
            let vertex : vertex_of f q ≡ port_at q.node 0 = switch_vertex f q (type_at f q.node node at ∙ k) in
            absurd (listed part facts held f seen q.node node at k (subst part vertex within) e)
        | false ↦ λ k.
            let vertex : vertex_of f q ≡ q = adapter_vertex f q (type_at f q.node node at ∙ k) in
            let number : EndNumber node.ports q.port (is_switch node.kind) =
            subst (EndNumber node.ports q.port) (sym k) (low, subst (λ (n : Node). q.port ≤ n.ports) same high) in
            at_adapter st p q node leaves wire (as_part part facts held f seen q node at (node, at, number) (subst part vertex within)) k
            (is_owner owners (record { node = node.guid; port = q.port })) refl
      ] refl

  -- by a port of a node whose vertex is v
  module _ (cause : Cause) (st : Standing) (p v : NodePort) (node : Node) (here : InFabric part facts held f seen v node) (at_node : v.node ≡ p.node)
      (within : part (vertex_of f p))
      (leaves : course f lid st ≡ LeavesBy p)
      (again : (course f lid (arrived_at p) ≡ LeavesBy p) ⊎ (course f lid (arrived_at p) ≡ Drops)) where
    abbrev g : ℕ
    g = node.guid

    -- without a wire the packet is lost
    lost_there : Never f lid st → across cells g p.port ≡ None → Leads st (over owners g cause (far_of cells g p.port))
    lost_there never e = subst (λ (far : Far). Leads st (over owners g cause far)) (sym (no_far cells g p.port e)) never

    no_cable : f.across p ≡ None → Leads st (over owners g cause (far_of cells g p.port))
    no_cable none =
        elim (across cells g p.port) as (λ o. across cells g p.port ≡ o → Leads st (over owners g cause (far_of cells g p.port))) [
          | None ↦ λ e. lost_there (never_stuck f lid st p leaves none) e
          | Some x ↦ λ e. let w = told_wire part facts held f seen p v node x.0 x.1 here at_node within e in let wire = w.wire in absurd (cc)
        ] refl

    looped : (q : NodePort) → f.across p ≡ Some q → p ≡ q → Leads st (over owners g cause (far_of cells g p.port))
    looped q wire same =
        let loop : f.across p ≡ Some p = wire ∙ ap (λ x. Some x) (sym same) in
        let never : Never f lid (arrived_at p) =
        elim again [ inl on ↦ never_loops f lid p on loop | inr drops ↦ never_dropped f lid (arrived_at p) drops ] in
        elim (across cells g p.port) as (λ o. across cells g p.port ≡ o → Leads st (over owners g cause (far_of cells g p.port))) [
          | None ↦ λ e. lost_there (never_on f lid st p p leaves loop never) e
          | Some x ↦ λ e. let w = told_wire part facts held f seen p v node x.0 x.1 here at_node within e in
              absurd (w.apart (same_Some p w.to (sym loop ∙ w.wire)))
        ] refl

    wired : (q : NodePort) → f.across p ≡ Some q → p ≢ q → Leads st (over owners g cause (far_of cells g p.port))
    wired q wire apart =
        let (far, at_far, low, high) = seen.is_fabric.cabled q p (seen.is_fabric.both_ways p q wire) in
        let at : IsNodeAt f p.node node = sym (ap (slice_get f.nodes) at_node) ∙ here.node_there in
        let told : across cells g p.port ≡ Some (far.guid, q.port) = wire_told part facts held f seen p q node far wire apart at at_far within in
        subst (λ (o : Option (ℕ × ℕ)). Leads st (over owners g cause (far_to (switches cells) o))) (sym told)
        (crossing g cause st p q far leaves wire at_far (closed p q within (record { cable = wire; different = apart })) (index_in (switches cells) far.guid)
        refl)

    leaving : Leads st (over owners g cause (far_of cells g p.port))
    leaving =
        elim (f.across p) as (λ o. f.across p ≡ o → Leads st (over owners g cause (far_of cells g p.port))) [
          | None ↦ no_cable
          | Some q ↦ λ wire. (elim (is_same_port p q) as (λ t. is_same_port p q ≡ t → Leads st (over owners g cause (far_of cells g p.port))) [
            | true ↦ λ e. looped q wire (same_port-is p q e)
            | false ↦ λ e. wired q wire (λ same. let is : is_same_port p p ≡ true = same_port-refl p in let moved : is_same_port p p ≡ is_same_port p q =
                ap (is_same_port p) same in cc)
          ] refl)
        ] refl

  abbrev entry : Node → ℕ
  entry node = entry_for held lid node.guid

  abbrev why : Node → Cause
  why node = cause_of cells held lid node.guid

  -- a switch goes by the entry that counts
  pub switch_goes : (st : Standing) (node : Node) → IsNodeAt f st.at.node node → is_switch node.kind ≡ true → part (port_at st.at.node 0)
      → course f lid st ≡ entry_course node.ports st.at.node (entry node)
  switch_goes st node at kind within =
      let k = st.at.node in
      let here = switch_end part facts held f seen k node at kind within in
      switch_enters f lid st node at kind
      ∙ ap (entry_course node.ports k) (seen.holds.entries (port_at k 0) node lid here kind)

  -- a switch does as its step says
  switch_leads : (i : ℕ) (st : Standing) (a : At i st) → Leads st (by_entry owners a.node.guid (why a.node) (row_of cells a.node.guid) (entry a.node))
  switch_leads i st a =
      let node = a.node in
      let k = st.at.node in
      let n = entry node in
      let goes = switch_goes st node a.at a.kind a.within in
      let few = (seen.is_fabric.counts k node a.at).1 in
      let here = switch_end part facts held f seen k node a.at a.kind a.within in
      let vertex : (p : ℕ) → vertex_of f (port_at k p) ≡ port_at k 0 = λ p. switch_vertex f (port_at k p) (type_at f k node a.at ∙ a.kind) in
      elim (n == 0) as (λ t. (n == 0) ≡ t
      → Leads st (cond t (Ends (Taken (record { node = node.guid; port = 0 })))
      (over owners node.guid (why node) (slice_index_or (row_of cells node.guid) n Nothing)))) [
        | true ↦ λ z.
            let zero_is : n ≡ 0 = eqb-true n 0 z in
            let takes : course f lid st ≡ Delivers (port_at k 0) =
            goes ∙ ap (entry_course node.ports k) zero_is ∙ ap (λ t. cond t Drops (Delivers (port_at k 0))) (le-ltb node.ports 0 (omega arith)) in
            record {
              hops = [];
              end = st;
              target = port_at k 0;
              goes = refl;
              delivers = takes;
              named = record { node = node; node_there = a.at; guid_is = refl; port_is = refl };
            }
        | false ↦ λ z. (elim (n == 255 || nat_lt node.ports n) as (λ t. (n == 255 || nat_lt node.ports n) ≡ t
            → Leads st (over owners node.guid (why node) (slice_index_or (row_of cells node.guid) n Nothing))) [
              | true ↦ λ e.
                  let drops : course f lid st ≡ Drops = goes ∙ ap (λ t. cond t Drops (cond (n == 0) (Delivers (port_at k 0)) (LeavesBy (port_at k n)))) e in
                  subst (λ (far : Far). Leads st (over owners node.guid (why node) far))
                  (sym (no_port part facts held f seen k node n a.at a.kind a.within (lacks n node.ports e)))
                  (never_dropped f lid st drops)
              | false ↦ λ e.
                  let within = has n node.ports e in
                  let leaves : (s : Standing) → s.at.node ≡ k → IsNodeAt f s.at.node node → course f lid s ≡ LeavesBy (port_at k n) =
                  λ s same at. switch_goes s node at a.kind (subst (λ (m : ℕ). part (port_at m 0)) (sym same) a.within)
                  ∙ ap (λ m. entry_course node.ports m n) same
                  ∙ ap (λ t. cond t Drops (cond (n == 0) (Delivers (port_at k 0)) (LeavesBy (port_at k n)))) e
                  ∙ ap (λ t. cond t (Delivers (port_at k 0)) (LeavesBy (port_at k n))) z in
                  subst (λ (far : Far). Leads st (over owners node.guid (why node) far)) (sym (row_at cells node.guid n (omega arith)))
                  (leaving (why node) st (port_at k n) (port_at k 0) node here refl (subst part (sym (vertex n)) a.within) (leaves st refl a.at)
                  (inl (leaves (arrived_at (port_at k n)) refl a.at)))
            ] refl)
      ] refl

  -- step by step ------------------------------------------------------------------------

  abbrev steps : List NextHop
  steps = next_hops_of cells held lid

  step_at : (guids : List ℕ) (F : ℕ → NextHop) (i h : ℕ) (d : NextHop) → slice_get guids i ≡ Some h → slice_index_or (map F guids) i d ≡ F h
  step_at [] F i h d e = cc
  step_at (x ∷ guids) F zero h d e = ap F (same_Some x h e)
  step_at (x ∷ guids) F (suc i) h d e = step_at guids F i h d e

  onward_leads : (i : ℕ) (st : Standing) → At i st → Leads st (onward steps (To i))
  onward_leads i st a =
      let F : ℕ → NextHop = λ h. by_entry owners h (cause_of cells held lid h) (row_of cells h) (entry_for held lid h) in
      subst (Leads st) (sym (step_at (switches cells) F i a.node.guid (To i) a.index)) (switch_leads i st a)

  after_end : (n : ℕ) (x : End) → after n steps (Ends x) ≡ Ends x
  after_end zero x = refl
  after_end (suc n) x = after_end n x

  same_end : (x y : End) → Ends x ≡ Ends y → x ≡ y
  same_end x y e = cc

  on_taken : (st : Standing) (j : ℕ) (e : EndPort) (c : Crosses st j) → Delivered f lid (arrived_at c.hop.into) e → Delivered f lid st e
  on_taken st j e c d = delivered_on f lid st c.hop.out c.hop.into e c.leaves c.wire d

  on_never : (st : Standing) (j : ℕ) (c : Crosses st j) → Never f lid (arrived_at c.hop.into) → Never f lid st
  on_never st j c never = never_on f lid st c.hop.out c.hop.into c.leaves c.wire never

  carried : (st : Standing) (j : ℕ) (x : End) (c : Crosses st j) → LeadsTo (arrived_at c.hop.into) x → LeadsTo st x
  carried st j (Taken e) c d = on_taken st j e c d
  carried st j (Lost g cause) c never = on_never st j c never

  -- a walk that ends
  ends : (n i : ℕ) (st : Standing) (x : End) → At i st → after n steps (To i) ≡ Ends x → LeadsTo st x
  ends zero i st x a e = absurd (cc)
  ends (suc n) i st x a e =
      elim (onward steps (To i)) as (λ r. Leads st r → after n steps r ≡ Ends x → LeadsTo st x) [
        | To j ↦ λ c k. carried st j x c (ends n j (arrived_at c.hop.into) x c.there k)
        | Ends y ↦ λ l k. subst (LeadsTo st) (same_end y x (sym (after_end n y) ∙ k)) l
      ] (onward_leads i st a) e

  -- a walk that goes on for ever
  abbrev GoesOn : NextHop → Type 0
  GoesOn s = (n : ℕ) → (i : ℕ) × (after n steps s ≡ To i)

  not_leaving : (st : Standing) (s : NextHop) → Leads st s → GoesOn s → (p : NodePort) × (course f lid st ≡ LeavesBy p)
  not_leaving st (To j) c on = (c.hop.out, c.leaves)
  not_leaving st (Ends x) l on = let first = (on 0).1 in absurd (cc)

  rounds : (hops : List Hop) (i : ℕ) (st end : Standing) (target : NodePort) → At i st → GoesOn (onward steps (To i)) → Goes f lid st hops end
      → course f lid end ≡ Delivers target → ⊥
  rounds [] i st end target a on g d =
      let leaves = (not_leaving st (onward steps (To i)) (onward_leads i st a) on).1 in
      let same : course f lid st ≡ course f lid end = ap (course f lid) g in
      cc
  rounds (h ∷ hops) i st end target a on g d =
      elim (onward steps (To i)) as (λ r. Leads st r → GoesOn r → ⊥) [
        | To j ↦ λ c k.
            let into = into_is f lid st c.hop.out c.hop.into h c.leaves c.wire g.0 g.1 in
            rounds hops j (arrived_at c.hop.into) end target c.there (λ n. k (suc n))
            (subst (λ (x : NodePort). Goes f lid (arrived_at x) hops end) into g.2) d
        | Ends y ↦ λ l k. let first = (k 0).1 in absurd (cc)
      ] (onward_leads i st a) on

  never_rounds : (i : ℕ) (st : Standing) → At i st → GoesOn (To i) → Never f lid st
  never_rounds i st a on hops end target g d = rounds hops i st end target a (λ n. on (suc n)) g d

  -- from the port that sends it ------------------------------------------------------------

  abbrev Begins : Standing → NextHop → Type 0
  Begins st (To i) = At i st ⊎ Crosses st i
  Begins st (Ends x) = LeadsTo st x

  as_begun : (st : Standing) (s : NextHop) → Leads st s → Begins st s
  as_begun st (To i) c = inr c
  as_begun st (Ends x) l = l

  module _ (source : NodePort) (node : Node) (here : InFabric part facts held f seen source node) where
    at : IsNodeAt f source.node node
    at = here.node_there

    -- a switch sends from its port 0
    from_switch : is_switch node.kind ≡ true → part (port_at source.node 0)
    from_switch kind =
        let zero_is : source.port ≡ 0 = switch_number f source here.end_port (type_at f source.node node at ∙ kind) in
        subst part (same_port source (port_at source.node 0) refl zero_is) here.in_part

    abbrev this : EndPort
    this = record { node = node.guid; port = source.port }

    abbrev st : Standing
    st = sent_from source

    sends : is_switch node.kind ≡ false → (b : Bool) → is_owner owners this ≡ b
        → Begins st (cond b (Ends (Taken this)) (over owners node.guid NoLink (far_of cells node.guid source.port)))
    sends kind true e =
        let own : owns f source lid ≡ true = seen.holds.lids source node lid here some ∙ e in
        record {
          hops = [];
          end = st;
          target = source;
          goes = refl;
          delivers = adapter_takes f lid st node at kind own;
          named = record { node = node; node_there = at; guid_is = refl; port_is = refl };
        }
    sends kind false e =
        let other : owns f source lid ≡ false = seen.holds.lids source node lid here some ∙ e in
        let leaves : course f lid st ≡ LeavesBy source = adapter_sends f lid source node at kind other in
        as_begun st (over owners node.guid NoLink (far_of cells node.guid source.port))
        (leaving NoLink st source source node here refl (subst part (sym (adapter_vertex f source (type_at f source.node node at ∙ kind))) here.in_part) leaves
        (inr (adapter_drops f lid source node at kind other)))

    begins : Begins st (first_hop owners (sender_of cells this))
    begins =
        elim (index_in (switches cells) node.guid) as
        (λ o. index_in (switches cells) node.guid ≡ o → Begins st (sent owners this o (far_of cells node.guid source.port))) [
          | Some i ↦ λ e. let it = indexed part facts held f seen source node i here e in
              inl (record { node = node; at = at; kind = it.0; index = it.1; within = from_switch it.0 })
          | None ↦ λ e. (elim (is_switch node.kind) as
              (λ t. is_switch node.kind ≡ t → Begins st (sent owners this None (far_of cells node.guid source.port))) [
                | true ↦ λ k. absurd (listed part facts held f seen source.node node at k (from_switch k) e)
                | false ↦ λ k. sends k (is_owner owners this) refl
              ] refl)
        ] refl

    lost : Never f lid st → (hops : List Hop) × (at_node : ℕ) × IsLost f lid source hops at_node
    lost never =
        elim (packets_end_once f lid source).0 [
          | inl d ↦ let (hops, target, delivered) = d in absurd (never hops delivered.0 target delivered.1 delivered.2)
          | inr l ↦ l
        ]

    ended : (x : End) → LeadsTo st x → EndsAs f lid source (Some x)
    ended (Taken e) d = (d.hops, d.target, d.named, (d.end, d.goes, d.delivers))
    ended (Lost g cause) never = lost never

    told : (s : NextHop) (end : Option End) → Begins st s → IsEndOf steps s end → EndsAs f lid source end
    told (To i) (Some x) (inl a) w = ended x (ends w.0 i st x a w.1)
    told (To i) (Some x) (inr c) w = ended x (carried st i x c (ends w.0 i (arrived_at c.hop.into) x c.there w.1))
    told (To i) None (inl a) on = lost (never_rounds i st a on)
    told (To i) None (inr c) on = lost (on_never st i c (never_rounds i (arrived_at c.hop.into) c.there on))
    told (Ends x) (Some y) l w = ended y (subst (LeadsTo st) (same_end x y (sym (after_end w.0 x) ∙ w.1)) l)
    told (Ends x) None l on = let first = (on 0).1 in absurd (cc)

pub packets_end_in : (part : Part) (facts : Facts) (held : HeldPlan) (f : Fabric) → IsSeenIn part (cells_of facts) held f → IsClosed part f
    → (source : NodePort) (node : Node) (lid : ℕ) (end : Option End) → IsEndPortIn part f source node → 1 ≤ lid
    → IsBrought (cells_of facts) held lid (record { node = node.guid; port = source.port }) end → EndsAs f lid source end
packets_end_in part facts held f seen closed source node lid end here some brought =
    told part facts held f seen closed lid some source node here
    (first_hop (owners_of held lid) (sender_of (cells_of facts) (record { node = node.guid; port = source.port }))) end
    (begins part facts held f seen closed lid some source node here) brought

pub packets_end_as_told : PacketsEndAsTold
packets_end_as_told facts held f seen source node lid end at is_end some brought =
    packets_end_in WholeFabric facts held f (seen_whole seen) (λ p q within wire. tt) source node lid end
    (record { node_there = at; end_port = is_end; in_part = tt }) some brought

-- what is joined to an end port --------------------------------------------------------------

module _ (f : Fabric) (fab : IsFabric f) (origin : NodePort) where
  -- the last wire of a walk
  record Last (a b : NodePort) (n : ℕ) : Type 0 where
    from : NodePort
    walk : Walk f a from n
    wire : AreNeighbors f from b

  last : (n : ℕ) (a b : NodePort) → Walk f a b (suc n) → Last a b n
  last zero a b (d, first, between, w) = record { from = a; walk = refl; wire = subst (AreNeighbors f a) w first }
  last (suc n) a b (d, first, between, w) =
      let rest = last n d b w in
      let switch : (n ≡ 0) ⊎ IsTrue (is_switch_at f d.node) = elim between [ inl e ↦ absurd (omega arith) | inr k ↦ inr k ] in
      record { from = rest.from; walk = (d, first, switch, rest.walk); wire = rest.wire }

  -- an adapter port has one wire, by which it was joined
  back : (p q : NodePort) → is_switch_at f p.node ≡ false → IsWire f p q → (n : ℕ) → Walk f origin p n → IsJoinedTo f origin (vertex_of f q)
  back p q adapter wire zero w =
      let next : AreNeighbors f p (vertex_of f q) = record { out = p; into = q; wire = wire; of_one = adapter_vertex f p adapter; of_other = refl } in
      (1, walk_further f 0 origin p (vertex_of f q) w (inl refl) next)
  back p q adapter wire (suc n) w =
      let l = last n origin p w in
      let into : l.wire.into ≡ p = adapter_start f l.wire.into p adapter l.wire.of_other in
      let leads : f.across p ≡ Some l.wire.out = ap f.across (sym into) ∙ fab.both_ways l.wire.out l.wire.into l.wire.wire.cable in
      let same : q ≡ l.wire.out = same_Some q l.wire.out (sym wire.cable ∙ leads) in
      (n, subst (λ (v : NodePort). Walk f origin v n) (sym (ap (vertex_of f) same ∙ l.wire.of_one)) l.walk)

  pub joined_closed : IsClosed (IsJoinedTo f origin) f
  joined_closed p q (n, w) wire =
      elim (is_switch_at f p.node) as (λ t. is_switch_at f p.node ≡ t → IsJoinedTo f origin (vertex_of f q)) [
        | true ↦ λ k.
            let switch : is_switch_at f (vertex_of f p).node ≡ true = ap (is_switch_at f) (vertex_node f p) ∙ k in
            let next : AreNeighbors f (vertex_of f p) (vertex_of f q) = record { out = p; into = q; wire = wire; of_one = refl; of_other = refl } in
            (suc n, walk_further f n origin (vertex_of f p) (vertex_of f q) w (inr switch) next)
        | false ↦ λ k. back p q k wire n (subst (λ (v : NodePort). Walk f origin v n) (adapter_vertex f p k) w)
      ] refl

pub packets_end_as_told_in_parts : PacketsEndAsToldInParts
packets_end_as_told_in_parts facts held f origin is_end seen source node lid end here some brought =
    packets_end_in (IsJoinedTo f origin) facts held f seen (joined_closed f seen.is_fabric origin) source node lid end here some brought
