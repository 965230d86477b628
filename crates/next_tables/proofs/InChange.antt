-- What becomes of packets in a fabric whose switches go over to other tables meanwhile: at a switch, and from an end
-- port.
use Rattle.std.proofs.Common.{◌≡◌, ℕ, suc, ◌+◌, ◌*◌, ◌<◌, ◌≤◌, Bool, true, false, cond, ◌||◌, List, [], ◌∷◌, length, Option, None, Some, refl, sym, ap, ◌∙◌, subst, arith, inl, inr, ◌⊎◌}
use Rattle.std.specs.Prelude.{nat_lt, map, slice_get, slice_index_or, ◌==◌}
use Rattle.std.proofs.lemmas.Bool.{eqb-true, le-ltb}
use Rattle.std.proofs.lemmas.Option.{same_Some}
use Rattle.fabric_model.specs.declared.cable.NodePort.{NodePort}
use Rattle.fabric_model.specs.declared.course.Course.TheVariants.{Delivers, LeavesBy, Drops}
use Rattle.smp_bytes.specs.NodeType.{is_switch}
use Rattle.fabric_model.specs.Fabric.{Node, Fabric, IsNodeAt, owns, IsPortNamed}
use Rattle.fabric_model.specs.FabricWalks.{vertex_of}
use Rattle.fabric_model.specs.Forwarding.{Standing, sent_from, arrived_at, course, entry_course, Hop}
use Rattle.fabric_model.proofs.FabricWalks.{port_at, same_port, EndNumber, type_at, switch_vertex, adapter_vertex, switch_number}
use Rattle.fabric_model.proofs.NodeCourses.{adapter_sends, adapter_takes, switch_enters}
use Rattle.fact_store.specs.View.{Facts, cells_of}
use Rattle.subnet_view.specs.declared.end_port.EndPort.{EndPort}
use Rattle.subnet_view.specs.Reading.{Cells, switches}
use Rattle.subnet_view.specs.Wires.{across}
use Rattle.subnet_view.specs.FabricAgreement.{Part, IsEndPortIn}
use Rattle.held_tables.specs.declared.held.HeldLid.{HeldLid}
use Rattle.held_tables.specs.Held.{HeldPlan}
use Rattle.packet_walks.specs.declared.cause.Cause.{Cause}
use Rattle.packet_walks.specs.declared.cause.Cause.TheVariants.{NoEntry, NoLink, Foreign}
use Rattle.packet_walks.specs.declared.packet_end.End.TheVariants.{Taken, Lost}
use Rattle.held_tables.specs.declared.far_end.Far.{Far}
use Rattle.held_tables.specs.declared.far_end.Far.TheVariants.{Nothing}
use Rattle.packet_walks.specs.declared.next_hop.NextHop.{NextHop}
use Rattle.packet_walks.specs.declared.next_hop.NextHop.TheVariants.{To, Ends}
use Rattle.packet_walks.specs.Fabrics.{IsSeenIn}
use Rattle.held_tables.specs.Switches.{index_in, far_at, far_to, far_of, row_of, sender_of}
use Rattle.packet_walks.specs.HopsByTables.{IsBrought, at_port, over, cause_of, by_entry, next_hops_of, sent, first_hop}
use Rattle.held_tables.specs.Tables.{owners_of, is_owner, entry_for}
use Rattle.packet_walks.specs.EndsBySwitch.{after}
use Rattle.packet_walks.proofs.Ended.{after_ended}
use Rattle.packet_walks.proofs.FabricParts.{as_part, vertex_part, switch_end, listed, indexed, wire_told, told_wire}
use Rattle.packet_walks.proofs.FarRows.{has, lacks, no_far, no_port, row_at}
use Rattle.plan_tables.proofs.HeldTables.{within_length}
use Rattle.packet_walks.proofs.Told.{IsClosed}
use Rattle.next_tables.specs.SettledRule.{step_at}
use Rattle.next_tables.specs.ChangingFabric.{entry_now, IsLooseEntry, IsInChange, ChangesMeanwhile, GoesMeanwhile, ArrivesMeanwhile}
use Rattle.next_tables.proofs.Changing.{MayDo, IsOnItsWay}
use Rattle.next_tables.proofs.Entries.{at_mapped}
use Rattle.next_tables.proofs.Mixtures.{at, Comes}
use Rattle.next_tables.proofs.Plain.{plain, plain_at, plain_by_entry, plain_lost}
use Rattle.next_tables.proofs.Steps.{at_index}

-- a packet is delivered at one port
same_out : (p q : NodePort) → LeavesBy p ≡ LeavesBy q → p ≡ q
same_out p q e = cc

pub delivered_once : (lid : ℕ) (hops others : List Hop) (fabrics : ℕ → Fabric) (st end last : Standing) (target other : NodePort)
    → GoesMeanwhile fabrics lid st hops end → course (fabrics (length hops)) lid end ≡ Delivers target
    → GoesMeanwhile fabrics lid st others last → course (fabrics (length others)) lid last ≡ Delivers other → other ≡ target
delivered_once lid [] [] fabrics st end last target other g d x k =
    let one : course (fabrics 0) lid st ≡ Delivers target = ap (course (fabrics 0) lid) g ∙ d in
    let two : course (fabrics 0) lid st ≡ Delivers other = ap (course (fabrics 0) lid) x ∙ k in
    cc
delivered_once lid [] (o ∷ others) fabrics st end last target other g d x k =
    let one : course (fabrics 0) lid st ≡ Delivers target = ap (course (fabrics 0) lid) g ∙ d in let leaves = x.0 in absurd (cc)
delivered_once lid (h ∷ hops) [] fabrics st end last target other g d x k =
    let two : course (fabrics 0) lid st ≡ Delivers other = ap (course (fabrics 0) lid) x ∙ k in let leaves = g.0 in absurd (cc)
delivered_once lid (h ∷ hops) (o ∷ others) fabrics st end last target other g d x k =
    let now = fabrics 0 in
    let out : h.out ≡ o.out = same_out h.out o.out (sym g.0 ∙ x.0) in
    let into : o.into ≡ h.into = same_Some o.into h.into (sym x.1 ∙ sym (ap now.across out) ∙ g.1) in
    delivered_once lid hops others (λ j. fabrics (suc j)) (arrived_at h.into) end last target other g.2 d
    (subst (λ (q : NodePort). GoesMeanwhile (λ j. fabrics (suc j)) lid (arrived_at q) others last) into x.2) k

module _ (part : Part) (facts : Facts) (held : HeldPlan) (f : Fabric) (seen : IsSeenIn part (cells_of facts) held f) (closed : IsClosed part f)
    (next : HeldPlan) (lid : ℕ) (some : 1 ≤ lid) where
  abbrev pub cells : Cells
  cells = cells_of facts

  abbrev pub owners : List EndPort
  owners = owners_of held lid

  abbrev pub Changing : Fabric → Type 0
  Changing now = IsInChange part cells held next lid f now

  abbrev pub Meanwhile : (ℕ → Fabric) → Type 0
  Meanwhile fabrics = ChangesMeanwhile part cells held next lid f fabrics

  -- a packet stands at the switch of an index
  pub record At (i : ℕ) (st : Standing) : Type 0 where
    pub node : Node
    pub at_node : IsNodeAt f st.at.node node
    pub kind : is_switch node.kind ≡ true
    pub index : slice_get (switches cells) i ≡ Some node.guid
    pub within : part (port_at st.at.node 0)

  -- it goes over a wire to the switch of an index
  pub record Crosses (now : Fabric) (st : Standing) (j : ℕ) : Type 0 where
    pub hop : Hop
    pub leaves : course now lid st ≡ LeavesBy hop.out
    pub wire : now.across hop.out ≡ Some hop.into
    pub there : At j (arrived_at hop.into)

  -- the packet is delivered, over at most `most` wires
  pub record Delivered (fabrics : ℕ → Fabric) (st : Standing) (e : EndPort) (most : ℕ) : Type 0 where
    pub hops : List Hop
    pub end : Standing
    pub target : NodePort
    pub goes : GoesMeanwhile fabrics lid st hops end
    pub delivers : course (fabrics (length hops)) lid end ≡ Delivers target
    pub named : IsPortNamed f e.node e.port target
    pub few : length hops ≤ most

  pub more : (fabrics : ℕ → Fabric) (st : Standing) (e : EndPort) (least most : ℕ) → least ≤ most → Delivered fabrics st e least → Delivered fabrics st e most
  more fabrics st e least most h d =
      let few = d.few in
      record { hops = d.hops; end = d.end; target = d.target; goes = d.goes; delivers = d.delivers; named = d.named; few = omega arith }

  pub further : (fabrics : ℕ → Fabric) (st : Standing) (j : ℕ) (e : EndPort) (most : ℕ) (c : Crosses (fabrics 0) st j)
      → Delivered (λ k. fabrics (suc k)) (arrived_at c.hop.into) e most → Delivered fabrics st e (suc most)
  further fabrics st j e most c d =
      let few = d.few in
      record {
        hops = c.hop ∷ d.hops;
        end = d.end;
        target = d.target;
        goes = (c.leaves, c.wire, d.goes);
        delivers = d.delivers;
        named = d.named;
        few = omega arith;
      }

  -- what a step says becomes of the packet; of one that is lost nothing is said
  abbrev pub Carries : (ℕ → Fabric) → Standing → NextHop → Type 0
  Carries fabrics st (To j) = Crosses (fabrics 0) st j
  Carries fabrics st (Ends (Taken e)) = Delivered fabrics st e 1
  Carries fabrics st (Ends (Lost g cause)) = Unit {0}

  carries_plain : (fabrics : ℕ → Fabric) (st : Standing) (s : NextHop) → Carries fabrics st s → Carries fabrics st (plain s)
  carries_plain fabrics st (To j) c = c
  carries_plain fabrics st (Ends (Taken e)) d = d
  carries_plain fabrics st (Ends (Lost g cause)) t = tt

  -- what nodes do in the midst of the change -------------------------------------------------

  module _ (now : Fabric) (is : Changing now) where
    node_now : (number : ℕ) (node : Node) → IsNodeAt f number node → IsNodeAt now number node
    node_now number node at_node = ap (λ ns. slice_get ns number) is.still.nodes ∙ at_node

    -- a switch goes by the entry that counts now
    switch_now : (st : Standing) (node : Node) → IsNodeAt f st.at.node node → is_switch node.kind ≡ true
        → course now lid st ≡ entry_course node.ports st.at.node (entry_now now lid st.at.node)
    switch_now st node at_node kind = switch_enters now lid st node (node_now st.at.node node at_node) kind

    -- an end port holds the LID exactly if the held tables say so
    owned_now : (q : NodePort) (node : Node) → IsEndPortIn part f q node → owns now q lid ≡ is_owner owners (record { node = node.guid; port = q.port })
    owned_now q node here = is.still.owners q node here ∙ seen.holds.lids q node lid here some

    takes_own : (st : Standing) (node : Node) → IsEndPortIn part f st.at node → is_switch node.kind ≡ false
        → is_owner owners (record { node = node.guid; port = st.at.port }) ≡ true → course now lid st ≡ Delivers st.at
    takes_own st node here kind own =
        adapter_takes now lid st node (node_now st.at.node node here.node_there) kind (owned_now st.at node here ∙ own)

  -- from a port of a node -------------------------------------------------------------------

  module _ (fabrics : ℕ → Fabric) (are : Meanwhile fabrics) where
    -- at an adapter port
    at_adapter : (st : Standing) (p q : NodePort) (node : Node) → course (fabrics 0) lid st ≡ LeavesBy p → f.across p ≡ Some q → IsEndPortIn part f q node
        → is_switch node.kind ≡ false → (b : Bool) → is_owner owners (record { node = node.guid; port = q.port }) ≡ b
        → Carries fabrics st (Ends (cond b (Taken (record { node = node.guid; port = q.port })) (Lost node.guid Foreign)))
    at_adapter st p q node leaves wire here kind true e =
        let now = are 0 in
        record {
          hops = (record { out = p; into = q }) ∷ [];
          end = arrived_at q;
          target = q;
          goes = (leaves, now.still.cables p ∙ wire, refl);
          delivers = takes_own (fabrics 1) (are 1) (arrived_at q) node here kind e;
          named = record { node = node; node_there = here.node_there; guid_is = refl; port_is = refl };
          few = omega arith;
        }
    at_adapter st p q node leaves wire here kind false e = tt

    -- over a wire to another port
    crossing : (g : ℕ) (cause : Cause) (st : Standing) (p q : NodePort) (node : Node) → course (fabrics 0) lid st ≡ LeavesBy p → f.across p ≡ Some q
        → IsNodeAt f q.node node → part (vertex_of f q)
        → (found : Option ℕ) → index_in (switches cells) node.guid ≡ found → Carries fabrics st (over owners g cause (far_at (node.guid, q.port) found))
    crossing g cause st p q node leaves wire at_node within (Some j) e =
        let now = are 0 in
        let back : f.across q ≡ Some p = seen.is_fabric.both_ways p q wire in
        let here = indexed part facts held f seen (vertex_of f q) node j (vertex_part part facts held f seen q p node back at_node within) e in
        let vertex : vertex_of f q ≡ port_at q.node 0 = switch_vertex f q (type_at f q.node node at_node ∙ here.0) in
        record {
          hop = record { out = p; into = q };
          leaves = leaves;
          wire = now.still.cables p ∙ wire;
          there = record { node = node; at_node = at_node; kind = here.0; index = here.1; within = subst part vertex within };
        }
    crossing g cause st p q node leaves wire at_node within None e =
        let back : f.across q ≡ Some p = seen.is_fabric.both_ways p q wire in
        let (other, at_other, low, high) = seen.is_fabric.cabled q p back in
        let same : other ≡ node = same_Some other node (sym at_other ∙ at_node) in
        elim (is_switch node.kind) as
        (λ t. is_switch node.kind ≡ t → Carries fabrics st (Ends (at_port owners (record { node = node.guid; port = q.port })))) [
          | true ↦ λ k.
              let vertex : vertex_of f q ≡ port_at q.node 0 = switch_vertex f q (type_at f q.node node at_node ∙ k) in
              absurd (listed part facts held f seen q.node node at_node k (subst part vertex within) e)
          | false ↦ λ k.
              let vertex : vertex_of f q ≡ q = adapter_vertex f q (type_at f q.node node at_node ∙ k) in
              let number : EndNumber node.ports q.port (is_switch node.kind) =
              subst (EndNumber node.ports q.port) (sym k) (low, subst (λ (n : Node). q.port ≤ n.ports) same high) in
              at_adapter st p q node leaves wire (as_part part facts held f seen q node at_node (node, at_node, number) (subst part vertex within)) k
              (is_owner owners (record { node = node.guid; port = q.port })) refl
        ] refl

    -- by a port of a node whose vertex is v
    leaving : (cause : Cause) (st : Standing) (p v : NodePort) (node : Node) → IsEndPortIn part f v node → v.node ≡ p.node → part (vertex_of f p)
        → course (fabrics 0) lid st ≡ LeavesBy p → Carries fabrics st (over owners node.guid cause (far_of cells node.guid p.port))
    leaving cause st p v node here at_node within leaves =
        let g = node.guid in
        elim (across cells g p.port) as (λ o. across cells g p.port ≡ o → Carries fabrics st (over owners g cause (far_of cells g p.port))) [
          | None ↦ λ e. subst (λ (far : Far). Carries fabrics st (over owners g cause far)) (sym (no_far cells g p.port e)) tt
          | Some x ↦ λ e.
              let w = told_wire part facts held f seen p v node x.0 x.1 here at_node within e in
              let q = w.to in
              let (far, at_far, low, high) = seen.is_fabric.cabled q p (seen.is_fabric.both_ways p q w.wire) in
              let there : IsNodeAt f p.node node = sym (ap (slice_get f.nodes) at_node) ∙ here.node_there in
              let told : across cells g p.port ≡ Some (far.guid, q.port) =
              wire_told part facts held f seen p q node far w.wire w.apart there at_far within in
              subst (λ (o : Option (ℕ × ℕ)). Carries fabrics st (over owners g cause (far_to (switches cells) o))) (sym told)
              (crossing g cause st p q far leaves w.wire at_far (closed p q within (record { cable = w.wire; different = w.apart }))
              (index_in (switches cells) far.guid) refl)
        ] refl

    -- from a switch ------------------------------------------------------------------------

    -- a switch does with the packet what its entry says
    by_an_entry : (st : Standing) (node : Node) (n : ℕ) → IsNodeAt f st.at.node node → is_switch node.kind ≡ true → part (port_at st.at.node 0)
        → course (fabrics 0) lid st ≡ entry_course node.ports st.at.node n
        → Carries fabrics st (by_entry owners node.guid NoEntry (row_of cells node.guid) n)
    by_an_entry st node n at_node kind within goes =
        let k = st.at.node in
        let few = (seen.is_fabric.counts k node at_node).1 in
        let here = switch_end part facts held f seen k node at_node kind within in
        let vertex : vertex_of f (port_at k n) ≡ port_at k 0 = switch_vertex f (port_at k n) (type_at f k node at_node ∙ kind) in
        elim (n == 0) as (λ t. (n == 0) ≡ t
        → Carries fabrics st (cond t (Ends (Taken (record { node = node.guid; port = 0 })))
        (over owners node.guid NoEntry (slice_index_or (row_of cells node.guid) n Nothing)))) [
          | true ↦ λ z.
              let zero_is : n ≡ 0 = eqb-true n 0 z in
              record {
                hops = [];
                end = st;
                target = port_at k 0;
                goes = refl;
                delivers = goes ∙ ap (entry_course node.ports k) zero_is ∙ ap (λ t. cond t Drops (Delivers (port_at k 0))) (le-ltb node.ports 0 (omega arith));
                named = record { node = node; node_there = at_node; guid_is = refl; port_is = refl };
                few = omega arith;
              }
          | false ↦ λ z. (elim (n == 255 || nat_lt node.ports n) as (λ t. (n == 255 || nat_lt node.ports n) ≡ t
              → Carries fabrics st (over owners node.guid NoEntry (slice_index_or (row_of cells node.guid) n Nothing))) [
                | true ↦ λ e.
                    subst (λ (far : Far). Carries fabrics st (over owners node.guid NoEntry far))
                    (sym (no_port part facts held f seen k node n at_node kind within (lacks n node.ports e))) tt
                | false ↦ λ e.
                    let in_row = has n node.ports e in
                    let leaves : course (fabrics 0) lid st ≡ LeavesBy (port_at k n) =
                    goes ∙ ap (λ t. cond t Drops (cond (n == 0) (Delivers (port_at k 0)) (LeavesBy (port_at k n)))) e
                    ∙ ap (λ t. cond t (Delivers (port_at k 0)) (LeavesBy (port_at k n))) z in
                    subst (λ (far : Far). Carries fabrics st (over owners node.guid NoEntry far)) (sym (row_at cells node.guid n (omega arith)))
                    (leaving NoEntry st (port_at k n) (port_at k 0) node here refl (subst part (sym vertex) within) leaves)
              ] refl)
        ] refl

    -- by the entry that it has now
    pub switch_carries : (i : ℕ) (st : Standing) (a : At i st)
        → Carries fabrics st (plain (by_entry owners a.node.guid NoEntry (row_of cells a.node.guid) (entry_now (fabrics 0) lid st.at.node)))
    switch_carries i st a =
        let n = entry_now (fabrics 0) lid st.at.node in
        carries_plain fabrics st (by_entry owners a.node.guid NoEntry (row_of cells a.node.guid) n)
        (by_an_entry st a.node n a.at_node a.kind a.within (switch_now (fabrics 0) (are 0) st a.node a.at_node a.kind))

    -- from the port that sends it ------------------------------------------------------------

    abbrev pub Begins : Standing → NextHop → Type 0
    Begins st (To i) = At i st ⊎ Crosses (fabrics 0) st i
    Begins st (Ends (Taken e)) = Delivered fabrics st e 1
    Begins st (Ends (Lost g cause)) = Unit {0}

    as_begun : (st : Standing) (s : NextHop) → Carries fabrics st s → Begins st s
    as_begun st (To i) c = inr c
    as_begun st (Ends (Taken e)) d = d
    as_begun st (Ends (Lost g cause)) t = tt

    module _ (source : NodePort) (node : Node) (here : IsEndPortIn part f source node) where
      -- a switch sends from its port 0
      from_switch : is_switch node.kind ≡ true → part (port_at source.node 0)
      from_switch kind =
          let zero_is : source.port ≡ 0 = switch_number f source here.end_port (type_at f source.node node here.node_there ∙ kind) in
          subst part (same_port source (port_at source.node 0) refl zero_is) here.in_part

      abbrev pub this : EndPort
      this = record { node = node.guid; port = source.port }

      abbrev pub start : Standing
      start = sent_from source

      sends : is_switch node.kind ≡ false → (b : Bool) → is_owner owners this ≡ b
          → Begins start (cond b (Ends (Taken this)) (over owners node.guid NoLink (far_of cells node.guid source.port)))
      sends kind true e = record {
        hops = [];
        end = start;
        target = source;
        goes = refl;
        delivers = takes_own (fabrics 0) (are 0) start node here kind e;
        named = record { node = node; node_there = here.node_there; guid_is = refl; port_is = refl };
        few = omega arith;
      }
      sends kind false e =
          let other : owns (fabrics 0) source lid ≡ false = owned_now (fabrics 0) (are 0) source node here ∙ e in
          let leaves : course (fabrics 0) lid start ≡ LeavesBy source =
          adapter_sends (fabrics 0) lid source node (node_now (fabrics 0) (are 0) source.node node here.node_there) kind other in
          as_begun start (over owners node.guid NoLink (far_of cells node.guid source.port))
          (leaving NoLink start source source node here refl
          (subst part (sym (adapter_vertex f source (type_at f source.node node here.node_there ∙ kind))) here.in_part) leaves)

      pub begins : Begins start (first_hop owners (sender_of cells this))
      begins =
          elim (index_in (switches cells) node.guid) as
          (λ o. index_in (switches cells) node.guid ≡ o → Begins start (sent owners this o (far_of cells node.guid source.port))) [
            | Some i ↦ λ e. let it = indexed part facts held f seen source node i here e in
                inl (record { node = node; at_node = here.node_there; kind = it.0; index = it.1; within = from_switch it.0 })
            | None ↦ λ e. (elim (is_switch node.kind) as
                (λ t. is_switch node.kind ≡ t → Begins start (sent owners this None (far_of cells node.guid source.port))) [
                  | true ↦ λ k. absurd (listed part facts held f seen source.node node here.node_there k (from_switch k) e)
                  | false ↦ λ k. sends k (is_owner owners this) refl
                ] refl)
          ] refl

-- at a switch ----------------------------------------------------------------------------

module _ (part : Part) (facts : Facts) (held next : HeldPlan) (line : HeldLid) (f : Fabric) (seen : IsSeenIn part (cells_of facts) held f)
    (closed : IsClosed part f) (some : 1 ≤ line.lid) (same : owners_of next line.lid ≡ owners_of held line.lid) where
  abbrev pub gs : List ℕ
  gs = switches (cells_of facts)

  abbrev pub count : ℕ
  count = length (switches (cells_of facts))

  abbrev pub by : HeldPlan → List NextHop
  by tables = map plain (next_hops_of (cells_of facts) tables line.lid)

  abbrev pub Stands : ℕ → Standing → Type 0
  Stands i st = At part facts held f seen closed next line.lid some i st

  abbrev pub Follows : (ℕ → Fabric) → Type 0
  Follows fabrics = ChangesMeanwhile part (cells_of facts) held next line.lid f fabrics

  abbrev pub Arrived : (ℕ → Fabric) → Standing → ℕ → Type 0
  Arrived fabrics st most = Delivered part facts held f seen closed next line.lid some fabrics st line.port most

  -- from the switch of an index each packet is delivered, whatever the fabric is meanwhile
  abbrev pub Arrives : ℕ → ℕ → Type 0
  Arrives most i = (fabrics : ℕ → Fabric) → Follows fabrics → (st : Standing) → Stands i st → Arrived fabrics st most

  pub by_at : (tables : HeldPlan) (i : ℕ) → i < count → at (by tables) i ≡ plain (step_at (cells_of facts) tables line.lid (slice_index_or gs i 0))
  by_at tables i less =
      plain_at (next_hops_of (cells_of facts) tables line.lid) i (To i)
      ∙ ap plain (at_mapped (step_at (cells_of facts) tables line.lid) gs i (To i) less)

  -- what the switch does
  module _ (fabrics : ℕ → Fabric) (are : Follows fabrics) (i : ℕ) (st : Standing) (a : Stands i st) where
    abbrev g : ℕ
    g = a.node.guid

    abbrev n : ℕ
    n = entry_now (fabrics 0) line.lid st.at.node

    abbrev does : NextHop
    does = plain (by_entry (owners_of held line.lid) g NoEntry (row_of (cells_of facts) g) n)

    within_count : i < count
    within_count = within_length gs i g a.index

    steps_are : (tables : HeldPlan) → at (by tables) i ≡ plain (step_at (cells_of facts) tables line.lid g)
    steps_are tables =
        by_at tables i within_count ∙ ap (λ h. plain (step_at (cells_of facts) tables line.lid h)) (at_index gs i g 0 a.index)

    as_tables : (tables : HeldPlan) → owners_of tables line.lid ≡ owners_of held line.lid → n ≡ entry_for tables line.lid g → does ≡ at (by tables) i
    as_tables tables own e =
        (λ k. plain (by_entry (sym own k) g NoEntry (row_of (cells_of facts) g) (e k)))
        ∙ plain_by_entry (owners_of tables line.lid) g NoEntry (cause_of (cells_of facts) tables line.lid g) (row_of (cells_of facts) g)
        (entry_for tables line.lid g)
        ∙ sym (steps_are tables)

    may : MayDo (by held) (by next) i does
    may =
        let now = are 0 in
        let here = switch_end part facts held f seen st.at.node a.node a.at_node a.kind a.within in
        let loose : IsLooseEntry (cells_of facts) held next line.lid g n = now.entries (port_at st.at.node 0) a.node here a.kind in
        elim loose [
          | inl e ↦ inl (as_tables held refl e)
          | inr (inl e) ↦ inr (inl (as_tables next same e))
          | inr (inr d) ↦ inr (inr (d.0, steps_are held ∙ plain_lost (step_at (cells_of facts) held line.lid g) d.0 d.1 d.2))
        ]

    arrives_by : (most : ℕ) → 1 ≤ most → (s : NextHop) → Carries part facts held f seen closed next line.lid some fabrics st s
        → IsOnItsWay line.port Arrives most s → Arrived fabrics st most
    arrives_by most least s c (inl e) =
        more part facts held f seen closed next line.lid some fabrics st line.port 1 most least
        (subst (Carries part facts held f seen closed next line.lid some fabrics st) e c)
    arrives_by most least s c (inr (j, fewer, less, e, arrives)) =
        let crosses : Crosses part facts held f seen closed next line.lid some (fabrics 0) st j =
        subst (Carries part facts held f seen closed next line.lid some fabrics st) e c in
        more part facts held f seen closed next line.lid some fabrics st line.port (suc fewer) most less
        (further part facts held f seen closed next line.lid some fabrics st j line.port fewer crosses
        (arrives (λ k. fabrics (suc k)) (λ k. are (suc k)) (arrived_at crosses.hop.into) crosses.there))

  pub step : (most i : ℕ) → 1 ≤ most → i < count → ((s : NextHop) → MayDo (by held) (by next) i s → IsOnItsWay line.port Arrives most s) → Arrives most i
  step most i least less on fabrics are st a =
      arrives_by fabrics are i st a most least (does fabrics are i st a)
      (switch_carries part facts held f seen closed next line.lid some fabrics are i st a) (on (does fabrics are i st a) (may fabrics are i st a))

  -- from an end port ------------------------------------------------------------------------

  module _ (on : (i : ℕ) → Comes line.port (next_hops_of (cells_of facts) held line.lid) (To i) → Arrives (2 * count) i) (fabrics : ℕ → Fabric)
      (are : Follows fabrics) where
    abbrev pub most : ℕ
    most = 2 * count + 1

    abbrev H : List NextHop
    H = next_hops_of (cells_of facts) held line.lid

    taken_there : (e : EndPort) (k : ℕ) → after k H (Ends (Taken e)) ≡ Ends (Taken line.port) → e ≡ line.port
    taken_there e k h = let over : ◌≡◌ {A = NextHop} (Ends (Taken e)) (Ends (Taken line.port)) = sym (after_ended k H (Taken e)) ∙ h in cc

    lost_there : (g : ℕ) (cause : Cause) (k : ℕ) → after k H (Ends (Lost g cause)) ≡ Ends (Taken line.port) → ⊥
    lost_there g cause k h =
        let over : ◌≡◌ {A = NextHop} (Ends (Lost g cause)) (Ends (Taken line.port)) = sym (after_ended k H (Lost g cause)) ∙ h in cc

    from_first : (st : Standing) (s : NextHop) → Begins part facts held f seen closed next line.lid some fabrics are st s → Comes line.port H s
        → Arrived fabrics st most
    from_first st (To i) (inl a) c =
        more part facts held f seen closed next line.lid some fabrics st line.port (2 * count) most (omega arith)
        (on i c fabrics are st a)
    from_first st (To i) (inr x) c =
        more part facts held f seen closed next line.lid some fabrics st line.port (suc (2 * count)) most (omega arith)
        (further part facts held f seen closed next line.lid some fabrics st i line.port (2 * count) x
        (on i c (λ k. fabrics (suc k)) (λ k. are (suc k)) (arrived_at x.hop.into) x.there))
    from_first st (Ends (Taken e)) d c =
        more part facts held f seen closed next line.lid some fabrics st line.port 1 most (omega arith)
        (subst (λ (x : EndPort). Delivered part facts held f seen closed next line.lid some fabrics st x 1) (taken_there e c.0 c.1) d)
    from_first st (Ends (Lost g cause)) t c = absurd (lost_there g cause c.0 c.1)

    pub arrives_in : (source : NodePort) (node : Node) → IsEndPortIn part f source node
        → IsBrought (cells_of facts) held line.lid (record { node = node.guid; port = source.port }) (Some (Taken line.port))
        → ArrivesMeanwhile fabrics line.lid source line.port most
    arrives_in source node here brought =
        let first = first_hop (owners_of held line.lid) (sender_of (cells_of facts) (record { node = node.guid; port = source.port })) in
        let d = from_first (sent_from source) first (begins part facts held f seen closed next line.lid some fabrics are source node here) brought in
        let now = are 0 in
        let name = d.named in
        record {
          hops = d.hops;
          target = d.target;
          named = record {
            node = name.node;
            node_there = ap (λ ns. slice_get ns d.target.node) now.still.nodes ∙ name.node_there;
            guid_is = name.guid_is;
            port_is = name.port_is;
          };
          delivered = (d.end, d.goes, d.delivers);
          few = d.few;
          nowhere_else = λ others other x. delivered_once line.lid d.hops others fabrics (sent_from source) d.end x.0 d.target other d.goes d.delivers x.1 x.2;
        }
