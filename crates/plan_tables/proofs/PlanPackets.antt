-- By the plan of a view, a packet for a LID gets to the end port that holds it.
use Rattle.std.proofs.Common.{◌≡◌, ℕ, suc, ◌≤◌, true, false, List, [], ◌∷◌, None, Some, refl, sym, ap, ◌∙◌, subst, arith, cond, ◌==◌}
use Rattle.std.specs.Prelude.{slice_get, slice_index_or, Contains, unwrap_or, is_some, MatchBool}
use Rattle.std.specs.Option.{option_map_or}
use Rattle.std.proofs.lemmas.Bool.{and_parts, eqb-true, eqb-false, eq-eqb, ne_eqb, false_from_ne_true}
use Rattle.std.proofs.lemmas.List.FromFn.{get_or-map-range_with_len}
use Rattle.std.proofs.lemmas.Option.{same_Some}
use Rattle.smp_bytes.specs.NodeType.{is_switch}
use Rattle.fact_store.specs.View.{Facts, cells_of, AreInRange}
use Rattle.subnet_view.specs.declared.end_port.EndPort.{EndPort}
use Rattle.subnet_view.specs.EndPort.{end_ports}
use Rattle.reply_facts.specs.Known.{cap_of}
use Rattle.subnet_view.specs.Reading.{Cells, is_usable, is_switch_node, switches}
use Rattle.subnet_view.specs.Wires.{across, attached}
use Rattle.subnet_view.proofs.Attachments.{attached_law}
use Rattle.subnet_view.proofs.EndPortList.{end_ports_law}
use Rattle.subnet_view.proofs.WireEnds.{linked, across_back}
use Rattle.subnet_view.proofs.WireLaws.{wire_law}
use Rattle.port_graph.specs.declared.edge.Edge.{Edge}
use Rattle.lft_blocks.specs.Lids.{IsNoRoom, lids, owner_of, top_of}
use Rattle.subnet_view.specs.SwitchEdges.{SwitchEdges}
use Rattle.subnet_view.specs.Graph.{graph_of}
use Rattle.subnet_view.specs.GraphLaws.{IsSwitch}
use Rattle.subnet_view.specs.Components.{in_one_component, root_of}
use Rattle.subnet_view.specs.Routing.{Routing, Passes, FollowsRule}
use Rattle.subnet_view.proofs.Components.{component_itself, component_symm, component_trans, joined, rooted}
use Rattle.subnet_view.proofs.Graphs.{edge_is_wire, edge_to_usable, graph_law, wire_end}
use Rattle.subnet_view.proofs.GraphSwitches.{graph_guids, switch_usable, usable_switch}
use Rattle.lft_blocks.specs.Rule.{RuleValue}
use Rattle.lft_blocks.proofs.RulesRoute.{lids_are_routed}
use Rattle.subnet_view.specs.Wires.{attachment_of}
use Rattle.lft_blocks.proofs.HeldEntries.{entry_of as planned_entry, entry_by_attachment}
use Rattle.subnet_view.proofs.AttachmentSwitches.{attachment_is_switch}
use Rattle.held_tables.specs.declared.held.HeldLid.{HeldLid}
use Rattle.held_tables.specs.Held.{HeldPlan}
use Rattle.plan_tables.proofs.PlanRanges.{wire_small}
use Rattle.packet_walks.specs.declared.cause.Cause.{Cause}
use Rattle.packet_walks.specs.declared.cause.Cause.TheVariants.{NoLink, Foreign}
use Rattle.packet_walks.specs.declared.packet_end.End.TheVariants.{Taken, Lost}
use Rattle.held_tables.specs.declared.far_end.Far.TheVariants.{Nothing}
use Rattle.packet_walks.specs.declared.next_hop.NextHop.{NextHop}
use Rattle.packet_walks.specs.declared.next_hop.NextHop.TheVariants.{To, Ends}
use Rattle.held_tables.specs.Switches.{far_at, far_to, far_of, row_of, index_in}
use Rattle.packet_walks.specs.HopsByTables.{at_port, over, cause_of, by_entry, next_hops_of, sent, IsBrought}
use Rattle.held_tables.specs.Tables.{entry_for, is_owner, owners_of}
use Rattle.packet_walks.specs.EndsBySwitch.{after, onward}
use Rattle.packet_walks.proofs.FabricParts.{index_there}
use Rattle.packet_walks.proofs.OwnerLines.{owner_line, line_owner}
use Rattle.plan_tables.proofs.OwnedLids.{line_owned}
use Rattle.plan_tables.proofs.HeldPlans.{made, entry_counts}
use Rattle.plan_tables.proofs.HeldTables.{get_mapped}
use Rattle.packet_walks.proofs.EntrySteps.{contains_at, index_is, no_wire_at_0}
use Rattle.lft_blocks.specs.Plan.{lid_routing}

-- the switch at which an end port lies, and the root of its component
pub record HasRoot (cells : Cells) (e : EndPort) (r : ℕ) : Type 0 where
  pub attachment : ℕ × ℕ
  pub attachment_is : attachment_of cells e ≡ Some attachment
  pub root_is : root_of (graph_of cells) attachment.0 ≡ Some r

-- how an end port lies to another one of its component
pub data Meets (cells : Cells) (e owner : EndPort) : Type 0 where
  itself : e ≡ owner → Meets cells e owner
  of_root : (r : ℕ) → HasRoot cells e r → HasRoot cells owner r → Meets cells e owner
  by_wire : across cells e.node e.port ≡ Some (owner.node, owner.port) → Meets cells e owner

-- a switch has an index
record Indexed (cells : Cells) (g : ℕ) : Type 0 where
  index : ℕ
  is : index_in (switches cells) g ≡ Some index
  at : slice_get (switches cells) index ≡ Some g

indexed : (cells : Cells) (g : ℕ) → Contains (switches cells) g → Indexed cells g
indexed cells g there =
    elim (index_in (switches cells) g) as (λ o. index_in (switches cells) g ≡ o → Indexed cells g) [
      | None ↦ λ e. absurd (index_there (switches cells) g there e)
      | Some i ↦ λ e. record { index = i; is = e; at = index_is (switches cells) g i e }
    ] refl

module _ (by : RuleValue) (lmc : ℕ) (facts : Facts) (range : AreInRange facts) (has_room : ¬ (IsNoRoom lmc (cells_of facts)))
    (top : ℕ) (top_is : top_of (lids lmc (cells_of facts)) ≡ Some top)
    (line : HeldLid) (is_held : Contains (made by lmc (cells_of facts) top).lids line) (is_end : Contains (end_ports (cells_of facts)) line.port) where
  abbrev cells : Cells
  cells = cells_of facts

  abbrev held : HeldPlan
  held = made by lmc cells top

  abbrev graph : List SwitchEdges
  graph = graph_of cells

  abbrev rule : Routing
  rule = lid_routing by lmc cells (lids lmc cells)

  abbrev lid : ℕ
  lid = line.lid

  abbrev owner : EndPort
  owner = line.port

  abbrev owners : List EndPort
  owners = owners_of held lid

  abbrev steps : List NextHop
  steps = next_hops_of cells held lid

  abbrev end : NextHop
  end = Ends (Taken owner)

  -- from a step the packet comes to the owner
  abbrev Comes : NextHop → Type 0
  Comes s = (n : ℕ) × (after n steps s ≡ end)

  further : (s : NextHop) → Comes (onward steps s) → Comes s
  further s (n, is) = (suc n, is)

  comes_by : (s t : NextHop) → s ≡ t → Comes t → Comes s
  comes_by s t e c = subst Comes (sym e) c

  -- why a switch does not send it on
  abbrev why : ℕ → Cause
  why g = cause_of cells held lid g

  -- the owner alone holds the LID
  pub owned : owner_of (lids lmc cells) lid ≡ Some owner
  owned = line_owned lmc facts has_room line is_held

  owner_holds : is_owner owners owner ≡ true
  owner_holds = line_owner held line is_held

  only_owner : (e : EndPort) → is_owner owners e ≡ true → e ≡ owner
  only_owner e h =
      let l = owner_line held lid e h in
      let its = line_owned lmc facts has_room l.line l.is_held in
      sym l.port_is ∙ same_Some l.line.port owner (sym its ∙ ap (owner_of (lids lmc cells)) l.lid_is ∙ owned)

  owner_takes : at_port owners owner ≡ Taken owner
  owner_takes = ap (λ t. cond t (Taken owner) (Lost owner.node Foreign)) owner_holds

  -- an end port of a usable switch is its port 0
  at_switch : (e : EndPort) → Contains (end_ports cells) e → is_usable cells e.node ≡ true → e.port ≡ 0
  at_switch e there usable =
      let (kind, ports, known, index, rest) = ((end_ports_law facts).0 e).0 there in
      let node_is_switch = (and_parts (is_switch_node cells e.node) (is_some (cap_of cells e.node)) usable).0 in
      let is : is_switch kind ≡ true = ap (λ o. option_map_or (λ n. is_switch n.0) o false) (sym known) ∙ node_is_switch in
      subst (λ t. MatchBool t (e.port ≡ 0) ((1 ≤ e.port) × (e.port ≤ ports))) is index

  -- what a switch does is by the plan's entry
  at_index : (i g entry : ℕ) → slice_get (switches cells) i ≡ Some g → planned_entry rule lmc cells g lid ≡ entry
      → onward steps (To i) ≡ by_entry owners g (why g) (row_of cells g) entry
  at_index i g entry at is =
      get_mapped (λ g. by_entry owners g (why g) (row_of cells g) (entry_for held lid g)) (switches cells) i g (To i) at
      ∙ ap (by_entry owners g (why g) (row_of cells g)) (entry_counts by lmc facts has_room top top_is g lid owner (contains_at (switches cells) i g at) owned
      ∙ is)

  -- over a wire
  over_wire : (g p : ℕ) (q : ℕ × ℕ) → across cells g p ≡ Some q
      → by_entry owners g (why g) (row_of cells g) p ≡ over owners g (why g) (far_at q (index_in (switches cells) q.0))
  over_wire g p q wire =
      let from = (wire_end cells g p (linked cells g p q wire).here).is_port.0 in
      let small = (wire_small facts range g p q.0 q.1 wire).0 in
      ap (λ t. cond t (Ends (Taken (record { node = g; port = 0 }))) (over owners g (why g) (slice_index_or (row_of cells g) p Nothing)))
      (ne_eqb p 0 (λ z. omega (arith, z, from)))
      ∙ ap (over owners g (why g)) (get_or-map-range_with_len (far_of cells g) 0 255 p p Nothing (omega arith) (omega arith)
      ∙ ap (far_to (switches cells)) wire)

  -- to a port that is no usable switch's
  to_owner : (g : ℕ) (cause : Cause) (q : ℕ × ℕ) → q ≡ (owner.node, owner.port) → is_usable cells owner.node ≡ false
      → over owners g cause (far_at q (index_in (switches cells) q.0)) ≡ end
  to_owner g cause q same apart =
      elim (index_in (switches cells) owner.node) as
      (λ o. index_in (switches cells) owner.node ≡ o → over owners g cause (far_at q (index_in (switches cells) q.0)) ≡ end) [
        | Some i ↦ λ e.
            let there = contains_at (switches cells) i owner.node (index_is (switches cells) owner.node i e) in
            let usable = switch_usable facts owner.node there in
            absurd (cc)
        | None ↦ λ e.
            ap (λ (x : ℕ × ℕ). over owners g cause (far_at x (index_in (switches cells) x.0))) same
            ∙ ap (λ o. over owners g cause (far_at (owner.node, owner.port) o)) e
            ∙ ap (λ x. Ends x) owner_takes
      ] refl

  -- at the attachment of the owner its switch takes the packet, or sends it to the owner
  module _ (attachment : ℕ × ℕ) (attachment_is : attachment_of cells owner ≡ Some attachment) where
    entry_attachment : planned_entry rule lmc cells attachment.0 lid ≡ attachment.1
    entry_attachment =
        entry_by_attachment rule lmc cells attachment.0 lid owner attachment owned attachment_is
        ∙ ap (λ t. cond t attachment.1 (unwrap_or (rule.next lid attachment.0 attachment.0) 255)) (eq-eqb attachment.0 attachment.0 refl)

    at_attachment : by_entry owners attachment.0 (why attachment.0) (row_of cells attachment.0) attachment.1 ≡ end
    at_attachment =
        elim (is_usable cells owner.node) as
        (λ t. is_usable cells owner.node ≡ t → cond t (Some (owner.node, 0)) (attached cells owner.node owner.port) ≡ Some attachment
        → by_entry owners attachment.0 (why attachment.0) (row_of cells attachment.0) attachment.1 ≡ end) [
          | true ↦ λ u k.
              let own : ℕ × ℕ = (owner.node, 0) in
              let same : own ≡ attachment = same_Some own attachment k in
              let number : 0 ≡ owner.port = sym (at_switch owner is_end u) in
              ap (λ (x : ℕ × ℕ). by_entry owners x.0 (why x.0) (row_of cells x.0) x.1) (sym same)
              ∙ (λ i. Ends (Taken (record { node = owner.node; port = number i })))
          | false ↦ λ u k.
              let its = (attached_law cells owner.node owner.port attachment.0 attachment.1).0 k in
              let back = across_back cells owner.node owner.port attachment ((wire_law cells owner.node owner.port attachment.0 attachment.1).1 its.wire) in
              over_wire attachment.0 attachment.1 (owner.node, owner.port) back ∙ to_owner attachment.0 (why attachment.0) (owner.node, owner.port) refl u
        ] refl attachment_is

    -- along the ports of the rule
    along : (es : List Edge) (s i : ℕ) → slice_get (switches cells) i ≡ Some s → FollowsRule rule lid attachment.0 s es → Passes graph s es → Comes (To i)
    along [] s i at follows passes =
        further (To i) (comes_by (onward steps (To i)) end
        (at_index i attachment.0 attachment.1 (at ∙ ap (λ x. Some x) follows) entry_attachment ∙ at_attachment) (0, refl))
    along (e ∷ es) s i at (apart, next, follows) (there, passes) =
        let x = edge_is_wire cells s e there in
        let entry : planned_entry rule lmc cells s lid ≡ e.port =
        entry_by_attachment rule lmc cells s lid owner attachment owned attachment_is
        ∙ ap (λ t. cond t attachment.1 (unwrap_or (rule.next lid s attachment.0) 255))
        (false_from_ne_true (attachment.0 == s) (λ k. eqb-false s attachment.0 apart (sym (eqb-true attachment.0 s k))))
        ∙ ap (λ o. unwrap_or o 255) next in
        let to = indexed cells e.to (usable_switch facts e.to (edge_to_usable cells s e.port e.to x)) in
        let goes : onward steps (To i) ≡ To to.index =
        at_index i s e.port at entry ∙ over_wire s e.port (e.to, x.end_port) x.wire ∙ ap (λ o. over owners s (why s) (far_at (e.to, x.end_port) o)) to.is in
        further (To i) (comes_by (onward steps (To i)) (To to.index) goes (along es e.to to.index to.at follows passes))

    is_in_graph : (g : ℕ) → Contains (switches cells) g → IsSwitch graph g
    is_in_graph g h = subst (λ (xs : List ℕ). Contains xs g) (sym (graph_guids cells)) h

    pub attachment_there : IsSwitch graph attachment.0
    attachment_there = is_in_graph attachment.0 (attachment_is_switch facts owner attachment attachment_is)

    -- from a switch of the component
    pub from_switch : (s i : ℕ) → slice_get (switches cells) i ≡ Some s → in_one_component graph s attachment.0 ≡ true → Comes (To i)
    from_switch s i at together =
        let there = is_in_graph s (contains_at (switches cells) i s at) in
        let (n, cost) = (lids_are_routed by lmc facts).reaches s attachment.0 there attachment_there together in
        let way = (lids_are_routed by lmc facts).leads lid s attachment.0 n there cost in
        along way.edges s i at way.by_rule way.passes

    -- of one root, of one component
    one_root : (s r : ℕ) → Contains (switches cells) s → root_of graph s ≡ Some r → root_of graph attachment.0 ≡ Some r → in_one_component graph s attachment.0
        ≡ true
    one_root s r listed its others =
        let good = graph_law facts in
        let there = is_in_graph s listed in
        let a = rooted graph good s there in
        let b = rooted graph good attachment.0 attachment_there in
        let same : a.root ≡ b.root = same_Some a.root b.root (sym a.is_root ∙ its ∙ sym others ∙ b.is_root) in
        let from = component_symm graph good a.root s there (joined graph good a.root s a.rank a.is_rank) in
        let on = subst (λ (x : ℕ). in_one_component graph x attachment.0 ≡ true) (sym same) (joined graph good b.root attachment.0 b.rank b.is_rank) in
        component_trans graph good s a.root attachment.0 there from on

  own_attachment : (e : EndPort) → is_usable cells e.node ≡ true → attachment_of cells e ≡ Some (e.node, 0)
  own_attachment e u = ap (λ t. cond t (Some (e.node, 0)) (attached cells e.node e.port)) u

  wired_attachment : (e : EndPort) (attachment : ℕ × ℕ) → is_usable cells e.node ≡ false → attachment_of cells e ≡ Some attachment
      → attached cells e.node e.port ≡ Some attachment
  wired_attachment e attachment u h = sym (ap (λ t. cond t (Some (e.node, 0)) (attached cells e.node e.port)) u) ∙ h

  -- a packet of a usable switch
  by_switch : (e : EndPort) (i : ℕ) → Contains (end_ports cells) e → slice_get (switches cells) i ≡ Some e.node → Meets cells e owner → Comes (To i)
  by_switch e i listed at (itself is) =
      let usable = switch_usable facts e.node (contains_at (switches cells) i e.node at) in
      let good = graph_law facts in
      let attachment : ℕ × ℕ = (e.node, 0) in
      let attachment_is : attachment_of cells owner ≡ Some attachment = ap (attachment_of cells) (sym is) ∙ own_attachment e usable in
      from_switch attachment attachment_is e.node i at (component_itself graph good e.node (attachment_there attachment attachment_is))
  by_switch e i listed at (of_root r from to) =
      let there = contains_at (switches cells) i e.node at in
      let usable = switch_usable facts e.node there in
      let own : ℕ × ℕ = (e.node, 0) in
      let is : own ≡ from.attachment = same_Some own from.attachment (sym (own_attachment e usable) ∙ from.attachment_is) in
      let root = ap (λ (x : ℕ × ℕ). root_of graph x.0) is ∙ from.root_is in
      from_switch to.attachment to.attachment_is e.node i at (one_root to.attachment to.attachment_is e.node r there root to.root_is)
  by_switch e i listed at (by_wire w) =
      let usable = switch_usable facts e.node (contains_at (switches cells) i e.node at) in
      absurd (no_wire_at_0 cells e.node (owner.node, owner.port) (ap (across cells e.node) (sym (at_switch e listed usable)) ∙ w))

  -- a packet that an adapter port sends out
  by_adapter : (e : EndPort) → is_usable cells e.node ≡ false → is_owner owners e ≡ false → Meets cells e owner
      → Comes (over owners e.node NoLink (far_of cells e.node e.port))
  by_adapter e apart other (itself is) = let holds : is_owner owners e ≡ true = ap (is_owner owners) is ∙ owner_holds in absurd (cc)
  by_adapter e apart other (of_root r from to) =
      let w = ((attached_law cells e.node e.port from.attachment.0 from.attachment.1).0 (wired_attachment e from.attachment apart from.attachment_is)).wire in
      let wire = (wire_law cells e.node e.port from.attachment.0 from.attachment.1).1 w in
      let there = attachment_is_switch facts e from.attachment from.attachment_is in
      let at = indexed cells from.attachment.0 there in
      comes_by (over owners e.node NoLink (far_of cells e.node e.port)) (To at.index)
      (ap (λ o. over owners e.node NoLink (far_to (switches cells) o)) wire ∙ ap (λ o. over owners e.node NoLink (far_at from.attachment o)) at.is)
      (from_switch to.attachment to.attachment_is from.attachment.0 at.index at.at
      (one_root to.attachment to.attachment_is from.attachment.0 r there from.root_is to.root_is))
  by_adapter e apart other (by_wire w) =
      elim (is_usable cells owner.node) as (λ t. is_usable cells owner.node ≡ t → Comes (over owners e.node NoLink (far_of cells e.node e.port))) [
        | true ↦ λ u.
            let back = across_back cells e.node e.port (owner.node, owner.port) w in
            absurd (no_wire_at_0 cells owner.node (e.node, e.port) (ap (across cells owner.node) (sym (at_switch owner is_end u)) ∙ back))
        | false ↦ λ u.
            let is : ℕ × ℕ = (owner.node, owner.port) in
            comes_by (over owners e.node NoLink (far_of cells e.node e.port)) end
            (ap (λ o. over owners e.node NoLink (far_to (switches cells) o)) w ∙ to_owner e.node NoLink is refl u) (0, refl)
      ] refl

  -- it comes to the owner
  pub brought : (e : EndPort) → Contains (end_ports cells) e → Meets cells e owner → IsBrought cells held lid e (Some (Taken owner))
  brought e listed lies =
      let far = far_of cells e.node e.port in
      elim (index_in (switches cells) e.node) as (λ o. index_in (switches cells) e.node ≡ o → Comes (sent owners e o far)) [
        | Some i ↦ λ k. by_switch e i listed (index_is (switches cells) e.node i k) lies
        | None ↦ λ k.
            let apart : is_usable cells e.node ≡ false =
            false_from_ne_true (is_usable cells e.node) (λ u. index_there (switches cells) e.node (usable_switch facts e.node u) k) in
            elim (is_owner owners e) as (λ t. is_owner owners e ≡ t → Comes (cond t (Ends (Taken e)) (over owners e.node NoLink far))) [
              | true ↦ λ h. (0, ap (λ x. Ends (Taken x)) (only_owner e h))
              | false ↦ λ h. by_adapter e apart h lies
            ] refl
      ] refl
