-- The plan of a view delivers from each switch from which some tables can: a way of theirs stays in the component of
-- the end port's attachment.
use Rattle.std.proofs.Common.{◌≡◌, ℕ, zero, suc, ◌≤◌, ◌<◌, ◌==◌, Bool, true, false, cond, List, [], ◌∷◌, length, Option, None, Some, refl, sym, ap, ◌∙◌, subst}
use Rattle.std.proofs.Common.{arith, inl, inr}
use Rattle.std.specs.Prelude.{Contains, option_map, slice_get, slice_index_or}
use Rattle.std.specs.Option.{option_map_or}
use Rattle.std.specs.List.{find}
use Rattle.std.proofs.lemmas.Bool.{and_parts, cases_lt}
use Rattle.std.proofs.lemmas.List.{get_or_past, length-map}
use Rattle.std.proofs.lemmas.List.FromFn.{get_or-map-range_with_len, length-map-range_with_len}
use Rattle.std.proofs.lemmas.Option.{same_Some, slice_get-get_or}
use Rattle.fact_store.specs.View.{Facts, cells_of, AreInRange}
use Rattle.port_graph.specs.declared.edge.Edge.{Edge}
use Rattle.port_graph.proofs.Lists.{contains_mapped}
use Rattle.subnet_view.specs.declared.end_port.EndPort.{EndPort}
use Rattle.subnet_view.specs.EndPort.{end_ports}
use Rattle.subnet_view.specs.Reading.{Cells, is_switch_node, is_usable, switches}
use Rattle.subnet_view.specs.Wires.{across, attached}
use Rattle.subnet_view.specs.SwitchEdges.{SwitchEdges}
use Rattle.subnet_view.specs.Graph.{edges_at, graph_of}
use Rattle.subnet_view.specs.GraphLaws.{IsGraph, IsSwitch}
use Rattle.subnet_view.specs.Components.{in_one_component}
use Rattle.subnet_view.proofs.Attachments.{attached_law}
use Rattle.subnet_view.proofs.Components.{component_itself, component_trans, joined, walk_joins}
use Rattle.subnet_view.proofs.EdgeLists.{has_end}
use Rattle.subnet_view.proofs.Graphs.{graph_law, wire_end, wire_is_edge}
use Rattle.subnet_view.proofs.GraphSwitches.{graph_guids, switch_usable, usable_switch}
use Rattle.subnet_view.proofs.Members.{contains_here, contains_later}
use Rattle.subnet_view.proofs.UsableSwitches.{usable_law}
use Rattle.subnet_view.proofs.WireEnds.{across_back, linked}
use Rattle.subnet_view.proofs.WireLaws.{wire_law}
use Rattle.lid_assign.specs.Lids.{IsNoRoom, Given, has_number, lids, owner_of, top_of}
use Rattle.lid_assign.proofs.LidLaws.{lids_law}
use Rattle.subnet_view.specs.Wires.{attachment_of}
use Rattle.lft_blocks.specs.Rule.{RuleValue}
use Rattle.held_tables.specs.declared.held.HeldLid.{HeldLid}
use Rattle.held_tables.specs.Held.{HeldPlan, nothing_held}
use Rattle.held_tables.specs.declared.far_end.Far.{Far}
use Rattle.held_tables.specs.declared.far_end.Far.TheVariants.{Nothing, Port, Switch}
use Rattle.held_tables.specs.Switches.{far_at, far_of, far_to, index_in, row_of}
use Rattle.held_tables.specs.Tables.{entry_for, is_owner, owners_of}
use Rattle.plan_tables.proofs.HeldPlans.{made}
use Rattle.packet_walks.specs.declared.cause.Cause.{Cause}
use Rattle.packet_walks.specs.declared.cause.Cause.TheVariants.{Foreign}
use Rattle.packet_walks.specs.declared.packet_end.End.TheVariants.{Lost, Taken}
use Rattle.packet_walks.specs.declared.next_hop.NextHop.{NextHop}
use Rattle.packet_walks.specs.declared.next_hop.NextHop.TheVariants.{To, Ends}
use Rattle.packet_walks.specs.HopsByTables.{at_port, by_entry, cause_of, next_hops_of, over}
use Rattle.packet_walks.specs.EndsBySwitch.{after}
use Rattle.packet_walks.proofs.Ended.{after_ended}
use Rattle.packet_walks.proofs.FabricParts.{index_there}
use Rattle.packet_walks.proofs.Judged.{same_itself}
use Rattle.packet_walks.proofs.OwnerLines.{owner_line}
use Rattle.plan_tables.proofs.PlanPackets.{from_switch}
use Rattle.plan_tables.proofs.OwnedLids.{line_owned}
use Rattle.packet_walks.proofs.EntrySteps.{contains_at, index_is}
use Rattle.next_tables.specs.SettledRule.{step_at}
use Rattle.next_tables.proofs.Entries.{at_mapped, member}
use Rattle.next_tables.proofs.Mixtures.{in_range}
use Rattle.next_tables.proofs.Steps.{at_index}
use Rattle.table_laws.specs.StepEnds.{DeliversWhatTablesCan, PlansDeliverWhatTablesCan}

-- what a step says of the far end of a wire ----------------------------------------------------------------

same_far : (k j : ℕ) → ◌≡◌ {A = NextHop} (To k) (To j) → k ≡ j
same_far k j e = cc

-- where a port leads on to a switch
leads_to : (cells : Cells) (g p j : ℕ) (owners : List EndPort) (cause : Cause) (far : Far) → far_of cells g p ≡ far → over owners g cause far ≡ To j
    → (q : ℕ × ℕ) × (across cells g p ≡ Some q) × (slice_get (switches cells) j ≡ Some q.0)
leads_to cells g p j owners cause Nothing is h = absurd (cc)
leads_to cells g p j owners cause (Port e) is h = absurd (cc)
leads_to cells g p j owners cause (Switch k) is h =
    (elim (across cells g p) as (λ o. far_to (switches cells) o ≡ Switch k
    → (q : ℕ × ℕ) × (o ≡ Some q) × (slice_get (switches cells) j ≡ Some q.0)) [
      | None ↦ λ f. absurd (cc)
      | Some q ↦ λ f. (elim (index_in (switches cells) q.0) as (λ o. index_in (switches cells) q.0 ≡ o → far_at q o ≡ Switch k
          → (x : ℕ × ℕ) × (Some q ≡ Some x) × (slice_get (switches cells) j ≡ Some x.0)) [
            | None ↦ λ at over_is. absurd (cc)
            | Some m ↦ λ at over_is.
                let here : m ≡ j = cc in
                (q, refl, ap (slice_get (switches cells)) (sym here) ∙ index_is (switches cells) q.0 m at)
          ] refl f)
    ]) is

-- and where to the end port
taken_there : (owners : List EndPort) (e port : EndPort) → ◌≡◌ {A = NextHop} (Ends (at_port owners e)) (Ends (Taken port)) → e ≡ port
taken_there owners e port h =
    elim (is_owner owners e) as (λ t. ◌≡◌ {A = NextHop} (Ends (cond t (Taken e) (Lost e.node Foreign))) (Ends (Taken port)) → e ≡ port) [
      | true ↦ λ k. cc
      | false ↦ λ k. absurd (cc)
    ] h

leads_home : (cells : Cells) (g p : ℕ) (owners : List EndPort) (cause : Cause) (port : EndPort) (far : Far) → far_of cells g p ≡ far
    → over owners g cause far ≡ Ends (Taken port)
    → (across cells g p ≡ Some (port.node, port.port)) × (index_in (switches cells) port.node ≡ None)
leads_home cells g p owners cause port Nothing is h = absurd (cc)
leads_home cells g p owners cause port (Switch k) is h = absurd (cc)
leads_home cells g p owners cause port (Port e) is h =
    let home : e ≡ port = taken_there owners e port h in
    (elim (across cells g p) as (λ o. far_to (switches cells) o ≡ Port e
    → (o ≡ Some (port.node, port.port)) × (index_in (switches cells) port.node ≡ None)) [
      | None ↦ λ f. absurd (cc)
      | Some q ↦ λ f. (elim (index_in (switches cells) q.0) as (λ o. index_in (switches cells) q.0 ≡ o → far_at q o ≡ Port e
          → (Some q ≡ Some (port.node, port.port)) × (index_in (switches cells) port.node ≡ None)) [
            | Some m ↦ λ at over_is. absurd (cc)
            | None ↦ λ at over_is.
                let far : ◌≡◌ {A = EndPort} (record { node = q.0; port = q.1 }) port = cc in
                ((λ i. Some (let x = far i in (x.node, x.port))), subst (λ (x : EndPort). index_in (switches cells) x.node ≡ None) far at)
          ] refl f)
    ]) is

true_not_false : true ≡ false → ⊥
true_not_false e = cc

-- the row of a node has what its ports have
row_far : (cells : Cells) (g p : ℕ) → p < 255 → slice_index_or (row_of cells g) p Nothing ≡ far_of cells g p
row_far cells g p less = get_or-map-range_with_len (far_of cells g) 0 255 p p Nothing less (omega arith)

row_past : (cells : Cells) (g p : ℕ) → 255 ≤ p → slice_index_or (row_of cells g) p Nothing ≡ Nothing
row_past cells g p more = get_or_past (row_of cells g) p Nothing (omega (arith, length-map-range_with_len (far_of cells g) 0 255))

find_listed : {X : Type 0} (p : X → Bool) (xs : List X) (x : X) → find p xs ≡ Some x → Contains xs x
find_listed p [] x e = absurd (cc)
find_listed p (y ∷ xs) x e =
    elim (p y) as (λ t. cond t (Some y) (find p xs) ≡ Some x → Contains (y ∷ xs) x) [
      | true ↦ λ k. subst (λ z. Contains (y ∷ xs) z) (same_Some y x k) (contains_here y xs)
      | false ↦ λ k. contains_later y x xs (find_listed p xs x k)
    ] e

-- an owner of a LID is an end port
pub owner_listed : (lmc : ℕ) (facts : Facts) → ¬ (IsNoRoom lmc (cells_of facts)) → (lid : ℕ) (e : EndPort) → owner_of (lids lmc (cells_of facts)) lid ≡ Some e
    → Contains (end_ports (cells_of facts)) e
owner_listed lmc facts has_room lid e is =
    let given : Given = lids lmc (cells_of facts) in
    let are = lids_law lmc facts has_room in
    (elim (find (has_number given.lmc lid) given.ports) as (λ o. find (has_number given.lmc lid) given.ports ≡ o → option_map (λ x. x.0) o ≡ Some e
    → Contains (end_ports (cells_of facts)) e) [
      | None ↦ λ f k. absurd (cc)
      | Some x ↦ λ f k.
          subst (λ z. Contains (end_ports (cells_of facts)) z) (same_Some x.0 e k)
          (subst (λ (es : List EndPort). Contains es x.0) are.end_ports_in_order
          (contains_mapped (λ (y : EndPort × ℕ). y.0) given.ports x (find_listed (has_number given.lmc lid) given.ports x f)))
    ]) refl is

module _ (by : RuleValue) (lmc : ℕ) (facts : Facts) (range : AreInRange facts) (has_room : ¬ (IsNoRoom lmc (cells_of facts)))
    (top : ℕ) (top_is : top_of (lids lmc (cells_of facts)) ≡ Some top)
    (line : HeldLid) (is_held : Contains (made by lmc (cells_of facts) top).lids line) where
  abbrev cells : Cells
  cells = cells_of facts

  abbrev graph : List SwitchEdges
  graph = graph_of cells

  abbrev good : IsGraph graph
  good = graph_law facts

  abbrev port : EndPort
  port = line.port

  abbrev guid : ℕ → ℕ
  guid i = slice_index_or (switches cells) i 0

  abbrev count : ℕ
  count = length (switches cells)

  is_end : Contains (end_ports cells) port
  is_end = owner_listed lmc facts has_room line.lid port (line_owned lmc facts has_room line is_held)

  there_at : (i : ℕ) → i < count → slice_get (switches cells) i ≡ Some (guid i)
  there_at i less = slice_get-get_or (switches cells) i 0 less

  is_switch : (i : ℕ) → i < count → IsSwitch graph (guid i)
  is_switch i less = subst (λ (xs : List ℕ). Contains xs (guid i)) (sym (graph_guids cells)) (member (switches cells) i less)

  -- the switch at an index is in the component of the end port's attachment
  record IsNear (i : ℕ) : Type 0 where
    attachment : ℕ × ℕ
    attachment_is : attachment_of cells port ≡ Some attachment
    together : in_one_component graph (guid i) attachment.0 ≡ true

  -- a switch that takes the packet, or sends it to the end port
  near_itself : (i : ℕ) → i < count → guid i ≡ port.node → port.port ≡ 0 → IsNear i
  near_itself i less is zeroth = record {
    attachment = (port.node, 0);
    attachment_is = ap (λ t. cond t (Some (port.node, 0)) (attached cells port.node port.port))
        (subst (λ (g : ℕ). is_usable cells g ≡ true) is (switch_usable facts (guid i) (member (switches cells) i less)));
    together = subst (λ (g : ℕ). in_one_component graph (guid i) g ≡ true) is (component_itself graph good (guid i) (is_switch i less));
  }

  near_wire : (i p : ℕ) → i < count → across cells (guid i) p ≡ Some (port.node, port.port) → index_in (switches cells) port.node ≡ None → IsNear i
  near_wire i p less wire none =
      let g = guid i in
      let back : across cells port.node port.port ≡ Some (g, p) = across_back cells g p (port.node, port.port) wire in
      let its = linked cells port.node port.port (g, p) back in
      let end = wire_end cells port.node port.port its.here in
      let unusable : is_usable cells port.node ≡ false =
      (elim (is_usable cells port.node) as (λ t. is_usable cells port.node ≡ t → t ≡ false) [
        | true ↦ λ u. absurd (index_there (switches cells) port.node (usable_switch facts port.node u) none)
        | false ↦ λ u. refl
      ] refl) in
      let no_switch : is_switch_node cells port.node ≡ false =
      (elim (is_switch_node cells port.node) as (λ t. is_switch_node cells port.node ≡ t → t ≡ false) [
        | true ↦ λ s. absurd (true_not_false (sym (end.usable s) ∙ unusable))
        | false ↦ λ s. refl
      ] refl) in
      let usable = switch_usable facts g (member (switches cells) i less) in
      record {
        attachment = (g, p);
        attachment_is = ap (λ t. cond t (Some (port.node, 0)) (attached cells port.node port.port)) unusable
            ∙ (attached_law cells port.node port.port g p).1 (record {
              not_a_switch = no_switch;
              wire = (wire_law cells port.node port.port g p).0 back;
              to_switch = (usable_law cells g).0 usable;
            });
        together = component_itself graph good g (is_switch i less);
      }

  -- so is one from which a wire leads to such a one
  near_over : (i j p : ℕ) → i < count → (q : ℕ × ℕ) × (across cells (guid i) p ≡ Some q) × (slice_get (switches cells) j ≡ Some q.0) → IsNear j → IsNear i
  near_over i j p less (q, wire, at) near =
      let g = guid i in
      let to : guid j ≡ q.0 = at_index (switches cells) j q.0 0 at in
      let usable = switch_usable facts q.0 (contains_at (switches cells) j q.0 at) in
      let e : Edge = record { port = p; to = q.0 } in
      let edge = has_end (edges_at graph g) e
      (wire_is_edge cells g p q.0 (member (switches cells) i less)
      (record { end_port = q.1; wire = wire; is_switch = (and_parts (is_switch_node cells q.0) _ usable).0 })) in
      let w = walk_joins graph good 1 g q.0 (is_switch i less) (q.0, edge, refl) in
      let one : in_one_component graph g (guid j) ≡ true = subst (λ (h : ℕ). in_one_component graph g h ≡ true) (sym to) (joined graph good g q.0 w.0 w.1) in
      record {
        attachment = near.attachment;
        attachment_is = near.attachment_is;
        together = component_trans graph good g (guid j) near.attachment.0 (is_switch i less) one near.together;
      }

  module _ (tables : HeldPlan) where
    abbrev hops : List NextHop
    hops = next_hops_of cells tables line.lid

    abbrev owners : List EndPort
    owners = owners_of tables line.lid

    abbrev why : ℕ → Cause
    why g = cause_of cells tables line.lid g

    -- what the step of a switch says
    abbrev Says : ℕ → NextHop → Type 0
    Says i s = step_at cells tables line.lid (guid i) ≡ s

    near_home : (i p : ℕ) → i < count → by_entry owners (guid i) (why (guid i)) (row_of cells (guid i)) p ≡ Ends (Taken port) → IsNear i
    near_home i p less h =
        elim (p == 0) as (λ t. (p == 0) ≡ t
        → cond t (Ends (Taken (record { node = guid i; port = 0 }))) (over owners (guid i) (why (guid i)) (slice_index_or (row_of cells (guid i)) p Nothing))
        ≡ Ends (Taken port) → IsNear i) [
          | true ↦ λ z k.
              let own : ◌≡◌ {A = EndPort} (record { node = guid i; port = 0 }) port = cc in
              near_itself i less (ap (λ (x : EndPort). x.node) own) (sym (ap (λ (x : EndPort). x.port) own))
          | false ↦ λ z k. (elim (cases_lt p 255) [
            | inl small ↦
                let home = leads_home cells (guid i) p owners (why (guid i)) port (far_of cells (guid i) p) refl
                (ap (over owners (guid i) (why (guid i))) (sym (row_far cells (guid i) p small)) ∙ k) in
                near_wire i p less home.0 home.1
            | inr more ↦
                let lost : over owners (guid i) (why (guid i)) Nothing ≡ Ends (Taken port) =
                ap (over owners (guid i) (why (guid i))) (sym (row_past cells (guid i) p more)) ∙ k in
                absurd (cc)
          ])
        ] refl h

    near_on : (i j p : ℕ) → i < count → by_entry owners (guid i) (why (guid i)) (row_of cells (guid i)) p ≡ To j → IsNear j → IsNear i
    near_on i j p less h near =
        elim (p == 0) as (λ t. cond t (Ends (Taken (record { node = guid i; port = 0 })))
        (over owners (guid i) (why (guid i)) (slice_index_or (row_of cells (guid i)) p Nothing)) ≡ To j → IsNear i) [
          | true ↦ λ k. absurd (cc)
          | false ↦ λ k. (elim (cases_lt p 255) [
            | inl small ↦
                near_over i j p less (leads_to cells (guid i) p j owners (why (guid i)) (far_of cells (guid i) p) refl
                (ap (over owners (guid i) (why (guid i))) (sym (row_far cells (guid i) p small)) ∙ k)) near
            | inr more ↦
                let lost : over owners (guid i) (why (guid i)) Nothing ≡ To j =
                ap (over owners (guid i) (why (guid i))) (sym (row_past cells (guid i) p more)) ∙ k in
                absurd (cc)
          ])
        ] h

    stepped_to : (i n : ℕ) → i < count → ((j : ℕ) → j < count → after n hops (To j) ≡ Ends (Taken port) → IsNear j) → (s : NextHop) → Says i s
        → after n hops s ≡ Ends (Taken port) → IsNear i
    stepped_to i n less near (To j) is k =
        let within = in_range hops n j (Taken port) k in
        let j_less : j < count = omega (arith, within, length-map (switches cells) (step_at cells tables line.lid)) in
        near_on i j (entry_for tables line.lid (guid i)) less is (near j j_less k)
    stepped_to i n less near (Ends e) is k = near_home i (entry_for tables line.lid (guid i)) less (is ∙ sym (after_ended n hops e) ∙ k)

    near_by : (n i : ℕ) → i < count → after n hops (To i) ≡ Ends (Taken port) → IsNear i
    near_by zero i less h = absurd (cc)
    near_by (suc n) i less h =
        let g = guid i in
        let on : after n hops (step_at cells tables line.lid g) ≡ Ends (Taken port) =
        sym (ap (after n hops) (at_mapped (step_at cells tables line.lid) (switches cells) i (To i) less)) ∙ h in
        stepped_to i n less (λ j j_less k. near_by n j j_less k) (step_at cells tables line.lid g) refl on

    pub plan_does : (i n : ℕ) → after n hops (To i) ≡ Ends (Taken port)
        → (m : ℕ) × (after m (next_hops_of cells (made by lmc cells top) line.lid) (To i) ≡ Ends (Taken port))
    plan_does i n h =
        let within = in_range hops n i (Taken port) h in
        let less : i < count = omega (arith, within, length-map (switches cells) (step_at cells tables line.lid)) in
        let near = near_by n i less h in
        from_switch by lmc facts range has_room top top_is line is_held is_end near.attachment near.attachment_is (guid i) i (there_at i less) near.together

pub plans_deliver_what_tables_can : PlansDeliverWhatTablesCan
plans_deliver_what_tables_can by lmc facts range has_room =
    let cells = cells_of facts in
    let told : Option ℕ → HeldPlan = λ o. option_map_or (λ top. made by lmc cells top) o nothing_held in
    elim (top_of (lids lmc cells)) as (λ o. top_of (lids lmc cells) ≡ o → DeliversWhatTablesCan cells (told o)) [
      | None ↦ λ e tables line kept i n h. absurd (nobody line.lid line.port kept.in_plan)
      | Some top ↦ λ e tables line kept i n h.
          let held = made by lmc cells top in
          let owner : is_owner (owners_of held line.lid) line.port ≡ true =
          ap (λ (es : List EndPort). is_owner es line.port) kept.in_plan ∙ first_owner line.port in
          let l = owner_line held line.lid line.port owner in
          let same : l.line ≡ line = (λ j. record { lid = l.lid_is j; port = l.port_is j }) in
          plan_does by lmc facts range has_room top e line (subst (λ (x : HeldLid). Contains held.lids x) same l.is_held) tables i n h
    ] refl
  where
    first_owner : (port : EndPort) → is_owner (port ∷ []) port ≡ true
    first_owner port = rw (same_itself port) refl

    nobody : (lid : ℕ) (port : EndPort) → owners_of nothing_held lid ≡ port ∷ [] → ⊥
    nobody lid port e = cc
