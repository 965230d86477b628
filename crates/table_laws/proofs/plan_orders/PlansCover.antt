-- A plan delivers from both of two switches with a wire between them, or from none.
use Rattle.std.proofs.Common.{◌≡◌, ℕ, zero, suc, ◌<◌, true, false, cond, List, [], ◌∷◌, length, Option, None, Some, refl, sym, ap, ◌∙◌, subst, arith}
use Rattle.std.specs.Prelude.{◌==◌, Contains, option_and_then, unwrap_or}
use Rattle.std.specs.Option.{option_map_or}
use Rattle.std.proofs.lemmas.Bool.{eqb-true}
use Rattle.fact_store.specs.View.{Facts, cells_of, AreInRange}
use Rattle.port_graph.specs.declared.edge.Edge.{Edge}
use Rattle.subnet_view.specs.EndPort.{end_ports}
use Rattle.subnet_view.specs.Reading.{Cells, switches}
use Rattle.subnet_view.specs.SwitchEdges.{SwitchEdges}
use Rattle.subnet_view.specs.Graph.{graph_of, edges_at as wires_at}
use Rattle.subnet_view.specs.GraphLaws.{IsGraph, IsSwitch}
use Rattle.subnet_view.specs.Components.{in_one_component}
use Rattle.subnet_view.specs.Routing.{FollowsRule, Passes, Routing}
use Rattle.subnet_view.proofs.Components.{component_itself, component_trans}
use Rattle.subnet_view.proofs.EdgeLists.{has_end}
use Rattle.subnet_view.proofs.Graphs.{graph_law}
use Rattle.subnet_view.proofs.Members.{contains_none}
use Rattle.lid_assign.specs.Lids.{IsNoRoom, lids, owner_of, top_of}
use Rattle.subnet_view.specs.Wires.{attachment_of}
use Rattle.lft_blocks.specs.Entries.{port_to}
use Rattle.lft_blocks.specs.Rule.{RuleValue}
use Rattle.lft_blocks.proofs.RulesRoute.{lids_are_routed}
use Rattle.held_tables.specs.declared.held.HeldLid.{HeldLid}
use Rattle.held_tables.specs.Held.{HeldPlan, nothing_held}
use Rattle.plan_tables.proofs.NextPorts.{lid_has_cost}
use Rattle.plan_tables.proofs.HeldPlans.{made, entry_counts}
use Rattle.held_tables.specs.Tables.{entry_for}
use Rattle.packet_walks.specs.declared.packet_end.End.TheVariants.{Taken}
use Rattle.packet_walks.specs.declared.next_hop.NextHop.{NextHop}
use Rattle.packet_walks.specs.declared.next_hop.NextHop.TheVariants.{To, Ends}
use Rattle.packet_walks.specs.HopsByTables.{next_hops_of}
use Rattle.packet_walks.specs.EndsBySwitch.{after}
use Rattle.packet_walks.proofs.Ended.{after_ended}
use Rattle.next_tables.specs.SettledRule.{step_at}
use Rattle.next_tables.proofs.Entries.{at_mapped, member}
use Rattle.next_tables.proofs.Mixtures.{in_range}
use Rattle.std.proofs.lemmas.List.{length-map}
use Rattle.next_tables.specs.SwitchPositions.{IsWired, switch_at}
use Rattle.next_tables.specs.OrderedStepLaws.{DeliverFrom}
use Rattle.table_laws.specs.PlanLaws.{PlansCover}
use Rattle.next_tables.proofs.Hops.{none_taken, none_to, placed}
use Rattle.table_laws.proofs.plan_orders.PlanOrders.{in_one, is_switch}
use Rattle.plan_tables.proofs.PlanPackets.{attachment_there, from_switch, owned}
use Rattle.table_laws.proofs.plan_orders.UpdownRight.{same_component}
use Rattle.lft_blocks.specs.Plan.{lid_routing}

-- a way by wires stays in a component
stays_in_one : (graph : List SwitchEdges) → IsGraph graph → (rule : Routing) (lid t : ℕ) (es : List Edge) (s : ℕ) → IsSwitch graph s → IsSwitch graph t
    → FollowsRule rule lid t s es → Passes graph s es → in_one_component graph s t ≡ true
stays_in_one graph good rule lid t [] s is_s is_t follows passes =
    subst (λ (x : ℕ). in_one_component graph s x ≡ true) follows (component_itself graph good s is_s)
stays_in_one graph good rule lid t (e ∷ es) s is_s is_t (apart, next, follows) (there, passes) =
    let neighbor = has_end (wires_at graph s) e there in
    let is_e = good.leads_to_switch s e.to neighbor in
    component_trans graph good s e.to t is_s (same_component graph good s e.to is_s neighbor)
    (stays_in_one graph good rule lid t es e.to is_e is_t follows passes)

-- with no entry a switch delivers nothing
no_delivery : (cells : Cells) (tables : HeldPlan) (line : HeldLid) (i : ℕ) → i < length (switches cells)
    → entry_for tables line.lid (switch_at cells i) ≡ 255 → DeliverFrom cells tables line i → ⊥
no_delivery cells tables line i less none d = by d.0 d.1
  where
    onwards : (s : NextHop) → step_at cells tables line.lid (switch_at cells i) ≡ s → (n : ℕ)
        → after n (next_hops_of cells tables line.lid) s ≡ Ends (Taken line.port) → ⊥
    onwards (To j) is_s n h = none_to cells tables line.lid (switch_at cells i) j none is_s
    onwards (Ends e) is_s n h =
        none_taken cells tables line.lid (switch_at cells i) line.port none (is_s ∙ sym (after_ended n (next_hops_of cells tables line.lid) e) ∙ h)

    by : (n : ℕ) → after n (next_hops_of cells tables line.lid) (To i) ≡ Ends (Taken line.port) → ⊥
    by zero h = absurd (cc)
    by (suc n) h =
        onwards (step_at cells tables line.lid (switch_at cells i)) refl n
        (sym (ap (after n (next_hops_of cells tables line.lid)) (at_mapped (step_at cells tables line.lid) (switches cells) i (To i) less)) ∙ h)

module _ (by : RuleValue) (lmc : ℕ) (facts : Facts) (range : AreInRange facts) (has_room : ¬ (IsNoRoom lmc (cells_of facts)))
    (top : ℕ) (top_is : top_of (lids lmc (cells_of facts)) ≡ Some top)
    (line : HeldLid) (is_held : Contains (made by lmc (cells_of facts) top).lids line) (is_end : Contains (end_ports (cells_of facts)) line.port) where
  abbrev tables : HeldPlan
  tables = made by lmc (cells_of facts) top

  abbrev rule : Routing
  rule = lid_routing by lmc (cells_of facts) (lids lmc (cells_of facts))

  abbrev graph : List SwitchEdges
  graph = graph_of (cells_of facts)

  owner_is : owner_of (lids lmc (cells_of facts)) line.lid ≡ Some line.port
  owner_is = owned by lmc facts range has_room top top_is line is_held is_end

  -- the entry that counts of a switch
  entry_is : (i : ℕ) → i < length (switches (cells_of facts)) → entry_for tables line.lid (switch_at (cells_of facts) i)
      ≡ option_map_or (port_to rule.next line.lid (switch_at (cells_of facts) i)) (attachment_of (cells_of facts) line.port) 255
  entry_is i less =
      entry_counts by lmc facts has_room top top_is (switch_at (cells_of facts) i) line.lid line.port (member (switches (cells_of facts)) i less) owner_is
      ∙ ap (λ o. option_map_or (port_to rule.next line.lid (switch_at (cells_of facts) i)) (option_and_then (attachment_of (cells_of facts)) o) 255) owner_is

  module _ (a : ℕ × ℕ) (a_is : attachment_of (cells_of facts) line.port ≡ Some a) where
    a_there : IsSwitch graph a.0
    a_there = attachment_there by lmc facts range has_room top top_is line is_held is_end a a_is

    -- where the plan delivers the switch is in the component of the attachment
    in_its : (j : ℕ) → j < length (switches (cells_of facts)) → DeliverFrom (cells_of facts) tables line j
        → in_one_component graph (switch_at (cells_of facts) j) a.0 ≡ true
    in_its j less d =
        let g = switch_at (cells_of facts) j in
        let is_g = is_switch facts j less in
        let entry : entry_for tables line.lid g ≡ cond (a.0 == g) a.1 (unwrap_or (rule.next line.lid g a.0) 255) =
        entry_is j less ∙ ap (λ o. option_map_or (port_to rule.next line.lid g) o 255) a_is in
        (elim (a.0 == g) as (λ t. (a.0 == g) ≡ t → entry_for tables line.lid g ≡ cond t a.1 (unwrap_or (rule.next line.lid g a.0) 255)
        → in_one_component graph g a.0 ≡ true) [
          | true ↦ λ same e.
              subst (λ (x : ℕ). in_one_component graph g x ≡ true) (sym (eqb-true a.0 g same)) (component_itself graph (graph_law facts) g is_g)
          | false ↦ λ apart e. (elim (rule.next line.lid g a.0) as (λ o. rule.next line.lid g a.0 ≡ o → entry_for tables line.lid g ≡ unwrap_or o 255
              → in_one_component graph g a.0 ≡ true) [
                | None ↦ λ none k. absurd (no_delivery (cells_of facts) tables line j less k d)
                | Some p ↦ λ next k.
                    let has = lid_has_cost by lmc facts line.lid g a.0 p is_g a_there next in
                    let way = (lids_are_routed by lmc facts).leads line.lid g a.0 has.0 is_g has.1 in
                    stays_in_one graph (graph_law facts) rule line.lid a.0 way.edges g is_g a_there way.by_rule way.passes
              ]) refl e
        ]) refl entry

    both : (i j : ℕ) → i < length (switches (cells_of facts)) → j < length (switches (cells_of facts)) → IsWired (cells_of facts) i j
        → DeliverFrom (cells_of facts) tables line j → DeliverFrom (cells_of facts) tables line i
    both i j i_less j_less wired d =
        let g = switch_at (cells_of facts) i in
        let h = switch_at (cells_of facts) j in
        let together = component_trans graph (graph_law facts) g h a.0 (is_switch facts i i_less) (in_one facts i j i_less j_less wired) (in_its j j_less d) in
        from_switch by lmc facts range has_room top top_is line is_held is_end a a_is g i (placed (switches (cells_of facts)) i i_less) together

  pub cover : (i j : ℕ) → i < length (switches (cells_of facts)) → IsWired (cells_of facts) i j
      → DeliverFrom (cells_of facts) tables line j → DeliverFrom (cells_of facts) tables line i
  cover i j i_less wired d =
      let within = in_range (next_hops_of (cells_of facts) tables line.lid) d.0 j (Taken line.port) d.1 in
      let j_less : j < length (switches (cells_of facts)) = omega (arith, within, length-map (switches (cells_of facts)) (step_at (cells_of facts) tables line.lid)) in
      (elim (attachment_of (cells_of facts) line.port) as (λ o. attachment_of (cells_of facts) line.port ≡ o → DeliverFrom (cells_of facts) tables line i) [
        | None ↦ λ none.
            let empty : entry_for tables line.lid (switch_at (cells_of facts) j) ≡ 255 =
            entry_is j j_less ∙ ap (λ o. option_map_or (port_to rule.next line.lid (switch_at (cells_of facts) j)) o 255) none in
            absurd (no_delivery (cells_of facts) tables line j j_less empty d)
        | Some a ↦ λ a_is. both a a_is i j i_less j_less wired d
      ]) refl

pub plans_cover : PlansCover
plans_cover by lmc facts range has_room line =
    let cells = cells_of facts in
    let told : Option ℕ → HeldPlan = λ o. option_map_or (λ top. made by lmc cells top) o nothing_held in
    elim (top_of (lids lmc cells)) as (λ o. top_of (lids lmc cells) ≡ o → Contains (told o).lids line → Contains (end_ports cells) line.port
    → (i j : ℕ) → i < length (switches cells) → IsWired cells i j → DeliverFrom cells (told o) line j → DeliverFrom cells (told o) line i) [
      | None ↦ λ e is_held. absurd (contains_none line is_held)
      | Some top ↦ λ e is_held is_end i j i_less wired d. cover by lmc facts range has_room top e line is_held is_end i j i_less wired d
    ] refl
