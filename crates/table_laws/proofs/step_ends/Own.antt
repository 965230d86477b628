-- In the end the tables are the plan's, if no switch held a greater top.
use Rattle.std.proofs.Common.{◌≡◌, ◌≤◌, ◌+◌, ◌*◌, ℕ, zero, suc, true, false, cond, List, [], ◌∷◌, Option, None, Some, refl, sym, ap, ◌∙◌, subst, arith, inl}
use Rattle.std.proofs.Common.{inr}
use Rattle.std.specs.Prelude.{Contains, ◌++◌, flat_map, map, option_and_then, slice_get, unwrap_or, ◌==◌}
use Rattle.std.specs.List.{range_with_len}
use Rattle.std.specs.Option.{option_map_or}
use Rattle.std.proofs.lemmas.Bool.{eqb-true}
use Rattle.fact_store.specs.View.{Facts, cells_of, AreInRange}
use Rattle.port_graph.specs.declared.edge.Edge.{Edge}
use Rattle.subnet_view.specs.declared.end_port.EndPort.{EndPort}
use Rattle.subnet_view.specs.EndPort.{end_ports}
use Rattle.subnet_view.specs.Reading.{Cells, switches}
use Rattle.subnet_view.specs.SwitchEdges.{SwitchEdges}
use Rattle.subnet_view.specs.Graph.{edges_at, graph_of}
use Rattle.subnet_view.specs.GraphLaws.{IsGraph, IsSwitch}
use Rattle.subnet_view.specs.Components.{in_one_component}
use Rattle.subnet_view.specs.Routing.{FollowsRule, Passes, Routing}
use Rattle.subnet_view.proofs.Components.{component_itself, component_trans, joined, walk_joins}
use Rattle.subnet_view.proofs.EdgeLists.{has_end}
use Rattle.subnet_view.proofs.Graphs.{graph_law}
use Rattle.subnet_view.proofs.GraphSwitches.{graph_guids}
use Rattle.lid_assign.specs.Lids.{IsNoRoom, lids, owner_of, top_of as greatest_of}
use Rattle.subnet_view.specs.Wires.{attachment_of}
use Rattle.lft_blocks.specs.Entries.{block_count, port_to}
use Rattle.lft_blocks.specs.Plan.{PlanValue, SwitchTable, plan_of, lid_routing}
use Rattle.lft_blocks.specs.PlanText.{lids_text, table_text}
use Rattle.lft_blocks.specs.Rule.{RuleValue}
use Rattle.lft_blocks.proofs.HeldEntries.{entry_by_attachment, entry_of as planned_entry}
use Rattle.lft_blocks.proofs.RulesRoute.{lids_are_routed}
use Rattle.held_tables.specs.declared.held.HeldLid.{HeldLid}
use Rattle.held_tables.specs.Held.{HeldPlan, nothing_held}
use Rattle.plan_tables.specs.PlanTables.{blocks_of, held_plan, with_top}
use Rattle.tables_file.specs.Reading.{held_of}
use Rattle.tables_file.specs.PrintedTables.{next_text}
use Rattle.plan_tables.proofs.NextPorts.{lid_has_cost}
use Rattle.plan_tables.proofs.OwnedLids.{line_owned, owner_listed as owner_has_line}
use Rattle.tables_file.proofs.TablesText.{tables_are_text}
use Rattle.held_tables.specs.Tables.{entry_for, is_owner, owners_of, top_of}
use Rattle.plan_tables.proofs.HeldPlans.{entry_counts, made, top_of_switch}
use Rattle.packet_walks.specs.declared.packet_end.End.TheVariants.{Taken}
use Rattle.packet_walks.specs.declared.next_hop.NextHop.TheVariants.{To, Ends}
use Rattle.packet_walks.specs.HopsByTables.{next_hops_of}
use Rattle.packet_walks.specs.EndsBySwitch.{after}
use Rattle.packet_walks.proofs.Judged.{same_itself}
use Rattle.packet_walks.proofs.OwnerLines.{line_owner, owner_line}
use Rattle.plan_tables.proofs.PlanPackets.{attachment_there, from_switch}
use Rattle.packet_walks.proofs.EntrySteps.{contains_at}
use Rattle.next_tables.specs.NextTables.{StepRuleValue, next_at, next_switch, next_table, next_tables, next_top}
use Rattle.next_run.specs.NextRun.{step_rule}
use Rattle.next_tables.proofs.Whole.{entry_next, top_next}
use Rattle.table_laws.specs.StepEnds.{LastTextIsThePlans}
use Rattle.table_laws.proofs.step_ends.Alone.{each_alone}
use Rattle.table_laws.proofs.step_ends.Last.{AreLast, EachAlone, way_or_none}
use Rattle.table_laws.proofs.step_ends.Reached.{owner_listed}
use Rattle.table_laws.proofs.step_ends.Steps.{in_the_end, steps}
use Rattle.next_run.proofs.SameTables.{same_mapped, table_by}
use Rattle.table_laws.proofs.step_ends.Texts.{printed_is}

-- a way by wires stays in a component
stays_in_one : (graph : List SwitchEdges) → IsGraph graph → (rule : Routing) (lid t : ℕ) (es : List Edge) (s : ℕ) → IsSwitch graph s
    → FollowsRule rule lid t s es → Passes graph s es → in_one_component graph s t ≡ true
stays_in_one graph good rule lid t [] s is_s follows passes =
    subst (λ (x : ℕ). in_one_component graph s x ≡ true) follows (component_itself graph good s is_s)
stays_in_one graph good rule lid t (e ∷ es) s is_s (apart, next, follows) (there, passes) =
    let neighbor = has_end (edges_at graph s) e there in
    let is_e = good.leads_to_switch s e.to neighbor in
    let w = walk_joins graph good 1 s e.to is_s (e.to, neighbor, refl) in
    component_trans graph good s e.to t is_s (joined graph good s e.to w.0 w.1) (stays_in_one graph good rule lid t es e.to is_e follows passes)

mapped_twice : {X Y Z : Type 0} (f : Y → Z) (h : X → Y) (xs : List X) → map f (map h xs) ≡ map (λ x. f (h x)) xs
mapped_twice f h [] = refl
mapped_twice f h (x ∷ xs) = ap (λ zs. f (h x) ∷ zs) (mapped_twice f h xs)

not_both : true ≡ false → ⊥
not_both e = cc

module _ (by : RuleValue) (lmc : ℕ) (facts : Facts) (range : AreInRange facts) (has_room : ¬ (IsNoRoom lmc (cells_of facts)))
    (top : ℕ) (top_is : greatest_of (lids lmc (cells_of facts)) ≡ Some top) where
  abbrev cells : Cells
  cells = cells_of facts

  abbrev graph : List SwitchEdges
  graph = graph_of cells

  abbrev rule : Routing
  rule = lid_routing by lmc cells (lids lmc cells)

  abbrev P : HeldPlan
  P = made by lmc cells top

  abbrev own_entry : ℕ → ℕ → ℕ
  own_entry g lid = planned_entry rule lmc cells g lid

  is_switch : (i g : ℕ) → slice_get (switches cells) i ≡ Some g → IsSwitch graph g
  is_switch i g at = subst (λ (xs : List ℕ). Contains xs g) (sym (graph_guids cells)) (contains_at (switches cells) i g at)

  -- the line of an owner
  line_of : (lid : ℕ) (x : EndPort) → is_owner (owners_of P lid) x ≡ true → Contains P.lids (record { lid = lid; port = x })
  line_of lid x owner =
      let l = owner_line P lid x owner in
      let same : l.line ≡ (record { lid = lid; port = x }) = (λ j. record { lid = l.lid_is j; port = l.port_is j }) in
      subst (λ (y : HeldLid). Contains P.lids y) same l.is_held

  -- where the plan does not deliver it has no entry
  none_there : (lid : ℕ) (x : EndPort) (is_held : Contains P.lids (record { lid = lid; port = x })) (i g : ℕ) → slice_get (switches cells) i ≡ Some g
      → ((n : ℕ) × (after n (next_hops_of cells P lid) (To i) ≡ Ends (Taken x)) → ⊥) → own_entry g lid ≡ 255
  none_there lid x is_held i g at none =
      let owner : owner_of (lids lmc cells) lid ≡ Some x = line_owned lmc facts has_room (record { lid = lid; port = x }) is_held in
      let is_end : Contains (end_ports cells) x = owner_listed lmc facts has_room lid x owner in
      let is_g = is_switch i g at in
      (elim (attachment_of cells x) as (λ o. attachment_of cells x ≡ o → own_entry g lid ≡ 255) [
        | None ↦ λ e. ap (λ o. option_map_or (port_to rule.next lid g) o 255) (ap (option_and_then (attachment_of cells)) owner ∙ e)
        | Some a ↦ λ e.
            let its : in_one_component graph g a.0 ≡ true → ⊥ =
            λ one. none (from_switch by lmc facts range has_room top top_is (record { lid = lid; port = x }) is_held is_end a e g i at one) in
            entry_by_attachment rule lmc cells g lid x a owner e
            ∙ (elim (a.0 == g) as (λ t. (a.0 == g) ≡ t → cond t a.1 (unwrap_or (rule.next lid g a.0) 255) ≡ 255) [
              | true ↦ λ z.
                  absurd (its (subst (λ (h : ℕ). in_one_component graph g h ≡ true) (sym (eqb-true a.0 g z)) (component_itself graph (graph_law facts) g is_g)))
              | false ↦ λ z. (elim (rule.next lid g a.0) as (λ o. rule.next lid g a.0 ≡ o → unwrap_or o 255 ≡ 255) [
                | None ↦ λ k. refl
                | Some p ↦ λ k.
                    let is_a = attachment_there by lmc facts range has_room top top_is (record { lid = lid; port = x }) is_held is_end a e in
                    let has = lid_has_cost by lmc facts lid g a.0 p is_g is_a k in
                    let way = (lids_are_routed by lmc facts).leads lid g a.0 has.0 is_g has.1 in
                    absurd (its (stays_in_one graph (graph_law facts) rule lid a.0 way.edges g is_g way.by_rule way.passes))
              ] refl)
            ] refl)
      ]) refl

  module _ (alone : EachAlone P) where
    first_owner : (x : EndPort) (owners : List EndPort) → is_owner (x ∷ owners) x ≡ true
    first_owner x owners = rw (same_itself x) refl

    -- an entry that counts is the plan's
    counts : (i g lid : ℕ) (x : EndPort) → slice_get (switches cells) i ≡ Some g → is_owner (owners_of P lid) x ≡ true → entry_for P lid g ≡ own_entry g lid
    counts i g lid x at owner =
        entry_counts by lmc facts has_room top top_is g lid x (contains_at (switches cells) i g at)
        (line_owned lmc facts has_room (record { lid = lid; port = x }) (line_of lid x owner))

    nobodys_own : (g lid : ℕ) → owners_of P lid ≡ [] → 255 ≡ own_entry g lid
    nobodys_own g lid is =
        (elim (owner_of (lids lmc cells) lid) as (λ o. owner_of (lids lmc cells) lid ≡ o → 255 ≡ own_entry g lid) [
          | None ↦ λ e. sym (ap (λ o. option_map_or (port_to rule.next lid g) (option_and_then (attachment_of cells) o) 255) e)
          | Some x ↦ λ e.
              let line : HeldLid = record { lid = lid; port = x } in
              let owner : is_owner (owners_of P lid) x ≡ true = line_owner P line (owner_has_line lmc facts has_room x lid e) in
              absurd (not_both (sym owner ∙ ap (λ (os : List EndPort). is_owner os x) is))
        ] refl)

    -- the entries in which steps end are the plan's own
    own_at : (tables : HeldPlan) → AreLast cells P tables → (i g lid : ℕ) → slice_get (switches cells) i ≡ Some g → entry_for tables lid g ≡ own_entry g lid
    own_at tables last i g lid at =
        elim (alone lid) [
          | inl none ↦ last.nobodys lid none i g at ∙ nobodys_own g lid none
          | inr x ↦
              let owner : is_owner (owners_of P lid) x.0 ≡ true = ap (λ (os : List EndPort). is_owner os x.0) x.1 ∙ first_owner x.0 [] in
              (elim (way_or_none cells P lid x.0 i) [
                | inl way ↦ last.way lid x.0 x.1 i g at way ∙ counts i g lid x.0 at owner
                | inr none ↦ last.none lid x.0 x.1 i g at none ∙ sym (none_there lid x.0 (line_of lid x.0 owner) i g at none)
              ])
        ]

    module _ (T : ℕ → HeldPlan) (by_step : ℕ → StepRuleValue) (on : (n : ℕ) → T (suc n) ≡ next_tables cells (by_step n) (T n) P)
        (low : (g : ℕ) → Contains (switches cells) g → top_of (T 0) g ≤ top) where
      low_at : (n g : ℕ) → Contains (switches cells) g → top_of (T n) g ≤ top
      low_at zero g here = low g here
      low_at (suc n) g here =
          let own : top_of P g ≡ top = top_of_switch by lmc facts has_room top top_is g here in
          let next : top_of (T (suc n)) g ≡ next_top (T n) P g = ap (λ (t : HeldPlan). top_of t g) (on n) ∙ top_next cells (by_step n) (T n) P g here in
          omega (arith, low_at n g here, next, own)

      top_own : (n g : ℕ) → Contains (switches cells) g → next_top (T n) P g ≡ top
      top_own n g here =
          let own : top_of P g ≡ top = top_of_switch by lmc facts has_room top top_is g here in
          omega (arith, low_at n g here, own)

      entry_own : (k : ℕ) → AreLast cells P (T (suc k)) → (i g lid : ℕ) → slice_get (switches cells) i ≡ Some g
          → next_at cells (by_step k) (T k) P lid g ≡ own_entry g lid
      entry_own k last i g lid at =
          sym (entry_next cells (by_step k) (T k) P g lid (contains_at (switches cells) i g at))
          ∙ ap (λ (t : HeldPlan). entry_for t lid g) (sym (on k)) ∙ own_at (T (suc k)) last i g lid at

      -- a switch's table of the plan
      abbrev blocks_by : ℕ → Option ℕ → List (List ℕ)
      blocks_by g most_lid = map (λ b. map (λ i. own_entry g (64 * b + i)) (range_with_len 0 64)) (range_with_len 0 (block_count most_lid))

      abbrev own_table : ℕ → SwitchTable
      own_table g = record { guid = g; blocks = blocks_by g (greatest_of (lids lmc cells)) }

      made_own : (k : ℕ) → AreLast cells P (T (suc k)) → next_tables cells (by_step k) (T k) P ≡ P
      unfolding next_tables
      made_own k last =
          let switches_own = same_mapped (next_switch (T k) P) (λ g. record { guid = g; top = top }) (switches cells)
          (λ i g at. λ j. record { guid = g; top = top_own k g (contains_at (switches cells) i g at) j })
          ∙ sym (mapped_twice (with_top top) own_table (switches cells)) in
          let tables_own = same_mapped (next_table cells (by_step k) (T k) P) own_table (switches cells)
          (λ i g at. (λ j. table_by g (λ lid. entry_own k last i g lid at j)
          (top_own k g (contains_at (switches cells) i g at) j))
          ∙ (λ j. record { guid = g; blocks = blocks_by g (sym top_is j) })) in
          λ j. record { lids = P.lids; switches = switches_own j; blocks = blocks_of 0 (tables_own j) }

      pub is_own : (k : ℕ) → AreLast cells P (T (suc k)) → T (suc k) ≡ P
      is_own k last = on k ∙ made_own k last

pub last_text_is_the_plans : LastTextIsThePlans
last_text_is_the_plans rule lmc facts text zero top small range has_room top_is low are = absurd (omega (arith, are.enough, are.two))
last_text_is_the_plans rule lmc facts text (suc k) top small range has_room top_is low are =
    let cells = cells_of facts in
    let plan : PlanValue = plan_of rule lmc cells in
    let same : held_plan plan ≡ made rule lmc cells top = ap (λ o. option_map_or (λ t. made rule lmc cells t) o nothing_held) top_is in
    let T : ℕ → HeldPlan = λ n. steps rule lmc facts range has_room (held_of text) n in
    let alone = subst EachAlone same (each_alone rule lmc facts has_room) in
    let last = subst (λ (p : HeldPlan). AreLast cells p (T (suc k))) same (in_the_end rule lmc facts range has_room (held_of text) (suc k) are) in
    let own : T (suc k) ≡ made rule lmc cells top =
    is_own rule lmc facts range has_room top top_is alone T (λ n. step_rule rule facts (T n))
    (λ n. ap (λ (p : HeldPlan). next_tables cells (step_rule rule facts (T n)) (T n) p) same) low k last in
    printed_is rule lmc facts text small range has_room k
    ∙ ap (next_text plan.given) own
    ∙ ap (λ ts. lids_text plan.given ++ ts) (tables_are_text (λ g. top) 0 plan.tables)
    ∙ ap (λ o. lids_text plan.given ++ option_map_or (λ t. flat_map (table_text t) plan.tables) o []) (sym top_is)
