-- The channels of the plan of a view can be numbered so that the numbers rise on every way.
use Rattle.std.proofs.Common.{◌≡◌, ℕ, ◌+◌, ◌*◌, ◌/◌, ◌%◌, ◌<◌, false, List, [], ◌∷◌, length, get_or}
use Rattle.std.proofs.Common.{Option, None, Some, inl, inr, refl, sym, ap, ◌∙◌, subst, arith, ◌==◌}
use Rattle.std.specs.Prelude.{slice_get, slice_index_or, map, option_and_then, Contains}
use Rattle.std.specs.Option.{option_map_or}
use Rattle.std.specs.List.{range_with_len}
use Rattle.std.specs.List.Sorted.{IsStrictlyIncreasing}
use Rattle.std.proofs.lemmas.Bool.{cases_lt, eqb-false}
use Rattle.std.proofs.lemmas.List.FromFn.{get_or-map-range_with_len}
use Rattle.std.proofs.lemmas.Option.{same_Some, slice_get_within, slice_get-get_or}
use Rattle.fact_store.specs.View.{Facts, cells_of, AreInRange}
use Rattle.subnet_view.specs.Reading.{Cells, switches}
use Rattle.subnet_view.specs.Wires.{across}
use Rattle.subnet_view.specs.declared.end_port.EndPort.{EndPort}
use Rattle.port_graph.specs.declared.edge.Edge.{Edge}
use Rattle.lid_assign.specs.Lids.{IsNoRoom, greatest, lids, owner_of, top_of}
use Rattle.subnet_view.specs.Routing.{numbers_along, Routing, Leads, Passes, FollowsRule}
use Rattle.subnet_view.specs.SwitchEdges.{SwitchEdges}
use Rattle.subnet_view.specs.Graph.{graph_of}
use Rattle.subnet_view.specs.GraphLaws.{IsSwitch}
use Rattle.subnet_view.proofs.Graphs.{edge_is_wire}
use Rattle.subnet_view.proofs.GraphSwitches.{graph_guids}
use Rattle.subnet_view.specs.Wires.{attachment_of}
use Rattle.lft_blocks.specs.Entries.{port_to}
use Rattle.subnet_view.proofs.AttachmentSwitches.{attachment_is_switch}
use Rattle.lft_blocks.specs.Rule.{RuleValue, routing_by}
use Rattle.lft_blocks.proofs.RulesRoute.{rules_are_routings}
use Rattle.lft_blocks.specs.Plan.{plan_of, lid_routing}
use Rattle.held_tables.specs.Held.{HeldPlan, nothing_held}
use Rattle.plan_tables.specs.PlanTables.{held_plan}
use Rattle.plan_tables.proofs.NextPorts.{next_has_cost}
use Rattle.plan_tables.proofs.PlanRanges.{wire_small}
use Rattle.packet_walks.specs.Edges.{edge_by}
use Rattle.held_tables.specs.Switches.{row_of}
use Rattle.held_tables.specs.Tables.{counted, entry_for, top_of as top_held}
use Rattle.plan_tables.proofs.HeldPlans.{made, entry_counts, entry_held, top_of_switch}
use Rattle.packet_walks.proofs.Tops.{entry_above, no_edge_by, none_above, uncounted}
use Rattle.audit_channels.specs.ChannelOrders.{CanRise}
use Rattle.audit_channels.specs.Waiting.{WaitsFor}
use Rattle.packet_walks.proofs.EntrySteps.{contains_at, of_column, leaves}
use Rattle.plan_tables.proofs.PlanSteps.{on_way}
use Rattle.lft_blocks.specs.LidNumbers.{lid_numbers}

-- the number of a channel: the rule's, if its wire leads somewhere
abbrev number_at : Routing → Cells → ℕ → ℕ → ℕ
number_at rule cells g port = option_map_or (λ end. rule.channel g end.0) (across cells g port) 0

abbrev number_of : Routing → Cells → ℕ → ℕ
number_of rule cells channel = number_at rule cells (slice_index_or (switches cells) (channel / 256) 0) (channel % 256)

abbrev numbers : Routing → Cells → List ℕ
numbers rule cells = map (number_of rule cells) (range_with_len 0 (256 * length (switches cells)))

numbered : (rule : Routing) (cells : Cells) (i port g : ℕ) (end : ℕ × ℕ) → slice_get (switches cells) i ≡ Some g → port < 255 → across cells g port ≡ Some end
    → slice_index_or (numbers rule cells) (256 * i + port) 0 ≡ rule.channel g end.0
numbered rule cells i port g end at low wire =
    let channel = 256 * i + port in
    let within = slice_get_within (switches cells) i g at in
    let is : get_or (switches cells) i 0 ≡ g = same_Some (get_or (switches cells) i 0) g (sym (slice_get-get_or (switches cells) i 0 within) ∙ at) in
    let index : channel / 256 ≡ i = omega arith in
    let rest : channel % 256 ≡ port = omega arith in
    get_or-map-range_with_len (number_of rule cells) 0 (256 * length (switches cells)) channel channel 0 (omega arith) (omega arith)
    ∙ (λ k. number_at rule cells (slice_index_or (switches cells) (index k) 0) (rest k))
    ∙ ap (λ z. number_at rule cells z port) is
    ∙ ap (λ o. option_map_or (λ (q : ℕ × ℕ). rule.channel g q.0) o 0) wire

-- numbers rise from one port of the rule to the next
module _ (by : RuleValue) (facts : Facts) (lid t : ℕ) (t_there : Contains (switches (cells_of facts)) t) where
  abbrev cells : Cells
  cells = cells_of facts

  abbrev graph : List SwitchEdges
  graph = graph_of cells

  abbrev rule : Routing
  rule = routing_by by cells

  is_switch : (s : ℕ) → Contains (switches cells) s → IsSwitch graph s
  is_switch s h = subst (λ (xs : List ℕ). Contains xs s) (sym (graph_guids cells)) h

  -- if there is a next port, there is a way
  way_there : (s p : ℕ) → Contains (switches cells) s → rule.next lid s t ≡ Some p → (n : ℕ) × Leads graph rule lid s t n
  way_there s p there next =
      let (n, cost) = next_has_cost by facts lid s t p (is_switch s there) (is_switch t t_there) next in
      (n, (rules_are_routings by facts).leads lid s t n (is_switch s there) cost)

  edge_end : (s p : ℕ) (q : ℕ × ℕ) (e : Edge) → Passes graph s (e ∷ []) → rule.next lid s t ≡ Some e.port → rule.next lid s t ≡ Some p
      → across cells s p ≡ Some q → e.to ≡ q.0
  edge_end s p q e passes its next wire =
      let x = edge_is_wire cells s e passes.0 in
      let port : e.port ≡ p = same_Some e.port p (sym its ∙ next) in
      let end : ℕ × ℕ = (e.to, x.end_port) in
      ap (λ (y : ℕ × ℕ). y.0) (same_Some end q (sym x.wire ∙ ap (across cells s) port ∙ wire))

  along : (s p r : ℕ) (a b : ℕ × ℕ) (es : List Edge) → FollowsRule rule lid t s es → Passes graph s es
      → IsStrictlyIncreasing (numbers_along rule.channel s es) → (s == t) ≡ false → (a.0 == t) ≡ false
      → rule.next lid s t ≡ Some p → rule.next lid a.0 t ≡ Some r → across cells s p ≡ Some a → across cells a.0 r ≡ Some b
      → rule.channel s a.0 < rule.channel a.0 b.0
  along s p r a b [] follows passes rises apart past next then wire more = absurd (eqb-false s t apart follows)
  along s p r a b (e ∷ []) (_, its, end) passes rises apart past next then wire more =
      absurd (eqb-false a.0 t past (sym (edge_end s p a e (passes.0, tt) its next wire) ∙ end))
  along s p r a b (e ∷ d ∷ es) (_, its, (_, that, _)) (there, (further, _)) rises apart past next then wire more =
      let to : e.to ≡ a.0 = edge_end s p a e (there, tt) its next wire in
      let on = subst (λ (x : ℕ). Passes graph x (d ∷ [])) to (further, tt) in
      let end : d.to ≡ b.0 = edge_end a.0 r b d on (ap (λ x. rule.next lid x t) (sym to) ∙ that) then more in
      let less : rule.channel s e.to < rule.channel e.to d.to = rises 0 (omega arith) in
      subst (λ (x : ℕ × ℕ). rule.channel s x.0 < rule.channel x.0 x.1) (λ k. (to k, end k)) less

  pub rises : (s p r : ℕ) (a b : ℕ × ℕ) → Contains (switches cells) s → (s == t) ≡ false → (a.0 == t) ≡ false
      → rule.next lid s t ≡ Some p → rule.next lid a.0 t ≡ Some r → across cells s p ≡ Some a → across cells a.0 r ≡ Some b
      → rule.channel s a.0 < rule.channel a.0 b.0
  rises s p r a b there apart past next then wire more =
      let (n, way) = way_there s p there next in
      along s p r a b way.edges way.by_rule way.passes way.channels_rise apart past next then wire more

module _ (by : RuleValue) (lmc : ℕ) (facts : Facts) (range : AreInRange facts) (has_room : ¬ (IsNoRoom lmc (cells_of facts)))
    (top : ℕ) (top_is : top_of (lids lmc (cells_of facts)) ≡ Some top) where
  abbrev its_cells : Cells
  its_cells = cells_of facts

  abbrev its_rule : Routing
  its_rule = lid_routing by lmc its_cells (lids lmc its_cells)

  abbrev held : HeldPlan
  held = made by lmc its_cells top

  -- without an owner no switch has an entry
  abbrev edge : ℕ → ℕ → Option Edge
  edge lid g = edge_by (row_of its_cells g) (entry_for held lid g)

  no_entry : (lid g : ℕ) → Contains (switches its_cells) g → owner_of (lids lmc its_cells) lid ≡ None → entry_for held lid g ≡ 255
  no_entry lid g there none =
      elim (cases_lt top lid) [
        | inl above ↦ entry_above its_cells held lid g (omega (arith, above, top_of_switch by lmc facts has_room top top_is g there))
        | inr within ↦
            ap (counted lid (top_held held g))
            (entry_held by lmc facts has_room top top_is g lid there within
            ∙ ap (λ o. option_map_or (port_to its_rule.next lid g) (option_and_then (attachment_of its_cells) o) 255) none)
            ∙ uncounted lid (top_held held g)
      ]

  no_edge : (lid i : ℕ) (x : Edge) → owner_of (lids lmc its_cells) lid ≡ None → slice_index_or (map (edge lid) (switches its_cells)) i None ≡ Some x → ⊥
  no_edge lid i x none leaves =
      let (g, at, edges) = of_column (edge lid) (switches its_cells) i x leaves in
      let is : edge lid g ≡ None = no_edge_by its_cells g (entry_for held lid g) (no_entry lid g (contains_at (switches its_cells) i g at) none) in
      cc

  no_wire_at_255 : (g : ℕ) (q : ℕ × ℕ) → across its_cells g 255 ≡ Some q → ⊥
  no_wire_at_255 g q e = let small = (wire_small facts range g 255 q.0 q.1 e).0 in omega arith

  owned_rise : (a b : ℕ) (w : WaitsFor its_cells held a b) (e : EndPort) → owner_of (lids lmc its_cells) w.lid ≡ Some e
      → slice_index_or (numbers its_rule its_cells) a 0 < slice_index_or (numbers its_rule its_cells) b 0
  owned_rise a b w e owned =
      let lid = w.lid in
      let takes = w.takes in
      let (g, at, edges) = of_column (edge lid) (switches its_cells) w.switch takes.first takes.leaves in
      let (h, at_next, edges_next) = of_column (edge lid) (switches its_cells) takes.first.to takes.second takes.leaves_there in
      let first = leaves its_cells g (entry_for held lid g) takes.first edges in
      let second = leaves its_cells h (entry_for held lid h) takes.second edges_next in
      let here : first.end.0 ≡ h = same_Some first.end.0 h (sym first.index ∙ at_next) in
      let g_there = contains_at (switches its_cells) w.switch g at in
      let h_there = contains_at (switches its_cells) takes.first.to h at_next in
      let way = on_way its_rule lmc facts no_wire_at_255 lid e owned g (entry_for held lid g) first.end
      (sym (entry_counts by lmc facts has_room top top_is g lid e g_there owned)) first.wire
      (contains_at (switches its_cells) takes.first.to first.end.0 first.index) in
      let on = on_way its_rule lmc facts no_wire_at_255 lid e owned h (entry_for held lid h) second.end
      (sym (entry_counts by lmc facts has_room top top_is h lid e h_there owned)) second.wire
      (contains_at (switches its_cells) takes.second.to second.end.0 second.index) in
      let t = way.attachment.0 in
      let same : on.attachment ≡ way.attachment = same_Some on.attachment way.attachment (sym on.attachment_is ∙ way.attachment_is) in
      let apart : (first.end.0 == t) ≡ false = (λ k. here k == (sym same k).0) ∙ on.apart in
      let next = (λ k. its_rule.next lid (here k) (sym same k).0) ∙ on.next in
      let less = rises by facts (lid_numbers lmc its_cells (lids lmc its_cells) lid) t (attachment_is_switch facts e way.attachment way.attachment_is) g
      (entry_for held lid g) (entry_for held lid h) first.end
      second.end
      g_there way.apart apart way.next next first.wire (ap (λ x. across its_cells x (entry_for held lid h)) here ∙ second.wire) in
      let a_is : a ≡ 256 * w.switch + entry_for held lid g = takes.channel_is ∙ ap (λ p. 256 * w.switch + p) first.port_is in
      let b_is : b ≡ 256 * takes.first.to + entry_for held lid h = takes.next_is ∙ ap (λ p. 256 * takes.first.to + p) second.port_is in
      let a_number = ap (λ c. slice_index_or (numbers its_rule its_cells) c 0) a_is
      ∙ numbered its_rule its_cells w.switch (entry_for held lid g) g first.end at first.below first.wire in
      let b_number = ap (λ c. slice_index_or (numbers its_rule its_cells) c 0) b_is
      ∙ numbered its_rule its_cells takes.first.to (entry_for held lid h) h second.end at_next second.below second.wire
      ∙ ap (λ x. its_rule.channel x second.end.0) (sym here) in
      omega (arith, less, a_number, b_number)

  pub rise_in_turn : (a b : ℕ) → WaitsFor its_cells held a b → slice_index_or (numbers its_rule its_cells) a 0 < slice_index_or (numbers its_rule its_cells) b 0
  rise_in_turn a b w =
      elim (owner_of (lids lmc its_cells) w.lid) as (λ o. owner_of (lids lmc its_cells) w.lid ≡ o
      → slice_index_or (numbers its_rule its_cells) a 0 < slice_index_or (numbers its_rule its_cells) b 0) [
        | None ↦ λ none. let takes = w.takes in absurd (no_edge w.lid w.switch takes.first none takes.leaves)
        | Some e ↦ λ owned. owned_rise a b w e owned
      ] refl

-- if nothing is held, nothing waits
no_top : (gs : List ℕ) → greatest (map (top_held nothing_held) gs) ≡ 0
no_top [] = refl
no_top (g ∷ gs) = let rest = no_top gs in omega arith

nothing_waits : (cells : Cells) (a b : ℕ) → WaitsFor cells nothing_held a b → ⊥
nothing_waits cells a b w =
    let low = w.is_lid in
    let takes = w.takes in
    let leaves = takes.leaves in
    let none = none_above cells nothing_held w.lid (omega (arith, no_top (switches cells), low)) w.switch in
    cc

abbrev number : Routing → Cells → ℕ → ℕ
number rule cells c = slice_index_or (numbers rule cells) c 0

pub plans_rise : (rule : RuleValue) (lmc : ℕ) (facts : Facts) → AreInRange facts → ¬ (IsNoRoom lmc (cells_of facts))
    → CanRise (WaitsFor (cells_of facts) (held_plan (plan_of rule lmc (cells_of facts))))
plans_rise by lmc facts range has_room =
    let cells = cells_of facts in
    let rule = lid_routing by lmc cells (lids lmc cells) in
    let told : Option ℕ → HeldPlan = λ o.
    option_map_or (λ top. made by lmc cells top) o nothing_held in
    elim (top_of (lids lmc cells)) as (λ o. top_of (lids lmc cells) ≡ o → CanRise (WaitsFor cells (told o))) [
      | None ↦ λ e. record { number = number rule cells; rises = λ a b w. absurd (nothing_waits cells a b w) }
      | Some top ↦ λ e. record { number = number rule cells; rises = rise_in_turn by lmc facts range has_room top e }
    ] refl
