-- The tables of a plan that goes up and down are right by the order of its switches.
use Rattle.std.proofs.Common.{◌≡◌, ℕ, ◌+◌, ◌-◌, ◌<◌, ◌≤◌, Bool, true, false, cond, List, length, Some, refl, sym, ap, ◌∙◌, subst, arith}
use Rattle.std.specs.Prelude.{◌==◌, not, nat_lt, Contains, count_by}
use Rattle.std.proofs.lemmas.Bool.{and_parts, eq-eqb, eqb-true}
use Rattle.std.proofs.lemmas.List.Sums.{length-filter}
use Rattle.fact_store.specs.View.{AreInRange, Facts, cells_of}
use Rattle.port_graph.specs.declared.edge.Edge.{Edge}
use Rattle.port_graph.proofs.Counts.{filtered_le, filtered_less}
use Rattle.subnet_view.specs.Reading.{Cells, switches, is_switch_node}
use Rattle.subnet_view.specs.SwitchEdges.{SwitchEdges}
use Rattle.subnet_view.specs.Graph.{graph_of, guids_of, edges_at, neighbors}
use Rattle.subnet_view.specs.GraphLaws.{IsGraph, IsSwitch}
use Rattle.subnet_view.specs.Components.{in_one_component}
use Rattle.subnet_view.proofs.Components.{walk_joins, joined, component_symm, component_trans}
use Rattle.subnet_view.proofs.EdgeLists.{has_end}
use Rattle.subnet_view.proofs.Graphs.{graph_law, wire_is_edge}
use Rattle.subnet_view.proofs.GraphSwitches.{graph_guids, switch_usable}
use Rattle.lft_blocks.specs.Rule.{up_and_down}
use Rattle.lft_blocks.specs.Plan.{plan_of}
use Rattle.held_tables.specs.Held.{HeldPlan}
use Rattle.plan_tables.specs.PlanTables.{held_plan}
use Rattle.updown_routes.specs.Ranks.{is_before}
use Rattle.updown_routes.specs.Channels.{component_size, position_of, channel_number}
use Rattle.updown_routes.proofs.Before.{before_trans, not_before_itself}
use Rattle.updown_routes.proofs.Ranks.{before_total}
use Rattle.plan_order.specs.PlanOrder.{rank_position}
use Rattle.lid_assign.specs.Lids.{IsNoRoom}
use Rattle.packet_walks.proofs.EntrySteps.{leaves}
use Rattle.held_tables.specs.Tables.{entry_for}
use Rattle.next_tables.proofs.Entries.{member}
use Rattle.next_tables.proofs.Steps.{at_index}
use Rattle.next_tables.specs.SwitchPositions.{AreRight, Leads, is_bad, is_down, is_up, switch_at}
use Rattle.next_tables.proofs.Hops.{edge_at, leads_at, leads_within, to_within}
use Rattle.table_laws.proofs.plan_orders.PlanRight.{plan_turns_rise}
use Rattle.next_tables.proofs.by_order.Turns.{not_true}

module _ {X : Type 0} (p q : X → Bool) (more : (x : X) → p x ≡ true → q x ≡ true) (xs : List X) where
  pub counted_le : count_by p xs ≤ count_by q xs
  counted_le = omega (arith, filtered_le p q more xs, length-filter p xs, length-filter q xs)

  pub counted_less : (x : X) → Contains xs x → p x ≡ false → q x ≡ true → count_by p xs < count_by q xs
  counted_less x h a b = omega (arith, filtered_less p q more xs x h a b, length-filter p xs, length-filter q xs)

pub differs : (g h : ℕ) → (g == h) ≡ false → g ≡ h → ⊥
differs g h s same = let is : (g == h) ≡ true = eq-eqb g h same in absurd (cc)

module _ (graph : List SwitchEdges) (good : IsGraph graph) where
  pub same_component : (a b : ℕ) → IsSwitch graph a → Contains (neighbors graph a) b → in_one_component graph a b ≡ true
  same_component a b ha s = let w = walk_joins graph good 1 a b ha (b, s, refl) in joined graph good a b w.0 w.1

  size_le : (a b : ℕ) → IsSwitch graph a → in_one_component graph a b ≡ true → component_size graph b ≤ component_size graph a
  size_le a b ha j = counted_le (in_one_component graph b) (in_one_component graph a) (λ x k. component_trans graph good a b x ha j k) (guids_of graph)

  same_size : (a b : ℕ) → IsSwitch graph a → IsSwitch graph b → in_one_component graph a b ≡ true → component_size graph a ≡ component_size graph b
  same_size a b ha hb j = omega (arith, size_le a b ha j, size_le b a hb (component_symm graph good a b hb j))

  pub rank_less : (a b : ℕ) → IsSwitch graph b → is_before graph b a ≡ true → rank_position graph b < rank_position graph a
  rank_less a b hb e =
      counted_less (λ x. is_before graph x b) (λ x. is_before graph x a) (λ x k. before_trans graph x b a k e) (guids_of graph) b hb
      (not_before_itself graph b) e

  -- numbers do not rise over a turn at one whose position is no less than those of the switches beside it
  no_rise : (a b c : ℕ) → IsSwitch graph a → IsSwitch graph b → IsSwitch graph c → Contains (neighbors graph b) c
      → rank_position graph a ≤ rank_position graph b → rank_position graph c ≤ rank_position graph b
      → channel_number graph a b < channel_number graph b c → ⊥
  no_rise a b c ha hb hc m low high less =
      let bc = same_component b c hb m in
      let size = same_size b c hb hc bc in
      let first : channel_number graph a b ≡ component_size graph b + position_of graph b =
      (elim (is_before graph b a) as (λ t. is_before graph b a ≡ t
      → cond t (component_size graph b - position_of graph b) (component_size graph b + position_of graph b) ≡ component_size graph b + position_of graph b) [
        | true ↦ λ e. let up = rank_less a b hb e in absurd (omega arith)
        | false ↦ λ e. refl
      ]) refl in
      let second : channel_number graph b c ≤ component_size graph b + position_of graph b =
      (elim (is_before graph c b) as (λ t. is_before graph c b ≡ t
      → cond t (component_size graph c - position_of graph c) (component_size graph c + position_of graph c) ≤ component_size graph b + position_of graph b) [
        | true ↦ λ e. omega (arith, size)
        | false ↦ λ e. (elim (c == b) as (λ t. (c == b) ≡ t → component_size graph c + position_of graph c ≤ component_size graph b + position_of graph b) [
          | true ↦ λ s.
              let same : position_of graph c ≡ position_of graph b = ap (position_of graph) (eqb-true c b s) in omega (arith, size, same)
          | false ↦ λ s.
              let down = rank_less c b hb (before_total graph c b (λ same. differs c b s same) e) in absurd (omega (arith, down, high))
        ]) refl
      ]) refl in
      omega (arith, first, second, less)

-- the position of the switch at an index by rank
abbrev pub rank_at : Cells → ℕ → ℕ
rank_at cells i = rank_position (graph_of cells) (switch_at cells i)

is_le : (a b : ℕ) → not (nat_lt b a) ≡ true → a ≤ b
is_le a b h = grind arith

module _ (facts : Facts) (tables : HeldPlan) (lid : ℕ) where
  is_switch : (i : ℕ) → i < length (switches (cells_of facts)) → IsSwitch (graph_of (cells_of facts)) (switch_at (cells_of facts) i)
  is_switch i less =
      subst (λ (xs : List ℕ). Contains xs (switch_at (cells_of facts) i)) (sym (graph_guids (cells_of facts)))
      (member (switches (cells_of facts)) i less)

  neighbor : (i j : ℕ) → Leads (cells_of facts) tables lid i j
      → Contains (neighbors (graph_of (cells_of facts)) (switch_at (cells_of facts) i)) (switch_at (cells_of facts) j)
  neighbor i j l =
      let cells = cells_of facts in
      let g = switch_at cells i in
      let h = switch_at cells j in
      let less = leads_within cells tables lid i j l in
      let j_less = to_within cells tables lid g j (leads_at cells tables lid i j l) in
      let by = leaves cells g (entry_for tables lid g) (record { port = entry_for tables lid g; to = j }) (edge_at cells tables lid i j l) in
      let to : h ≡ by.end.0 = at_index (switches cells) j by.end.0 0 by.index in
      let usable = switch_usable facts h (member (switches cells) j j_less) in
      let e : Edge = record { port = entry_for tables lid g; to = h } in
      has_end (edges_at (graph_of cells) g) e
      (wire_is_edge cells g (entry_for tables lid g) h (member (switches cells) i less)
      (record { end_port = by.end.1; wire = by.wire ∙ ap (λ (x : ℕ). Some (x, by.end.1)) (sym to); is_switch = (and_parts (is_switch_node cells h) _ usable).0 }))

pub updown_plans_are_right : (lmc : ℕ) (facts : Facts) → AreInRange facts → ¬ (IsNoRoom lmc (cells_of facts)) → (lid : ℕ) → 1 ≤ lid
    → AreRight (cells_of facts) (rank_at (cells_of facts)) (held_plan (plan_of up_and_down lmc (cells_of facts))) lid
updown_plans_are_right lmc facts range has_room lid one i j k a b =
    let cells = cells_of facts in
    let tables = held_plan (plan_of up_and_down lmc cells) in
    let less = plan_turns_rise up_and_down lmc facts range has_room lid i j k one a b in
    let k_less = to_within cells tables lid (switch_at cells j) k (leads_at cells tables lid j k b) in
    not_true (is_bad (rank_at cells) i j k) (λ bad.
    let parts = and_parts (is_down (rank_at cells) i j) (is_up (rank_at cells) j k) bad in
    no_rise (graph_of cells) (graph_law facts) (switch_at cells i) (switch_at cells j) (switch_at cells k)
    (is_switch facts tables lid i (leads_within cells tables lid i j a)) (is_switch facts tables lid j (leads_within cells tables lid j k b))
    (is_switch facts tables lid k k_less) (neighbor facts tables lid j k b)
    (is_le (rank_at cells i) (rank_at cells j) parts.0) (is_le (rank_at cells k) (rank_at cells j) parts.1) less)
