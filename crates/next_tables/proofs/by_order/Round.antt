-- Every packet ends, and the next tables deliver or drop it; and the tables of all LIDs.
use Rattle.std.proofs.Common.{◌≡◌, ℕ, zero, suc, ◌<◌, ◌≤◌, ◌+◌, ◌*◌, Bool, true, false, cond, List, [], ◌∷◌, length, Option, None, Some, refl, sym, ap, ◌∙◌, subst, arith, inl, inr, ◌⊎◌}
use Rattle.std.specs.Prelude.{◌==◌}
use Rattle.std.proofs.lemmas.List.FromFn.{get_or-map-range_with_len, length-map-range_with_len}
use Rattle.std.proofs.lemmas.List.Quantifiers.{position-Some}
use Rattle.subnet_view.specs.declared.end_port.EndPort.{EndPort}
use Rattle.subnet_view.specs.Reading.{Cells, switches}
use Rattle.held_tables.specs.declared.held.HeldLid.{HeldLid}
use Rattle.held_tables.specs.Held.{HeldPlan}
use Rattle.packet_walks.specs.declared.cause.Cause.TheVariants.{NoLink}
use Rattle.packet_walks.specs.declared.packet_end.End.{End}
use Rattle.packet_walks.specs.declared.packet_end.End.TheVariants.{Taken}
use Rattle.packet_walks.specs.declared.next_hop.NextHop.{NextHop}
use Rattle.packet_walks.specs.declared.next_hop.NextHop.TheVariants.{To, Ends}
use Rattle.held_tables.specs.Switches.{far_of, index_in, sender_of}
use Rattle.held_tables.specs.Tables.{owners_of, entry_for, is_owner}
use Rattle.packet_walks.specs.EndsBySwitch.{after}
use Rattle.packet_walks.specs.HopsByTables.{first_hop, next_hops_of, over, sent}
use Rattle.packet_walks.proofs.Ended.{after_ended}
use Rattle.next_tables.specs.Mixtures.{IsMixed, after_by}
use Rattle.next_tables.specs.SettledRule.{step_at, comes_to}
use Rattle.next_tables.proofs.Entries.{at_mapped}
use Rattle.next_tables.proofs.Mixtures.{at, Comes, EndsBy, in_range}
use Rattle.next_tables.specs.OrderRule.{IsChoice, IsNextByOrder, may_change, tried_entry, tried_at, tried, channel_number, turns_well}
use Rattle.next_tables.specs.SwitchPositions.{is_bad, AreRight, IsOrder, switch_at}
use Rattle.next_tables.specs.OrderedStepLaws.{AllEndByOrder, NextDeliverOrDropByOrder, AllAreStep, AllFollowTheRule, DeliverFrom}
use Rattle.next_tables.specs.NextTables.{ordered_for}
use Rattle.packet_walks.proofs.FarRows.{far_within}
use Rattle.next_tables.proofs.Hops.{leads_from, leads_within, over_switch, placed, taken_same, to_same, to_within}
use Rattle.next_tables.proofs.by_order.Lost.{chosen, comes_made, comes_true}
use Rattle.next_tables.proofs.by_order.Turns.{Goes, goes_well, mixed_goes, next_are_right, not_true}
use Rattle.next_tables.proofs.by_order.Waits.{numbers_rise}

-- every packet ends --------------------------------------------------------------------

module _ (cells : Cells) (q : ℕ → ℕ) (held goal next : HeldPlan) (lid : ℕ) (order : IsOrder cells q) (held_right : AreRight cells q held lid)
    (goal_right : AreRight cells q goal lid) (choice : IsChoice cells q held goal lid next) (mixed : ℕ → HeldPlan)
    (are : (k : ℕ) → IsMixed cells held next lid (mixed k)) where
  abbrev count : ℕ
  count = length (switches cells)

  abbrev M : ℕ → ℕ → Type 0
  M i j = Goes cells q held goal lid held_right goal_right i j

  abbrev N : ℕ → ℕ → ℕ
  N i j = channel_number (length (switches cells)) (q i) (q j)

  from_within : (i j : ℕ) → M i j → i < count
  from_within i j (inl l) = leads_within cells held lid i j l
  from_within i j (inr l) = leads_within cells goal lid i j l.0

  rise : (i j k : ℕ) → M i j → M j k → N i j < N j k
  rise i j k a b =
      numbers_rise count (q i) (q j) (q k) (order j (from_within j k b))
      (not_true (is_bad q i j k) (goes_well cells q held goal lid held_right goal_right i j k a b))

  small_number : (n a b : ℕ) → b < n → channel_number n a b < 2 * n + 1
  small_number n a b h = grind arith

  abbrev Hop : NextHop → ℕ → Type 0
  Hop s i = ((e : End) × (s ≡ Ends e)) ⊎ ((j : ℕ) × (s ≡ To j) × (j < length (switches cells)) × M i j)

  hops : (k i : ℕ) → i < count → Hop (at (next_hops_of cells (mixed k) lid) i) i
  hops k i less =
      subst (λ (s : NextHop). Hop s i) (sym (at_mapped (step_at cells (mixed k) lid) (switches cells) i (To i) less))
      (by (step_at cells (mixed k) lid (switch_at cells i)) refl)
    where
      by : (s : NextHop) → step_at cells (mixed k) lid (switch_at cells i) ≡ s → Hop s i
      by (Ends e) is_s = inl (e, refl)
      by (To j) is_s =
          inr (
            j,
            refl,
            to_within cells (mixed k) lid (switch_at cells i) j is_s,
            mixed_goes cells q held goal lid held_right goal_right next choice (mixed k) (are k) i j (leads_from cells (mixed k) lid i j less is_s),
          )

  go_on : (f k x i : ℕ) → M x i → i < count → 2 * count + 1 ≤ N x i + f → EndsBy (λ n. next_hops_of cells (mixed (k + n)) lid) (To i)
  go_on zero k x i m less h = let s = small_number count (q x) (q i) (order i less) in absurd (omega arith)
  go_on (suc f) k x i m less h =
      let first : next_hops_of cells (mixed (k + 0)) lid ≡ next_hops_of cells (mixed k) lid =
      let e : k + 0 ≡ k = omega arith in ap (λ n. next_hops_of cells (mixed n) lid) e in
      elim (hops (k + 0) i less) [
        | inl e ↦ (e.0, 1, e.1)
        | inr t ↦
            let r = rise x i t.0 m t.3 in
            let it = go_on f (k + 1) i t.0 t.3 t.2 (omega arith) in
            (it.0, suc it.1, ap (after_by it.1 (λ n. next_hops_of cells (mixed (k + suc n)) lid)) t.1 ∙ shifted it.1 k (To t.0) ∙ it.2)
      ]
    where
      shifted : (n k : ℕ) (s : NextHop) → after_by n (λ m. next_hops_of cells (mixed (k + suc m)) lid) s
          ≡ after_by n (λ m. next_hops_of cells (mixed (k + 1 + m)) lid) s
      shifted n k s = ap (λ (f : ℕ → List NextHop). after_by n f s) (λ i m. next_hops_of cells (mixed (same k m i)) lid)
        where
          same : (k m : ℕ) → k + suc m ≡ k + 1 + m
          same k m = omega arith

  starts : (s : NextHop) → ((i : ℕ) → s ≡ To i → i < count) → EndsBy (λ n. next_hops_of cells (mixed n) lid) s
  starts (Ends e) within = (e, 0, refl)
  starts (To i) within =
      elim (hops 0 i (within i refl)) [
        | inl e ↦ (e.0, 1, e.1)
        | inr t ↦
            let it = go_on (2 * count + 1) 1 i t.0 t.3 t.2 (omega arith) in
            (it.0, suc it.1, ap (after_by it.1 (λ n. next_hops_of cells (mixed (suc n)) lid)) t.1 ∙ shifted it.1 (To t.0) ∙ it.2)
      ]
    where
      shifted : (n : ℕ) (s : NextHop) → after_by n (λ m. next_hops_of cells (mixed (suc m)) lid) s
          ≡ after_by n (λ m. next_hops_of cells (mixed (1 + m)) lid) s
      shifted n s = ap (λ (f : ℕ → List NextHop). after_by n f s) (λ i m. next_hops_of cells (mixed (same m i)) lid)
        where
          same : (m : ℕ) → suc m ≡ 1 + m
          same m = omega arith

-- a packet begins at a switch that there is
sent_within : (cells : Cells) (owners : List EndPort) (e : EndPort) (i : ℕ) → first_hop owners (sender_of cells e) ≡ To i → i < length (switches cells)
sent_within cells owners e i h = by (index_in (switches cells) e.node) refl h
  where
    from_port : (b : Bool) → cond b (Ends (Taken e)) (over owners e.node NoLink (far_of cells e.node e.port)) ≡ To i → i < length (switches cells)
    from_port true h = absurd (cc)
    from_port false h = far_within cells e.node e.port i (over_switch owners e.node NoLink (far_of cells e.node e.port) i h)

    by : (k : Option ℕ) → index_in (switches cells) e.node ≡ k → sent owners e k (far_of cells e.node e.port) ≡ To i → i < length (switches cells)
    by (Some k) is h =
        let found = position-Some (λ x. x == e.node) (switches cells) k 0 is in
        let less = found.0 in
        let same : k ≡ i = cc in
        omega arith
    by None is h = from_port (is_owner owners e) h

pub all_end_by_order : AllEndByOrder
all_end_by_order cells q held goal next lid order held_right goal_right choice mixed are source =
    let owners = owners_of (mixed 0) lid in
    let it =
    starts cells q held goal next lid order held_right goal_right choice mixed are (first_hop owners (sender_of cells source))
    (λ i h. sent_within cells owners source i h) in
    (it.0, (it.1, it.2))

-- the next tables deliver or drop ------------------------------------------------------

tried_here : (cells : Cells) (q : ℕ → ℕ) (held goal : HeldPlan) (line : HeldLid) (i : ℕ) → i < length (switches cells)
    → at (tried cells q held goal line) i ≡ tried_at cells q held goal line i
tried_here cells q held goal line i less =
    get_or-map-range_with_len (tried_at cells q held goal line) 0 (length (switches cells)) i i (To i) less (omega arith)

module _ (cells : Cells) (q : ℕ → ℕ) (held goal next : HeldPlan) (line : HeldLid) (owners : owners_of goal line.lid ≡ owners_of held line.lid)
    (is : IsNextByOrder cells q held goal line next) where
  abbrev U : List NextHop
  U = tried cells q held goal line

  abbrev X : List NextHop
  X = next_hops_of cells next line.lid

  -- if the tried entries deliver from a switch, the next tables do there what these do
  does : (i : ℕ) → i < length (switches cells) → Comes line.port U (To i) → (at U i ≡ Ends (Taken line.port) → at X i ≡ Ends (Taken line.port))
      × ((j : ℕ) → at U i ≡ To j → at X i ≡ To j)
  does i less c =
      let g = switch_at cells i in
      let here : at X i ≡ step_at cells next line.lid g = at_mapped (step_at cells next line.lid) (switches cells) i (To i) less in
      let tried_is : at U i ≡ tried_at cells q held goal line i =
      tried_here cells q held goal line i less in
      let entry : entry_for next line.lid g ≡ tried_entry cells q held goal line i g =
      is.entries i g (placed (switches cells) i less)
      ∙ ap (λ t. cond t (tried_entry cells q held goal line i g) 255) (comes_made line.port U (To i) c) in
      (elim (may_change cells q held goal line i g) as (λ t. at U i ≡ cond t (step_at cells goal line.lid g) (step_at cells held line.lid g)
      → entry_for next line.lid g ≡ cond t (entry_for goal line.lid g) (entry_for held line.lid g)
      → (at U i ≡ Ends (Taken line.port) → at X i ≡ Ends (Taken line.port)) × ((j : ℕ) → at U i ≡ To j → at X i ≡ To j)) [
        | true ↦ λ u e. (
          λ h. here ∙ taken_same cells goal next line.lid g line.port (owners ∙ sym is.owners) (sym e) (sym u ∙ h),
          λ j h. here ∙ to_same cells goal next line.lid g j (sym e) (sym u ∙ h),
        )
        | false ↦ λ u e. (
          λ h. here ∙ taken_same cells held next line.lid g line.port (sym is.owners) (sym e) (sym u ∙ h),
          λ j h. here ∙ to_same cells held next line.lid g j (sym e) (sym u ∙ h),
        )
      ]) tried_is entry

  comes_so : (n : ℕ) (s : NextHop) → after n U s ≡ Ends (Taken line.port) → Comes line.port X s
  comes_so n (Ends e) h = (0, sym (after_ended n U e) ∙ h)
  comes_so zero (To i) h = absurd (cc)
  comes_so (suc n) (To i) h =
      let less = in_range U (suc n) i (Taken line.port) h in
      let within : i < length (switches cells) = omega (arith, less, length-map-range_with_len (tried_at cells q held goal line) 0 (length (switches cells))) in
      on (comes_so n) (at U i) refl within (does i within (suc n, h)) h
    where
      on : ((s : NextHop) → after n U s ≡ Ends (Taken line.port) → Comes line.port X s) → (s : NextHop) → at U i ≡ s → i < length (switches cells) → (at U i ≡ Ends (Taken line.port) → at X i ≡ Ends (Taken line.port))
          × ((j : ℕ) → at U i ≡ To j → at X i ≡ To j) → after n U (at U i) ≡ Ends (Taken line.port) → Comes line.port X (To i)
      on later (Ends e) is_s within d h =
          let taken : at U i ≡ Ends (Taken line.port) = is_s ∙ sym (after_ended n U e) ∙ ap (after n U) (sym is_s) ∙ h in
          (1, d.0 taken)
      on later (To j) is_s within d h =
          let c = later (To j) (ap (after n U) (sym is_s) ∙ h) in
          (suc c.0, ap (after c.0 X) (d.1 j is_s) ∙ c.1)

pub next_deliver_or_drop_by_order : NextDeliverOrDropByOrder
next_deliver_or_drop_by_order cells q held goal next line owners is i g there =
    (elim (comes_to line.port (tried cells q held goal line) (To i)) as (λ t. comes_to line.port (tried cells q held goal line) (To i) ≡ t
    → entry_for next line.lid g ≡ cond t (tried_entry cells q held goal line i g) 255
    → (entry_for next line.lid g ≡ 255) ⊎ DeliverFrom cells next line i) [
      | true ↦ λ h e.
          let c = comes_true line.port (tried cells q held goal line) (To i) h in
          inr (comes_so cells q held goal next line owners is c.0 (To i) c.1)
      | false ↦ λ h e. inl e
    ]) refl (is.entries i g there)

-- all LIDs -----------------------------------------------------------------------------

choice_for : (cells : Cells) (q : ℕ → ℕ) (held goal : HeldPlan) (lid : ℕ) (ports : List EndPort) (i g entry : ℕ)
    → entry ≡ ordered_for cells q held goal lid ports i g
    → (entry ≡ entry_for held lid g)
    ⊎ ((entry ≡ 255) ⊎ ((entry ≡ entry_for goal lid g) × (turns_well cells q held goal lid i (step_at cells goal lid g) ≡ true)))
choice_for cells q held goal lid [] i g entry h = inr (inl h)
choice_for cells q held goal lid (port ∷ ports) i g entry h =
    let line : HeldLid = record { lid = lid; port = port } in
    chosen cells q held goal line (comes_to port (tried cells q held goal line) (To i)) i g entry h

pub all_are_step : AllAreStep
all_are_step cells q held goal next order held_right goal_right are =
    let choice : (lid : ℕ) → 1 ≤ lid → IsChoice cells q held goal lid next =
    λ lid one i g there. choice_for cells q held goal lid (owners_of goal lid) i g (entry_for next lid g) (are.entries i g lid there) in (
      record { order = order; held_right = held_right; goal_right = goal_right; choice = choice },
      λ lid one. next_are_right cells q held goal next lid (held_right lid one) (goal_right lid one) (choice lid one),
    )

pub all_follow_the_rule : AllFollowTheRule
all_follow_the_rule cells q held goal next line are kept = record {
  owners = are.owners line.lid ∙ kept.in_plan ∙ sym kept.in_held;
  entries = λ i g there. are.entries i g line.lid there ∙ ap (λ ports. ordered_for cells q held goal line.lid ports i g) kept.in_plan;
}
