-- Steps by an order end in the goal.
use Rattle.std.proofs.Common.{◌≡◌, ℕ, zero, suc, ◌<◌, ◌≤◌, ◌+◌, ◌-◌, ◌*◌, Bool, true, false, cond, List, length, Some, refl, sym, ap, ◌∙◌, subst, arith, inl, inr, ◌⊎◌}
use Rattle.std.specs.Prelude.{slice_get, nat_lt, not, ◌==◌, ◌&&◌, ◌||◌}
use Rattle.std.specs.List.{list_all, range_with_len}
use Rattle.std.proofs.lemmas.Bool.{and_parts, eqb-true, eq-eqb, cases_lt}
use Rattle.std.proofs.lemmas.List.Sums.{list_all-from_AllPass}
use Rattle.std.proofs.lemmas.List.FromFn.{get_or-range_with_len, length-range_with_len}
use Rattle.subnet_view.specs.Reading.{Cells, switches}
use Rattle.held_tables.specs.declared.held.HeldLid.{HeldLid}
use Rattle.held_tables.specs.Held.{HeldPlan}
use Rattle.packet_walks.specs.declared.packet_end.End.TheVariants.{Taken}
use Rattle.packet_walks.specs.declared.next_hop.NextHop.{NextHop}
use Rattle.packet_walks.specs.declared.next_hop.NextHop.TheVariants.{To, Ends}
use Rattle.held_tables.specs.Tables.{owners_of, entry_for}
use Rattle.packet_walks.specs.EndsBySwitch.{after}
use Rattle.packet_walks.specs.HopsByTables.{next_hops_of}
use Rattle.packet_walks.proofs.Ended.{after_ended}
use Rattle.packet_walks.proofs.Judged.{same_itself}
use Rattle.next_tables.specs.SettledRule.{step_at, comes_to, delivers}
use Rattle.next_tables.proofs.Entries.{at_mapped}
use Rattle.next_tables.proofs.Mixtures.{at, Comes}
use Rattle.next_tables.proofs.Steps.{at_index}
use Rattle.plan_tables.proofs.HeldTables.{within_length}
use Rattle.next_tables.specs.OrderRule.{is_same, comes_down, none_comes_down, goes_up, none_goes_up, turns_well, leads_in, may_change, tried_entry, tried}
use Rattle.next_tables.specs.SwitchPositions.{is_up, is_down, Leads, AreRight, switch_at}
use Rattle.next_tables.specs.OrderedStepLaws.{IsLineStep, DeliverFrom, AreStepsByOrder, IsDepth, EndInTheGoal, EndInTwiceAsMany}
use Rattle.next_tables.proofs.Hops.{leads_at, leads_from, leads_same, leads_within, none_to, placed, taken_same, to_same, to_within, to_wired}
use Rattle.next_tables.proofs.by_order.Lost.{comes_made, tried_is_choice, steps_at, tried_is}
use Rattle.next_tables.proofs.by_order.Turns.{next_are_right}

-- tests
either_true : (a b : Bool) → (a ≡ true → b ≡ true) → (not a || b) ≡ true
either_true true b h = h refl
either_true false b h = refl

both_true : (a b : Bool) → a ≡ true → b ≡ true → (a && b) ≡ true
both_true true b h k = k
both_true false b h k = absurd (cc)

below_made : (p : ℕ → Bool) (n : ℕ) → ((x : ℕ) → x < n → p x ≡ true) → list_all p (range_with_len 0 n) ≡ true
below_made p n each =
    let long : length (range_with_len 0 n) ≡ n = length-range_with_len 0 n in
    list_all-from_AllPass p (range_with_len 0 n) (λ i d less.
    let within : i < n = omega (arith, long) in
    let same : 0 + i ≡ i = omega arith in
    subst (λ (y : ℕ). p y ≡ true) (sym (get_or-range_with_len 0 n i d within ∙ same)) (each i within))

-- one step -----------------------------------------------------------------------------

module _ (cells : Cells) (q : ℕ → ℕ) (held goal next : HeldPlan) (line : HeldLid) (is : IsLineStep cells q held goal line next) where
  abbrev G : ℕ → NextHop
  G i = step_at cells goal line.lid (switch_at cells i)

  abbrev H : List NextHop
  H = next_hops_of cells held line.lid

  abbrev U : List NextHop
  U = tried cells q held goal line

  abbrev HasGoal : ℕ → Type 0
  HasGoal i = entry_for held line.lid (switch_at cells i) ≡ entry_for goal line.lid (switch_at cells i)

  -- by the held tables and what is tried
  has_taken : (i : ℕ) → i < length (switches cells) → HasGoal i → G i ≡ Ends (Taken line.port) → at H i ≡ Ends (Taken line.port)
  has_taken i less e h =
      steps_at cells q held goal next line is held i less
      ∙ taken_same cells goal held line.lid (switch_at cells i) line.port is.owners (sym e) h

  has_to : (i j : ℕ) → i < length (switches cells) → HasGoal i → G i ≡ To j → at H i ≡ To j
  has_to i j less e h = steps_at cells q held goal next line is held i less ∙ to_same cells goal held line.lid (switch_at cells i) j (sym e) h

  tried_if : (i : ℕ) (s : NextHop) → i < length (switches cells) → G i ≡ s
      → (may_change cells q held goal line i (switch_at cells i) ≡ true ⊎ (step_at cells held line.lid (switch_at cells i) ≡ s)) → at U i ≡ s
  tried_if i s less g c =
      tried_is cells q held goal next line is i less
      ∙ by (may_change cells q held goal line i (switch_at cells i)) c
    where
      by : (b : Bool) → (b ≡ true ⊎ (step_at cells held line.lid (switch_at cells i) ≡ s)) → cond b (G i) (step_at cells held line.lid (switch_at cells i)) ≡ s
      by true k = g
      by false (inl k) = absurd (cc)
      by false (inr k) = k

  entry_if : (i : ℕ) → i < length (switches cells) → comes_to line.port U (To i) ≡ true
      → (may_change cells q held goal line i (switch_at cells i) ≡ true ⊎ HasGoal i)
      → entry_for next line.lid (switch_at cells i) ≡ entry_for goal line.lid (switch_at cells i)
  entry_if i less comes c =
      from_entry (is.is_next.entries i (switch_at cells i) (placed (switches cells) i less))
      ∙ by (may_change cells q held goal line i (switch_at cells i)) c
    where
      from_entry : (entry_for next line.lid (switch_at cells i) ≡ tried_entry cells q held goal line i (switch_at cells i))
          ⊎ ((comes_to line.port (tried cells q held goal line) (To i) ≡ false) × (entry_for next line.lid (switch_at cells i) ≡ 255))
          → entry_for next line.lid (switch_at cells i) ≡ tried_entry cells q held goal line i (switch_at cells i)
      from_entry (inl e) = e
      from_entry (inr x) = let fails = x.0 in absurd (cc)

      by : (b : Bool) → (b ≡ true ⊎ HasGoal i) → cond b (entry_for goal line.lid (switch_at cells i)) (entry_for held line.lid (switch_at cells i))
          ≡ entry_for goal line.lid (switch_at cells i)
      by true k = refl
      by false (inl k) = absurd (cc)
      by false (inr k) = k

-- the goal's entries are held all along its way, which meets n switches
abbrev pub Settled : Cells → HeldPlan → HeldPlan → HeldLid → ℕ → ℕ → Type 0
Settled cells held goal line zero i = ⊥
Settled cells held goal line (suc n) i =
    (i < length (switches cells)) × (entry_for held line.lid (switch_at cells i) ≡ entry_for goal line.lid (switch_at cells i))
    × ((step_at cells goal line.lid (switch_at cells i) ≡ Ends (Taken line.port))
    ⊎ ((j : ℕ) × (step_at cells goal line.lid (switch_at cells i) ≡ To j) × Settled cells held goal line n j))

module _ (cells : Cells) (q : ℕ → ℕ) (held goal next : HeldPlan) (line : HeldLid) (is : IsLineStep cells q held goal line next) where
  abbrev By : ℕ → ℕ → Type 0
  By n i =
      (step_at cells goal line.lid (switch_at cells i) ≡ Ends (Taken line.port))
      ⊎ ((j : ℕ) × (step_at cells goal line.lid (switch_at cells i) ≡ To j) × Settled cells held goal line n j)

  pub settled_comes : (n i : ℕ) → Settled cells held goal line n i → Comes line.port (next_hops_of cells held line.lid) (To i)
  settled_comes zero i s = absurd s
  settled_comes (suc n) i s =
      elim s.2 [
        | inl e ↦ (1, has_taken cells q held goal next line is i s.0 s.1 e)
        | inr t ↦
            let c = settled_comes n t.0 t.2 in
            (suc c.0, ap (after c.0 (next_hops_of cells held line.lid)) (has_to cells q held goal next line is i t.0 s.0 s.1 t.1) ∙ c.1)
      ]

  pub settled_tried : (n i : ℕ) → Settled cells held goal line n i → Comes line.port (tried cells q held goal line) (To i)
  settled_tried zero i s = absurd s
  settled_tried (suc n) i s =
      elim s.2 [
        | inl e ↦ (
          1,
          tried_if cells q held goal next line is i (Ends (Taken line.port)) s.0 e
              (inr (taken_same cells goal held line.lid (switch_at cells i) line.port is.owners (sym s.1) e)),
        )
        | inr t ↦
            let c = settled_tried n t.0 t.2 in
            let here = tried_if cells q held goal next line is i (To t.0) s.0 t.1 (inr (to_same cells goal held line.lid (switch_at cells i) t.0 (sym s.1) t.1)) in
            (suc c.0, ap (after c.0 (tried cells q held goal line)) here ∙ c.1)
      ]

  -- and they stay
  pub settled_stays : (n i : ℕ) → Settled cells held goal line n i → Settled cells next goal line n i
  settled_stays zero i s = absurd s
  settled_stays (suc n) i s =
      let entry =
      entry_if cells q held goal next line is i s.0 (comes_made line.port (tried cells q held goal line) (To i) (settled_tried (suc n) i s)) (inr s.1) in
      (elim s.2 as (λ t. Settled cells next goal line (suc n) i) [
        | inl e ↦ (s.0, entry, inl e)
        | inr t ↦ (s.0, entry, inr (t.0, t.1, settled_stays n t.0 t.2))
      ])

  -- if the goal's entry may be taken and leads on, it is taken
  pub settles : (n i : ℕ) → i < length (switches cells) → may_change cells q held goal line i (switch_at cells i) ≡ true → By n i
      → Settled cells next goal line (suc n) i
  settles n i less may (inl e) =
      let here = tried_if cells q held goal next line is i (Ends (Taken line.port)) less e (inl may) in
      let entry = entry_if cells q held goal next line is i less (comes_made line.port (tried cells q held goal line) (To i) (1, here)) (inl may) in
      (less, entry, inl e)
  settles n i less may (inr t) =
      let c = settled_tried n t.0 t.2 in
      let here = tried_if cells q held goal next line is i (To t.0) less t.1 (inl may) in
      let all : Comes line.port (tried cells q held goal line) (To i) = (suc c.0, ap (after c.0 (tried cells q held goal line)) here ∙ c.1) in
      let entry = entry_if cells q held goal next line is i less (comes_made line.port (tried cells q held goal line) (To i) all) (inl may) in
      (less, entry, inr (t.0, t.1, settled_stays n t.0 t.2))

  -- when it may be
  settled_is : (n j : ℕ) → Settled cells held goal line n j → is_same cells held goal line.lid (switch_at cells j) ≡ true
  settled_is zero j s = absurd s
  settled_is (suc n) j s = eq-eqb (entry_for held line.lid (switch_at cells j)) (entry_for goal line.lid (switch_at cells j)) s.1

  settled_in : (n j : ℕ) → Settled cells held goal line n j → j < length (switches cells)
  settled_in zero j s = absurd s
  settled_in (suc n) j s = s.0

  settled_leads : (n j : ℕ) → Settled cells held goal line n j → delivers cells held line (switch_at cells j) ≡ true
  settled_leads n j s =
      let c = settled_comes n j s in
      comes_made line.port (next_hops_of cells held line.lid) (step_at cells held line.lid (switch_at cells j)) (rest c.0 c.1)
    where
      rest : (k : ℕ) → after k (next_hops_of cells held line.lid) (To j) ≡ Ends (Taken line.port)
          → Comes line.port (next_hops_of cells held line.lid) (step_at cells held line.lid (switch_at cells j))
      rest zero h = absurd (cc)
      rest (suc k) h = (k, sym (ap (after k (next_hops_of cells held line.lid)) (steps_at cells q held goal next line is held j (settled_in n j s))) ∙ h)

  may_if : (i : ℕ) (s : NextHop) → step_at cells goal line.lid (switch_at cells i) ≡ s → turns_well cells q held goal line.lid i s ≡ true
      → leads_in cells held line s ≡ true → may_change cells q held goal line i (switch_at cells i) ≡ true
  may_if i s e well leads =
      subst (λ (x : NextHop). (turns_well cells q held goal line.lid i x && (not (delivers cells held line (switch_at cells i)) || leads_in cells held line x)) ≡ true)
      (sym e)
      (both_true (turns_well cells q held goal line.lid i s) (not (delivers cells held line (switch_at cells i)) || leads_in cells held line s) well
      (either_true (delivers cells held line (switch_at cells i)) (leads_in cells held line s) (λ d. leads)))

  pub may_take : (i : ℕ) → step_at cells goal line.lid (switch_at cells i) ≡ Ends (Taken line.port)
      → may_change cells q held goal line i (switch_at cells i) ≡ true
  may_take i e = may_if i (Ends (Taken line.port)) e refl (same_itself line.port)

  none_made : (i : ℕ) → ((x : ℕ) → Leads cells held line.lid x i → is_down q x i ≡ true
      → entry_for held line.lid (switch_at cells x) ≡ entry_for goal line.lid (switch_at cells x)) → none_comes_down cells q held goal line.lid i ≡ true
  none_made i each =
      below_made (λ x. not (comes_down q x i (step_at cells held line.lid (switch_at cells x))) || is_same cells held goal line.lid (switch_at cells x))
      (length (switches cells)) (λ x less.
      either_true (comes_down q x i (step_at cells held line.lid (switch_at cells x))) (is_same cells held goal line.lid (switch_at cells x))
      (by x less (step_at cells held line.lid (switch_at cells x)) refl))
    where
      by : (x : ℕ) → x < length (switches cells) → (s : NextHop) → step_at cells held line.lid (switch_at cells x) ≡ s → comes_down q x i s ≡ true
          → is_same cells held goal line.lid (switch_at cells x) ≡ true
      by x less (Ends e) is_s h = absurd (cc)
      by x less (To j) is_s h =
          let parts = and_parts (j == i) (is_down q x i) h in
          let same : j ≡ i = eqb-true j i parts.0 in
          let there : step_at cells held line.lid (switch_at cells x) ≡ To i = is_s ∙ ap (λ (k : ℕ). To k) same in
          eq-eqb (entry_for held line.lid (switch_at cells x)) (entry_for goal line.lid (switch_at cells x))
          (each x (leads_from cells held line.lid x i less there) parts.1)

  pub may_go : (n i j : ℕ) → step_at cells goal line.lid (switch_at cells i) ≡ To j → Settled cells held goal line n j
      → (is_up q i j ≡ true → (x : ℕ) → Leads cells held line.lid x i → is_down q x i ≡ true
      → entry_for held line.lid (switch_at cells x) ≡ entry_for goal line.lid (switch_at cells x))
      → may_change cells q held goal line i (switch_at cells i) ≡ true
  may_go n i j e s each =
      may_if i (To j) e
      (both_true (not (is_up q i j) || none_comes_down cells q held goal line.lid i) (not (is_down q i j) || none_goes_up cells q held goal line.lid j)
      (either_true (is_up q i j) (none_comes_down cells q held goal line.lid i) (λ up. none_made i (each up)))
      (either_true (is_down q i j) (none_goes_up cells q held goal line.lid j) (λ down.
      either_true (goes_up q j (step_at cells held line.lid (switch_at cells j))) (is_same cells held goal line.lid (switch_at cells j)) (λ up. settled_is n j s))))
      (settled_leads n j s)

-- positions
no_later : (a b : ℕ) → not (nat_lt b a) ≡ true → b ≤ a → a ≡ b
no_later a b h le = grind arith

not_before : (a b : ℕ) → not (nat_lt a b) ≡ false → nat_lt b a ≡ false
not_before a b h = grind arith

turns_not : (a : ℕ) → (not (nat_lt a a) && not (nat_lt a a)) ≡ false → ⊥
turns_not a h = grind arith

settled_entry : (cells : Cells) (held goal : HeldPlan) (line : HeldLid) (n i : ℕ) → Settled cells held goal line n i
    → entry_for held line.lid (switch_at cells i) ≡ entry_for goal line.lid (switch_at cells i)
settled_entry cells held goal line zero i s = absurd s
settled_entry cells held goal line (suc n) i s = s.1

-- steps in turn ------------------------------------------------------------------------

module _ (cells : Cells) (q : ℕ → ℕ) (goal : HeldPlan) (line : HeldLid) (tables : ℕ → HeldPlan) (are : AreStepsByOrder cells q goal line tables) where
  pub owned : (n : ℕ) → owners_of goal line.lid ≡ owners_of (tables n) line.lid
  owned zero = are.owners
  owned (suc n) = let step = are.steps n in owned n ∙ sym step.owners

  pub right : (n : ℕ) → AreRight cells q (tables n) line.lid
  right zero = are.held_right
  right (suc n) =
      next_are_right cells q (tables n) goal (tables (suc n)) line.lid (right n) are.goal_right
      (tried_is_choice cells q (tables n) goal (tables (suc n)) line (are.steps n))

  pub step_is : (n : ℕ) → IsLineStep cells q (tables n) goal line (tables (suc n))
  step_is n = record { order = are.order; owners = owned n; held_right = right n; goal_right = are.goal_right; is_next = are.steps n }

  pub goal_on : (i j : ℕ) → Leads cells goal line.lid i j → DeliverFrom cells goal line j → DeliverFrom cells goal line i
  goal_on i j l d =
      let less = leads_within cells goal line.lid i j l in
      let here : at (next_hops_of cells goal line.lid) i ≡ To j =
      at_mapped (step_at cells goal line.lid) (switches cells) i (To i) less ∙ leads_at cells goal line.lid i j l in
      (suc d.0, ap (after d.0 (next_hops_of cells goal line.lid)) here ∙ d.1)

  pub covers : (n i j : ℕ) → Leads cells (tables n) line.lid i j → DeliverFrom cells goal line j → DeliverFrom cells goal line i
  covers zero i j l d = are.covers i j l d
  covers (suc n) i j l d =
      elim (tried_is_choice cells q (tables n) goal (tables (suc n)) line (are.steps n) i l.switch l.is_there) [
        | inl e ↦ covers n i j (leads_same cells (tables (suc n)) (tables n) line.lid i j l e) d
        | inr (inl e) ↦ absurd (none_to cells (tables (suc n)) line.lid l.switch j e l.goes)
        | inr (inr c) ↦ goal_on i j (leads_same cells (tables (suc n)) goal line.lid i j l c.0) d
      ]

  more : (k n m i : ℕ) → Settled cells (tables m) goal line n i → Settled cells (tables (m + k)) goal line n i
  more zero n m i s = let e : m ≡ m + 0 = omega arith in subst (λ (x : ℕ). Settled cells (tables x) goal line n i) e s
  more (suc k) n m i s =
      let e : suc m + k ≡ m + suc k = omega arith in
      subst (λ (x : ℕ). Settled cells (tables x) goal line n i) e
      (more k n (suc m) i (settled_stays cells q (tables m) goal (tables (suc m)) line (step_is m) n i s))

  -- by the goal a packet goes to the port, or to a switch from which the goal delivers
  first_of_goal : (i : ℕ) → i < length (switches cells) → DeliverFrom cells goal line i
      → (step_at cells goal line.lid (switch_at cells i) ≡ Ends (Taken line.port))
      ⊎ ((j : ℕ) × (step_at cells goal line.lid (switch_at cells i) ≡ To j) × DeliverFrom cells goal line j)
  first_of_goal i less d = by d.0 d.1
    where
      P : List NextHop
      P = next_hops_of cells goal line.lid

      onwards : (s : NextHop) → step_at cells goal line.lid (switch_at cells i) ≡ s → (n : ℕ) → after n (next_hops_of cells goal line.lid) s ≡ Ends (Taken line.port)
          → (s ≡ Ends (Taken line.port)) ⊎ ((j : ℕ) × (s ≡ To j) × DeliverFrom cells goal line j)
      onwards (Ends e) is_s n h = inl (sym (after_ended n (next_hops_of cells goal line.lid) e) ∙ h)
      onwards (To j) is_s n h = inr (j, refl, (n, h))

      by : (n : ℕ) → after n (next_hops_of cells goal line.lid) (To i) ≡ Ends (Taken line.port)
          → (step_at cells goal line.lid (switch_at cells i) ≡ Ends (Taken line.port))
          ⊎ ((j : ℕ) × (step_at cells goal line.lid (switch_at cells i) ≡ To j) × DeliverFrom cells goal line j)
      by zero h = absurd (cc)
      by (suc n) h =
          onwards (step_at cells goal line.lid (switch_at cells i)) refl n
          (sym (ap (after n (next_hops_of cells goal line.lid)) (at_mapped (step_at cells goal line.lid) (switches cells) i (To i) less)) ∙ h)

  module _ (depth : ℕ → ℕ) (deep : IsDepth cells q goal line depth) where
    abbrev Settles : ℕ → ℕ → Type 0
    Settles k i = (n : ℕ) × Settled cells (tables k) goal line n i

    -- no other switch comes down to one that waits but by the goal's entry
    same_there : (k i j : ℕ) → ((x : ℕ) → x < length (switches cells) → DeliverFrom cells goal line x → depth x ≤ k → Settles k x)
        → DeliverFrom cells goal line i → depth i ≤ suc k → Leads cells goal line.lid i j → is_up q i j ≡ true
        → (x : ℕ) → Leads cells (tables k) line.lid x i → is_down q x i ≡ true
        → entry_for (tables k) line.lid (switch_at cells x) ≡ entry_for goal line.lid (switch_at cells x)
    same_there k i j before d most led up x l down =
        let x_less = leads_within cells (tables k) line.lid x i l in
        let i_less = leads_within cells goal line.lid i j led in
        elim (cases_lt (q x) (q i)) [
          | inl earlier ↦
              let d_x = covers k x i l d in
              let wired = to_wired cells (tables k) line.lid (switch_at cells x) i (leads_at cells (tables k) line.lid x i l) in
              let less = deep.earlier i j x led up x_less d_x earlier wired in
              let s = before x x_less d_x (omega arith) in
              settled_entry cells (tables k) goal line s.0 x s.1
          | inr later ↦
              let same : q x ≡ q i = no_later (q x) (q i) down later in
              let wired = to_wired cells (tables k) line.lid (switch_at cells x) i (leads_at cells (tables k) line.lid x i l) in
              let e : x ≡ i = are.apart x i x_less i_less wired same in
              let own = subst (λ (y : ℕ). Leads cells (tables k) line.lid y i) e l in
              absurd (turns_not (q i) (right k i i i own own))
        ]

    pub in_time : (k i : ℕ) → i < length (switches cells) → DeliverFrom cells goal line i → depth i ≤ k → Settles k i
    in_time zero i less d most = let one = deep.first i in absurd (omega arith)
    in_time (suc k) i less d most =
        elim (cases_lt k (depth i)) [
          | inr early ↦
              let s = in_time k i less d early in
              (s.0, settled_stays cells q (tables k) goal (tables (suc k)) line (step_is k) s.0 i s.1)
          | inl last ↦ elim (first_of_goal i less d) [
            | inl e ↦ (
              1,
              settles cells q (tables k) goal (tables (suc k)) line (step_is k) 0 i less
                  (may_take cells q (tables k) goal (tables (suc k)) line (step_is k) i e) (inl e),
            )
            | inr t ↦
                let j = t.0 in
                let led = leads_from cells goal line.lid i j less t.1 in
                let j_less = to_within cells goal line.lid (switch_at cells i) j t.1 in
                let before = deep.next i j led t.2 in
                let s = in_time k j j_less t.2 (omega arith) in
                let each : is_up q i j ≡ true → (x : ℕ) → Leads cells (tables k) line.lid x i → is_down q x i ≡ true
                → entry_for (tables k) line.lid (switch_at cells x) ≡ entry_for goal line.lid (switch_at cells x) =
                λ up x l down. same_there k i j (in_time k) d most led up x l down in
                let may = may_go cells q (tables k) goal (tables (suc k)) line (step_is k) s.0 i j t.1 s.1 each in
                (suc s.0, settles cells q (tables k) goal (tables (suc k)) line (step_is k) s.0 i less may (inr (j, t.1, s.1)))
          ]
        ]

    pub stays_in : (k m i : ℕ) → k ≤ m → Settles k i → Settles m i
    stays_in k m i most s =
        let e : k + (m - k) ≡ m = omega arith in
        (s.0, subst (λ (x : ℕ). Settled cells (tables x) goal line s.0 i) e (more (m - k) s.0 k i s.1))

    pub ends : (i g m : ℕ) → slice_get (switches cells) i ≡ Some g → DeliverFrom cells goal line i → depth i ≤ m
        → (entry_for (tables m) line.lid g ≡ entry_for goal line.lid g) × DeliverFrom cells (tables m) line i
    ends i g m at_g d most =
        let less = within_length (switches cells) i g at_g in
        let s = in_time m i less d most in (
          subst (λ (x : ℕ). entry_for (tables m) line.lid x ≡ entry_for goal line.lid x) (at_index (switches cells) i g 0 at_g)
              (settled_entry cells (tables m) goal line s.0 i s.1),
          settled_comes cells q (tables m) goal (tables (suc m)) line (step_is m) s.0 i s.1,
        )

pub end_in_the_goal : EndInTheGoal
end_in_the_goal cells q goal line tables are depth deep i g m at_g d most = ends cells q goal line tables are depth deep i g m at_g d most

-- a depth that there is always ----------------------------------------------------------

module _ (cells : Cells) (q : ℕ → ℕ) (goal : HeldPlan) (line : HeldLid) (tables : ℕ → HeldPlan) (are : AreStepsByOrder cells q goal line tables) where
  abbrev number_at : Bool → ℕ → ℕ
  number_at up a = cond up (length (switches cells) + 1 + a) (length (switches cells) - a)

  abbrev is_upward : ℕ → Bool
  is_upward i = goes_up q i (step_at cells goal line.lid (switch_at cells i))

  -- those outside the switches have no depth to speak of
  abbrev depth_of : ℕ → ℕ
  depth_of i = cond (nat_lt (q i) (length (switches cells))) (number_at (is_upward i) (q i)) 1

  within_number : (i : ℕ) → i < length (switches cells) → depth_of i ≡ number_at (is_upward i) (q i)
  within_number i less = ap (λ t. cond t (number_at (is_upward i) (q i)) 1) (lt_true (q i) (length (switches cells)) (are.order i less))
    where
      lt_true : (a b : ℕ) → a < b → nat_lt a b ≡ true
      lt_true a b h = grind arith

  first_is : (b : Bool) (a n : ℕ) → 1 ≤ cond (nat_lt a n) (cond b (n + 1 + a) (n - a)) 1
  first_is b a n = grind arith

  up_is : (i j : ℕ) → Leads cells goal line.lid i j → is_upward i ≡ is_up q i j
  up_is i j l = ap (goes_up q i) (leads_at cells goal line.lid i j l)

  -- on one that leads down none goes up
  on_down : (i j : ℕ) → j < length (switches cells) → Leads cells goal line.lid i j → is_up q i j ≡ false → is_upward j ≡ false
  on_down i j j_less l down = by (step_at cells goal line.lid (switch_at cells j)) refl
    where
      no_more : (a b c : ℕ) → not (nat_lt a b) ≡ false → (not (nat_lt b a) && not (nat_lt b c)) ≡ false → not (nat_lt b c) ≡ false
      no_more a b c h k = subst (λ (t : Bool). (not t && not (nat_lt b c)) ≡ false) (not_before a b h) k

      by : (s : NextHop) → step_at cells goal line.lid (switch_at cells j) ≡ s → goes_up q j s ≡ false
      by (Ends e) is_s = refl
      by (To k) is_s = no_more (q i) (q j) (q k) down (are.goal_right i j k l (leads_from cells goal line.lid j k j_less is_s))

  number_down : (n a b : ℕ) → a < n → b < n → not (nat_lt a b) ≡ false → n - b < n - a
  number_down n a b x y h = grind arith

  number_up : (n a b : ℕ) (t : Bool) → b < n → b < a → cond t (n + 1 + b) (n - b) < n + 1 + a
  number_up n a b true y h = omega arith
  number_up n a b false y h = omega arith

  lower : (a b : ℕ) → not (nat_lt a b) ≡ true → (b ≡ a → ⊥) → b < a
  lower a b h differ = grind arith

  next_is : (i j : ℕ) → Leads cells goal line.lid i j → DeliverFrom cells goal line j → depth_of j < depth_of i
  next_is i j l d =
      let less = leads_within cells goal line.lid i j l in
      let j_less = to_within cells goal line.lid (switch_at cells i) j (leads_at cells goal line.lid i j l) in
      let n = length (switches cells) in
      subst (λ (x : ℕ). x < depth_of i) (sym (within_number j j_less))
      (subst (λ (x : ℕ). number_at (is_upward j) (q j) < x) (sym (within_number i less ∙ ap (λ t. number_at t (q i)) (up_is i j l)))
      ((elim (is_up q i j) as (λ t. is_up q i j ≡ t → number_at (is_upward j) (q j) < number_at t (q i)) [
        | true ↦ λ up.
            number_up n (q i) (q j) (is_upward j) (are.order j j_less)
            (lower (q i) (q j) up (λ same.
            let wired = to_wired cells goal line.lid (switch_at cells i) j (leads_at cells goal line.lid i j l) in
            let e : i ≡ j = are.apart i j less j_less wired (sym same) in
            let own = subst (λ (y : ℕ). Leads cells goal line.lid i y) (sym e) l in
            turns_not (q i) (are.goal_right i i i own own)))
        | false ↦ λ down.
            subst (λ (t : Bool). number_at t (q j) < number_at false (q i)) (sym (on_down i j j_less l down))
            (number_down n (q i) (q j) (are.order i less) (are.order j j_less) down)
      ]) refl))

  earlier_is : (i j x : ℕ) → Leads cells goal line.lid i j → is_up q i j ≡ true → x < length (switches cells) → q x < q i
      → depth_of x < depth_of i
  earlier_is i j x l up x_less h =
      let less = leads_within cells goal line.lid i j l in
      subst (λ (y : ℕ). y < depth_of i) (sym (within_number x x_less))
      (subst (λ (y : ℕ). number_at (is_upward x) (q x) < y) (sym (within_number i less ∙ ap (λ t. number_at t (q i)) (up_is i j l ∙ up)))
      (number_up (length (switches cells)) (q i) (q x) (is_upward x) (are.order x x_less) h))

  number_most : (n a : ℕ) (t : Bool) → a < n → cond t (n + 1 + a) (n - a) ≤ 2 * n
  number_most n a true h = omega arith
  number_most n a false h = omega arith

  pub depth_is : IsDepth cells q goal line depth_of
  depth_is = record {
    first = λ i. first_is (is_upward i) (q i) (length (switches cells));
    next = next_is;
    earlier = λ i j x l up x_less d h wired. earlier_is i j x l up x_less h;
  }

  pub in_all : (i g m : ℕ) → slice_get (switches cells) i ≡ Some g → DeliverFrom cells goal line i → 2 * length (switches cells) ≤ m
      → (entry_for (tables m) line.lid g ≡ entry_for goal line.lid g) × DeliverFrom cells (tables m) line i
  in_all i g m at_g d most =
      let less = within_length (switches cells) i g at_g in
      let few = number_most (length (switches cells)) (q i) (is_upward i) (are.order i less) in
      let is = within_number i less in
      end_in_the_goal cells q goal line tables are depth_of depth_is i g m at_g d (omega (arith, few, is))

pub end_in_twice_as_many : EndInTwiceAsMany
end_in_twice_as_many cells q goal line tables are i g m at_g d most = in_all cells q goal line tables are i g m at_g d most
