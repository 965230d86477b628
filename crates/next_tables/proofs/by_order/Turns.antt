-- Why no turn is bad.
use Rattle.std.proofs.Common.{◌≡◌, ℕ, ◌<◌, ◌+◌, Bool, true, false, length, refl, ap, ◌∙◌, subst, arith, inl, inr, ◌⊎◌}
use Rattle.std.specs.Prelude.{slice_index_or, not, ◌==◌, ◌&&◌, ◌||◌, Contains}
use Rattle.std.specs.List.{list_all, range_with_len}
use Rattle.std.proofs.lemmas.Bool.{and_parts, eqb-true, eq-eqb}
use Rattle.std.proofs.lemmas.List.Sums.{AllPass-from_list_all}
use Rattle.std.proofs.lemmas.List.FromFn.{length-range_with_len, get_or-range_with_len}
use Rattle.subnet_view.specs.Reading.{Cells, switches}
use Rattle.held_tables.specs.Held.{HeldPlan}
use Rattle.packet_walks.specs.declared.next_hop.NextHop.{NextHop}
use Rattle.packet_walks.specs.declared.next_hop.NextHop.TheVariants.{To}
use Rattle.held_tables.specs.Tables.{entry_for}
use Rattle.next_tables.specs.Mixtures.{IsMixed}
use Rattle.next_tables.specs.SettledRule.{step_at}
use Rattle.next_tables.proofs.Entries.{member}
use Rattle.next_tables.proofs.Steps.{at_index}
use Rattle.next_tables.specs.OrderRule.{IsChoice, is_same, comes_down, none_comes_down, goes_up, none_goes_up, turns_well}
use Rattle.next_tables.specs.SwitchPositions.{is_down, is_up, is_bad, Leads, AreRight, switch_at}
use Rattle.next_tables.specs.OrderedStepLaws.{NoBadTurn, NextAreRight}
use Rattle.next_tables.proofs.Hops.{leads_same, leads_same_at, leads_at, leads_within, none_to, to_same}

-- tests
pub not_true : (t : Bool) → (t ≡ true → ⊥) → t ≡ false
not_true true h = absurd (h refl)
not_true false h = refl

pub known : (a b : Bool) → (not a || b) ≡ true → a ≡ true → b ≡ true
known true b h e = h
known false b h e = absurd (cc)

-- each test of all numbers below a count
pub below_at : (p : ℕ → Bool) (n : ℕ) → list_all p (range_with_len 0 n) ≡ true → (x : ℕ) → x < n → p x ≡ true
below_at p n h x less =
    let long : length (range_with_len 0 n) ≡ n = length-range_with_len 0 n in
    let e : slice_index_or (range_with_len 0 n) x 0 ≡ 0 + x = get_or-range_with_len 0 n x 0 less in
    let same : 0 + x ≡ x = omega arith in
    subst (λ (y : ℕ). p y ≡ true) (e ∙ same) (AllPass-from_list_all p (range_with_len 0 n) h x 0 (omega (arith, long)))

module _ (cells : Cells) (q : ℕ → ℕ) (held goal : HeldPlan) (lid : ℕ) (held_right : AreRight cells q held lid) (goal_right : AreRight cells q goal lid) where
  -- what is asked of the goal's entry
  pub comes_by_goal : (i j x : ℕ) → turns_well cells q held goal lid i (To j) ≡ true → is_up q i j ≡ true → Leads cells held lid x i → is_down q x i ≡ true
      → Leads cells goal lid x i
  comes_by_goal i j x well up l down =
      let parts = and_parts (not (is_up q i j) || none_comes_down cells q held goal lid i) (not (is_down q i j) || none_goes_up cells q held goal lid j) well in
      let all = known (is_up q i j) (none_comes_down cells q held goal lid i) parts.0 up in
      let here = below_at (λ y. not (comes_down q y i (step_at cells held lid (switch_at cells y))) || is_same cells held goal lid (switch_at cells y))
      (length (switches cells)) all x (leads_within cells held lid x i l) in
      let itself : (i == i) ≡ true = eq-eqb i i refl in
      let comes : comes_down q x i (step_at cells held lid (switch_at cells x)) ≡ true =
      ap (comes_down q x i) (leads_at cells held lid x i l) ∙ ap (λ t. t && is_down q x i) itself ∙ down in
      let same = known (comes_down q x i (step_at cells held lid (switch_at cells x))) (is_same cells held goal lid (switch_at cells x)) here comes in
      let entry = eqb-true (entry_for held lid (switch_at cells x)) (entry_for goal lid (switch_at cells x)) same in
      leads_same_at cells held goal lid x i l entry

  pub goes_by_goal : (i j k : ℕ) → turns_well cells q held goal lid i (To j) ≡ true → is_down q i j ≡ true → Leads cells held lid j k → is_up q j k ≡ true
      → Leads cells goal lid j k
  goes_by_goal i j k well down l up =
      let parts = and_parts (not (is_up q i j) || none_comes_down cells q held goal lid i) (not (is_down q i j) || none_goes_up cells q held goal lid j) well in
      let none = known (is_down q i j) (none_goes_up cells q held goal lid j) parts.1 down in
      let goes : goes_up q j (step_at cells held lid (switch_at cells j)) ≡ true = ap (goes_up q j) (leads_at cells held lid j k l) ∙ up in
      let same = known (goes_up q j (step_at cells held lid (switch_at cells j))) (is_same cells held goal lid (switch_at cells j)) none goes in
      let entry = eqb-true (entry_for held lid (switch_at cells j)) (entry_for goal lid (switch_at cells j)) same in
      leads_same_at cells held goal lid j k l entry

  -- a switch sends packets on by the held tables, or by the goal's if that turns well
  abbrev pub Goes : ℕ → ℕ → Type 0
  Goes i j = Leads cells held lid i j ⊎ (Leads cells goal lid i j × (turns_well cells q held goal lid i (To j) ≡ true))

  pub goes_well : (i j k : ℕ) → Goes i j → Goes j k → is_bad q i j k ≡ true → ⊥
  goes_well i j k (inl a) (inl b) bad = let no = held_right i j k a b in absurd (cc)
  goes_well i j k (inl a) (inr b) bad =
      let parts = and_parts (is_down q i j) (is_up q j k) bad in
      let no = goal_right i j k (comes_by_goal j k i b.1 parts.1 a parts.0) b.0 in absurd (cc)
  goes_well i j k (inr a) (inl b) bad =
      let parts = and_parts (is_down q i j) (is_up q j k) bad in
      let no = goal_right i j k a.0 (goes_by_goal i j k a.1 parts.0 b parts.1) in absurd (cc)
  goes_well i j k (inr a) (inr b) bad = let no = goal_right i j k a.0 b.0 in absurd (cc)

  module _ (next : HeldPlan) (choice : IsChoice cells q held goal lid next) where
    pub next_goes : (i j : ℕ) → Leads cells next lid i j → Goes i j
    next_goes i j l =
        elim (choice i l.switch l.is_there) [
          | inl e ↦ inl (leads_same cells next held lid i j l e)
          | inr (inl e) ↦ absurd (none_to cells next lid l.switch j e l.goes)
          | inr (inr c) ↦
              let goes = to_same cells next goal lid l.switch j c.0 l.goes in
              inr (leads_same cells next goal lid i j l c.0, subst (λ (s : NextHop). turns_well cells q held goal lid i s ≡ true) goes c.1)
        ]

    pub mixed_goes : (mixed : HeldPlan) → IsMixed cells held next lid mixed → (i j : ℕ) → Leads cells mixed lid i j → Goes i j
    mixed_goes mixed is i j l =
        let there = subst (λ (g : ℕ). Contains (switches cells) g) (at_index (switches cells) i l.switch 0 l.is_there)
        (member (switches cells) i (leads_within cells mixed lid i j l)) in
        elim (is.entries l.switch there) [
          | inl e ↦ inl (leads_same cells mixed held lid i j l e)
          | inr e ↦ next_goes i j (leads_same cells mixed next lid i j l e)
        ]

pub no_bad_turn : NoBadTurn
no_bad_turn cells q held goal next lid held_right goal_right choice before now before_is now_is i j k a b =
    not_true (is_bad q i j k) (goes_well cells q held goal lid held_right goal_right i j k
    (mixed_goes cells q held goal lid held_right goal_right next choice before before_is i j a)
    (mixed_goes cells q held goal lid held_right goal_right next choice now now_is j k b))

pub next_are_right : NextAreRight
next_are_right cells q held goal next lid held_right goal_right choice i j k a b =
    not_true (is_bad q i j k) (goes_well cells q held goal lid held_right goal_right i j k
    (next_goes cells q held goal lid held_right goal_right next choice i j a)
    (next_goes cells q held goal lid held_right goal_right next choice j k b))
