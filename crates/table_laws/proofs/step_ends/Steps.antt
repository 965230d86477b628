-- Steps of `next`, one after the other: by settled entries, and from tables that are right on by the order.
use Rattle.std.proofs.Common.{◌≡◌, ◌≤◌, ◌<◌, ◌+◌, ◌-◌, ℕ, zero, suc, max, Bool, true, false, cond, Some, refl, sym, ap, ◌∙◌, subst, arith, inl, inr, ◌⊎◌}
use Rattle.std.specs.Prelude.{slice_get}
use Rattle.std.proofs.lemmas.Bool.{cases_lt}
use Rattle.fact_store.specs.View.{Facts, cells_of, AreInRange}
use Rattle.subnet_view.specs.Reading.{Cells, switches}
use Rattle.lid_assign.specs.Lids.{IsNoRoom}
use Rattle.lft_blocks.specs.Rule.{RuleValue}
use Rattle.plan_order.specs.PlanOrder.{positions_by}
use Rattle.held_tables.specs.Held.{HeldPlan}
use Rattle.held_tables.specs.Tables.{top_of}
use Rattle.packet_walks.proofs.EntrySteps.{contains_at}
use Rattle.next_tables.specs.NextTables.{by_order, next_tables, settled_first}
use Rattle.next_tables.specs.SettledStepLaws.{stepped as settled}
use Rattle.next_tables.proofs.Whole.{entry_next, top_next}
use Rattle.next_tables.specs.Rightness.{are_right}
use Rattle.next_tables.proofs.by_order.ToldRight.{rightness_is_told}
use Rattle.table_laws.specs.PlanLaws.{plan_position}
use Rattle.next_run.specs.NextRun.{step_rule, stepped}
use Rattle.plan_tables.specs.PlanTables.{planned}
use Rattle.table_laws.specs.StepEnds.{AreEnough}
use Rattle.table_laws.proofs.step_ends.Alone.{each_alone}
use Rattle.table_laws.proofs.step_ends.Ended.{steps_end}
use Rattle.table_laws.proofs.step_ends.Last.{AreLast, last_same, settled_last}
use Rattle.table_laws.proofs.step_ends.OrderedLast.{after_steps, onward, ordered_last, right_after}
use Rattle.table_laws.proofs.step_ends.Reached.{plans_deliver_what_tables_can}
use Rattle.next_run.proofs.SameTables.{AreAlikeAt, next_same}

once_more : (a b : ℕ) → max (max a b) b ≡ max a b
once_more a b = omega arith

module _ (rule : RuleValue) (lmc : ℕ) (facts : Facts) (range : AreInRange facts) (has_room : ¬ (IsNoRoom lmc (cells_of facts))) where
  abbrev cells : Cells
  cells = cells_of facts

  abbrev plan : HeldPlan
  plan = planned lmc rule facts

  abbrev is_right : HeldPlan → Bool
  is_right tables = are_right (cells_of facts) (plan_position rule (cells_of facts)) tables

  abbrev step : HeldPlan → HeldPlan
  step tables = stepped lmc rule facts tables

  abbrev pub steps : HeldPlan → ℕ → HeldPlan
  steps tables zero = tables
  steps tables (suc n) = stepped lmc rule facts (steps tables n)

  by_order_step : (tables : HeldPlan) → is_right tables ≡ true → step tables ≡ onward rule lmc facts range has_room tables
  by_order_step tables right = ap (λ t. next_tables cells (cond t (by_order (positions_by rule cells)) settled_first) tables plan) right

  settled_step : (tables : HeldPlan) → is_right tables ≡ false → step tables ≡ next_tables cells settled_first tables plan
  settled_step tables wrong = ap (λ t. next_tables cells (cond t (by_order (positions_by rule cells)) settled_first) tables plan) wrong

  -- from right tables on
  pub right_steps : (tables : HeldPlan) → is_right tables ≡ true → (n : ℕ) → steps tables n ≡ after_steps rule lmc facts range has_room tables n
  right_steps tables right zero = refl
  right_steps tables right (suc n) =
      let told = rightness_is_told cells (plan_position rule cells) in
      ap step (right_steps tables right n)
      ∙ by_order_step (after_steps rule lmc facts range has_room tables n)
      ((told (after_steps rule lmc facts range has_room tables n)).1
      (right_after rule lmc facts range has_room tables ((told tables).0 right) n))

  steps_add : (tables : HeldPlan) (k n : ℕ) → steps tables (k + n) ≡ steps (steps tables k) n
  steps_add tables k zero = let at : k + 0 ≡ k = omega arith in ap (steps tables) at
  steps_add tables k (suc n) = let at : k + suc n ≡ suc (k + n) = omega arith in ap (steps tables) at ∙ ap step (steps_add tables k n)

  module _ (held : HeldPlan) where
    abbrev U : ℕ → HeldPlan
    U n = steps held n

    -- whether any of the first tables are right
    known : (m : ℕ) (t : Bool) → is_right (U m) ≡ t → ((k : ℕ) → k < m → is_right (U k) ≡ false)
        → ((k : ℕ) × (k ≤ m) × (is_right (U k) ≡ true)) ⊎ ((k : ℕ) → k ≤ m → is_right (U k) ≡ false)
    known m true e before = inl (m, omega arith, e)
    known m false e before = inr (λ k le. elim (cases_lt k m) [
      | inl less ↦ before k less
      | inr more ↦ (let at : m ≡ k = omega (arith, le, more) in ap (λ j. is_right (U j)) (sym at) ∙ e)
    ])

    found : (m : ℕ) → ((k : ℕ) × (k ≤ m) × (is_right (U k) ≡ true)) ⊎ ((k : ℕ) → k ≤ m → is_right (U k) ≡ false)
    found zero = known zero (is_right (U zero)) refl (λ k less. absurd (omega arith))
    found (suc m) =
        elim (found m) [
          | inl one ↦ inl (one.0, omega (arith, one.1), one.2)
          | inr none ↦ known (suc m) (is_right (U (suc m))) refl (λ k less. none k (omega arith))
        ]

    settled_so_far : (m : ℕ) → ((k : ℕ) → k ≤ m → is_right (U k) ≡ false) → (n : ℕ) → n ≤ suc m → U n ≡ settled cells plan held n
    settled_so_far m none zero le = refl
    settled_so_far m none (suc n) le =
        settled_step (U n) (none n (omega arith))
        ∙ ap (λ (tables : HeldPlan). next_tables cells settled_first tables plan) (settled_so_far m none n (omega arith))

    still : (m : ℕ) → step (U m) ≡ U m → (j : ℕ) → U (m + j) ≡ U m
    still m e zero = let at : m + 0 ≡ m = omega arith in ap (steps held) at
    still m e (suc j) = let at : m + suc j ≡ suc (m + j) = omega arith in ap (steps held) at ∙ ap step (still m e j) ∙ e

    pub in_the_end : (n : ℕ) → AreEnough rule lmc facts n → AreLast cells plan (U n)
    in_the_end n are =
        let m = are.most in
        let can = plans_deliver_what_tables_can rule lmc facts range has_room in
        elim (found m) [
          | inl one ↦
              let k = one.0 in
              let rest : ℕ = n - k in
              let at : k + rest ≡ n = omega (arith, one.1, are.enough) in
              let tables = U k in
              let right = (rightness_is_told cells (plan_position rule cells) tables).0 one.2 in
              subst (AreLast cells plan)
              (sym (ap (steps held) (sym at) ∙ steps_add held k rest ∙ right_steps tables one.2 rest))
              (ordered_last rule lmc facts range has_room tables right rest (omega (arith, at, one.1, are.enough)) (omega (arith, at, one.1, are.enough)))
          | inr none ↦
              let here = settled_so_far m none m (omega arith) in
              let on : step (U m) ≡ U m =
              settled_so_far m none (suc m) (omega arith) ∙ steps_end cells held plan m m can are.meet (omega arith) are.two ∙ sym here in
              let at : m + (n - m) ≡ n = omega (arith, are.enough) in
              subst (AreLast cells plan) (sym (ap (steps held) (sym at) ∙ still m on (n - m) ∙ here))
              (settled_last cells held plan m can are.meet m (omega arith) are.two)
        ]

    more : (n : ℕ) → AreEnough rule lmc facts n → AreEnough rule lmc facts (suc n)
    more n are = record { most = are.most; meet = are.meet; two = are.two; enough = omega (arith, are.enough) }

    alike : (k i g : ℕ) → AreEnough rule lmc facts (suc k) → slice_get (switches cells) i ≡ Some g
        → AreAlikeAt cells (step_rule rule facts (U (suc k))) (step_rule rule facts (U k)) (U (suc k)) plan (U k) plan g
    alike k i g are at =
        let here = contains_at (switches cells) i g at in
        let one = step_rule rule facts (U (suc k)) in
        let other = step_rule rule facts (U k) in
        record {
          top = ap (λ t. max t (top_of plan g)) (top_next cells other (U k) plan g here) ∙ once_more (top_of (U k) g) (top_of plan g);
          entries = λ lid. sym (entry_next cells one (U (suc k)) plan g lid here)
              ∙ last_same cells plan (U (suc (suc k))) (U (suc k)) (each_alone rule lmc facts has_room) (in_the_end (suc (suc k)) (more (suc k) are))
              (in_the_end (suc k) are) lid i g at
              ∙ entry_next cells other (U k) plan g lid here;
        }

    pub repeated : (k : ℕ) → AreEnough rule lmc facts (suc k) → U (suc (suc k)) ≡ U (suc k)
    repeated k are =
        next_same cells (step_rule rule facts (U (suc k))) (step_rule rule facts (U k)) (U (suc k)) plan (U k) plan refl (λ i g at. alike k i g are at)
