-- From tables that are right by the order of the plan's switches steps by that order end too.
use Rattle.std.proofs.Common.{◌≡◌, ◌≤◌, ◌+◌, ◌*◌, ℕ, zero, suc, List, [], ◌∷◌, length, Some, refl, sym, ap, ◌∙◌, arith, inl, inr}
use Rattle.std.specs.Prelude.{slice_get}
use Rattle.fact_store.specs.View.{Facts, cells_of, AreInRange}
use Rattle.subnet_view.specs.declared.end_port.EndPort.{EndPort}
use Rattle.subnet_view.specs.Reading.{Cells, switches}
use Rattle.lid_assign.specs.Lids.{IsNoRoom}
use Rattle.lft_blocks.specs.Plan.{plan_of}
use Rattle.lft_blocks.specs.Rule.{RuleValue}
use Rattle.plan_order.specs.PlanOrder.{positions_by}
use Rattle.held_tables.specs.declared.held.HeldLid.{HeldLid}
use Rattle.held_tables.specs.Held.{HeldPlan}
use Rattle.plan_tables.specs.PlanTables.{held_plan}
use Rattle.held_tables.specs.Tables.{entry_for, owners_of}
use Rattle.packet_walks.proofs.EntrySteps.{contains_at}
use Rattle.next_tables.specs.OrderRule.{IsNextByOrder}
use Rattle.next_tables.specs.SwitchPositions.{AreRight, position_at}
use Rattle.next_tables.specs.NextTables.{IsKept, by_order, index_at, next_at, next_tables, ordered_for}
use Rattle.next_tables.proofs.Whole.{entry_next, owners_next}
use Rattle.next_tables.proofs.by_order.OrderedTables.{ordered_tables_are_next}
use Rattle.next_tables.proofs.by_order.Round.{all_follow_the_rule, next_deliver_or_drop_by_order}
use Rattle.table_laws.specs.PlanLaws.{plan_position}
use Rattle.table_laws.proofs.plan_orders.PlanSteps.{steps_end_in_plans, steps_towards_plans}
use Rattle.table_laws.proofs.step_ends.Alone.{line_there, owner_there}
use Rattle.table_laws.proofs.step_ends.Last.{AreLast, Way}
use Rattle.table_laws.proofs.step_ends.Reached.{plans_deliver_what_tables_can}

module _ (rule : RuleValue) (lmc : ℕ) (facts : Facts) (range : AreInRange facts) (has_room : ¬ (IsNoRoom lmc (cells_of facts))) where
  abbrev cells : Cells
  cells = cells_of facts

  abbrev positions : List ℕ
  positions = positions_by rule (cells_of facts)

  abbrev q : ℕ → ℕ
  q = plan_position rule (cells_of facts)

  abbrev plan : HeldPlan
  plan = held_plan (plan_of rule lmc (cells_of facts))

  abbrev pub IsRight : HeldPlan → Type 0
  IsRight tables = (lid : ℕ) → 1 ≤ lid → AreRight cells q tables lid

  abbrev pub onward : HeldPlan → HeldPlan
  onward tables = next_tables cells (by_order positions) tables plan

  pub onward_right : (tables : HeldPlan) → IsRight tables → IsRight (onward tables)
  onward_right tables right =
      (steps_towards_plans rule lmc facts range has_room tables (onward tables) right (ordered_tables_are_next facts positions tables plan)).1

  -- the tables after so many steps
  abbrev pub after_steps : HeldPlan → ℕ → HeldPlan
  after_steps tables zero = tables
  after_steps tables (suc n) = onward (after_steps tables n)

  pub right_after : (tables : HeldPlan) → IsRight tables → (n : ℕ) → IsRight (after_steps tables n)
  right_after tables right zero = right
  right_after tables right (suc n) = onward_right (after_steps tables n) (right_after tables right n)

  module _ (tables : HeldPlan) (right : IsRight tables) where
    abbrev V : ℕ → HeldPlan
    V n = after_steps tables n

    kept : (lid : ℕ) (x : EndPort) → owners_of plan lid ≡ x ∷ [] → (n : ℕ) → IsKept (V (suc n)) plan (record { lid = lid; port = x })
    kept lid x own n = record { in_plan = own; in_held = owners_next cells (by_order positions) (V n) plan lid ∙ own }

    follows : (lid : ℕ) (x : EndPort) → owners_of plan lid ≡ x ∷ [] → (n : ℕ)
        → IsNextByOrder cells q (V (suc n)) plan (record { lid = lid; port = x }) (V (suc (suc n)))
    follows lid x own n =
        all_follow_the_rule cells q (V (suc n)) plan (V (suc (suc n))) (record { lid = lid; port = x })
        (ordered_tables_are_next facts positions (V (suc n)) plan) (kept lid x own n)

    -- of LID 0 no switch has an entry
    of_zero : (one other : HeldPlan) (lid g : ℕ) → lid ≡ 0 → entry_for one lid g ≡ entry_for other lid g
    of_zero one other lid g e = ap (λ n. entry_for one n g) e ∙ sym (ap (λ n. entry_for other n g) e)

    taken : (lid : ℕ) (x : EndPort) → owners_of plan lid ≡ x ∷ [] → (i g m : ℕ) → 1 ≤ lid → slice_get (switches cells) i ≡ Some g
        → Way cells plan lid x i → 2 * length (switches cells) ≤ m → entry_for (V (suc m)) lid g ≡ entry_for plan lid g
    taken lid x own i g m one at way enough =
        let line : HeldLid = record { lid = lid; port = x } in
        (steps_end_in_plans rule lmc facts range has_room line (line_there rule lmc facts lid x own) (owner_there rule lmc facts has_room lid x own)
        (λ n. V (suc n)) (sym (owners_next cells (by_order positions) tables plan lid)) (right_after tables right 1 lid one) (follows lid x own)
        i g m one at way enough).0

    left : (lid : ℕ) (x : EndPort) → owners_of plan lid ≡ x ∷ [] → (i g m : ℕ) → slice_get (switches cells) i ≡ Some g
        → (Way cells plan lid x i → ⊥) → entry_for (V (suc (suc m))) lid g ≡ 255
    left lid x own i g m at none =
        let line : HeldLid = record { lid = lid; port = x } in
        elim (next_deliver_or_drop_by_order cells q (V (suc m)) plan (V (suc (suc m))) line
        (own ∙ sym (owners_next cells (by_order positions) (V m) plan lid ∙ own)) (follows lid x own m) i g at) [
          | inl e ↦ e
          | inr ends ↦ absurd (none
              (plans_deliver_what_tables_can rule lmc facts range has_room (V (suc (suc m))) line (kept lid x own (suc m)) i ends.0 ends.1))
        ]

    unowned : (m lid i g : ℕ) → owners_of plan lid ≡ [] → slice_get (switches cells) i ≡ Some g → entry_for (V (suc m)) lid g ≡ 255
    unfolding next_at
    unowned m lid i g none at =
        entry_next cells (by_order positions) (V m) plan g lid (contains_at (switches cells) i g at)
        ∙ ap (λ (owners : List EndPort). ordered_for cells (position_at positions) (V m) plan lid owners (index_at cells g) g) none

    pub ordered_last : (n : ℕ) → 2 * length (switches cells) + 1 ≤ n → 2 ≤ n → AreLast cells plan (V n)
    ordered_last zero le two = absurd (omega (arith, two))
    ordered_last (suc zero) le two = absurd (omega (arith, two))
    ordered_last (suc (suc k)) le two = record {
      way = λ lid x own i g at way. way_at lid (λ e. of_zero (V (suc (suc k))) plan lid g e)
          (λ one. taken lid x own i g (suc k) one at way (omega (arith, le)));
      none = λ lid x own i g at none. left lid x own i g k at none;
      nobodys = λ lid none i g at. unowned (suc k) lid i g none at;
    }
      where
        way_at : {X : Type 0} (lid : ℕ) → (lid ≡ 0 → X) → (1 ≤ lid → X) → X
        way_at zero a b = a refl
        way_at (suc n) a b = b (omega arith)
