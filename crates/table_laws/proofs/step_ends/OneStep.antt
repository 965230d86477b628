-- A step has one result, and its goal is one by an order that the held tables imply.
use Rattle.std.proofs.Common.{◌≡◌, ◌∙◌, ℕ, Bool, true, false, List, Option, None, Some, sym, ap, subst, inl, inr}
use Rattle.fact_store.specs.View.{Facts, cells_of}
use Rattle.subnet_view.specs.Reading.{Cells}
use Rattle.held_tables.specs.Held.{HeldPlan}
use Rattle.lft_blocks.specs.Rule.{RuleValue}
use Rattle.plan_order.specs.PlanOrder.{positions_by}
use Rattle.next_tables.specs.SwitchPositions.{position_at}
use Rattle.next_tables.specs.Rightness.{are_right}
use Rattle.next_run.specs.Between.{Goal, IsGoal}
use Rattle.next_run.proofs.OneGoal.{one_goal}
use Rattle.next_run.specs.LastOrder.{near_positions}
use Rattle.next_run.specs.NextRun.{IsGoalFrom, IsGoalNear, IsGoalOf, IsTaken, next_towards}
use Rattle.table_laws.specs.StepLaws.{StepsHaveOneResult}

one_goal_from : (right : Bool) (cells : Cells) (held plan : HeldPlan) (by near : List ℕ) (g h : Option Goal)
    → IsGoalFrom right cells held plan by near g → IsGoalFrom right cells held plan by near h → g ≡ h
one_goal_from true cells held plan by near g h a b = a ∙ sym b
one_goal_from false cells held plan by near g h a b = one_goal cells held plan by near g h a b

module _ (rule : RuleValue) (facts : Facts) (held plan : HeldPlan) where
  one_near : (last : Option (List ℕ)) (g h : Option Goal) → IsGoalNear rule last facts held plan g → IsGoalNear rule last facts held plan h → g ≡ h
  one_near last g h a b =
      let cells = cells_of facts in
      let by = positions_by rule cells in
      one_goal_from (are_right cells (position_at by) held) cells held plan by (near_positions by cells last) g h a b

  one_taken : (first g h : Option Goal) → IsTaken rule facts held plan first g → IsTaken rule facts held plan first h → g ≡ h
  one_taken None g h a b = a ∙ sym b
  one_taken (Some first) g h (inl a) (inl b) = a.1 ∙ sym b.1
  one_taken (Some first) g h (inl a) (inr b) = absurd (a.0 b.0)
  one_taken (Some first) g h (inr a) (inl b) = absurd (b.0 a.0)
  one_taken (Some first) g h (inr a) (inr b) = one_near None g h a.1 b.1

  one_of : (last : Option (List ℕ)) (g h : Option Goal) → IsGoalOf rule last facts held plan g → IsGoalOf rule last facts held plan h → g ≡ h
  one_of None g h a b = one_near None g h a b
  one_of (Some last) g h a b =
      one_taken a.0 g h a.2 (subst (λ (f : Option Goal). IsTaken rule facts held plan f h) (one_near (Some last) b.0 a.0 b.1 a.1) b.2)

  -- a goal is one by an order that the held tables imply
  pub record IsSomeGoal (g : Goal) : Type 0 where
    pub near : List ℕ
    pub is : IsGoal (cells_of facts) held plan (positions_by rule (cells_of facts)) near (Some g)

  from_implied : (right : Bool) (near : List ℕ) (g : Goal)
      → IsGoalFrom right (cells_of facts) held plan (positions_by rule (cells_of facts)) near (Some g) → IsSomeGoal g
  from_implied true near g is = absurd (cc)
  from_implied false near g is = record { near = near; is = is }

  near_implied : (last : Option (List ℕ)) (g : Goal) → IsGoalNear rule last facts held plan (Some g) → IsSomeGoal g
  near_implied last g is =
      let cells = cells_of facts in
      let by = positions_by rule cells in
      from_implied (are_right cells (position_at by) held) (near_positions by cells last) g is

  same_some : (a b : Goal) → ◌≡◌ {A = Option Goal} (Some a) (Some b) → a ≡ b
  same_some a b e = cc

  taken_implied : (last : List ℕ) (first : Option Goal) (g : Goal) → IsGoalNear rule (Some last) facts held plan first
      → IsTaken rule facts held plan first (Some g) → IsSomeGoal g
  taken_implied last None g is taken = absurd (cc)
  taken_implied last (Some first) g is (inl a) = near_implied (Some last) g (subst (λ (f : Option Goal). IsGoalNear rule (Some last) facts held plan f) (sym a.1) is)
  taken_implied last (Some first) g is (inr b) = near_implied None g b.1

  pub goal_implied : (last : Option (List ℕ)) (g : Goal) → IsGoalOf rule last facts held plan (Some g) → IsSomeGoal g
  goal_implied None g is = near_implied None g is
  goal_implied (Some last) g is = taken_implied last is.0 g is.1 is.2

pub steps_have_one_result : StepsHaveOneResult
steps_have_one_result rule last facts held plan goal other_goal next other a b =
    let same = one_of rule facts held plan last goal other_goal a.goal_is b.goal_is in
    (same, a.is ∙ ap (next_towards rule facts held plan) same ∙ sym b.is)
