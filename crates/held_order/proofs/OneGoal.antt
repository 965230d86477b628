-- Tables imply one order at most, so a step has one goal.
use Rattle.std.proofs.Common.{◌≡◌, ◌∙◌, ℕ, Bool, true, false, List, [], ◌∷◌, Option, None, Some, refl, sym, ap, subst, arith, length, inl, inr}
use Rattle.std.specs.Prelude.{slice_get, slice_set}
use Rattle.std.proofs.lemmas.Bool.{cases_order}
use Rattle.std.proofs.lemmas.Option.{same_Some}
use Rattle.port_graph.specs.declared.edge.Edge.{Edge}
use Rattle.subnet_view.specs.Reading.{Cells}
use Rattle.held_tables.specs.Held.{HeldPlan}
use Rattle.held_order.specs.ToldOrder.{AreTaken, IsLast, IsImpliedOrder, MayBeLast, NoneFrom, all_left, is_left}
use Rattle.two_orders.specs.Growth.{grown_by}
use Rattle.two_orders.specs.TwoOrders.{TwoOrders}
use Rattle.held_order.specs.Between.{Goal, IsGoal, IsGoalBetween, goal_between}
use Rattle.held_order.specs.Orders.{AreOrders, edges_in, orders_from, told_positions}

clash : (b : Bool) → b ≡ true → b ≡ false → ⊥
clash b t f = absurd (cc)

module _ (cells : Cells) (tables : HeldPlan) (preferred : List ℕ) where
  -- one switch is the last
  one_last : (left : List Bool) (x y : ℕ) → IsLast cells tables preferred left x → IsLast cells tables preferred left y → x ≡ y
  one_last left x y a b =
      elim (cases_order a.index b.index) [
        | inl same ↦ same_Some x y (sym a.stands ∙ ap (slice_get preferred) same ∙ b.stands)
        | inr (inl less) ↦ absurd (a.none_behind b.index y (omega (arith, less)) b.stands b.is_left b.may_be)
        | inr (inr more) ↦ absurd (b.none_behind a.index x (omega (arith, more)) a.stands a.is_left a.may_be)
      ]

  -- the switches are taken in one order
  one_taken : (a b : List ℕ) (left end last : List Bool) → AreTaken cells tables preferred left a end → AreTaken cells tables preferred left b last
      → ((i : ℕ) → is_left end i ≡ false) → ((i : ℕ) → is_left last i ≡ false) → a ≡ b
  one_taken [] [] left end last are others none gone = refl
  one_taken [] (y ∷ b) left end last are others none gone =
      absurd (clash (is_left end y) (sym (ap (λ (l : List Bool). is_left l y) are) ∙ others.0.is_left) (none y))
  one_taken (x ∷ a) [] left end last are others none gone =
      absurd (clash (is_left last x) (sym (ap (λ (l : List Bool). is_left l x) others) ∙ are.0.is_left) (gone x))
  one_taken (x ∷ a) (y ∷ b) left end last are others none gone =
      let same = one_last left x y are.0 others.0 in
      let rest = one_taken a b (slice_set left x false) end last are.1
      (subst (λ (v : ℕ). AreTaken cells tables preferred (slice_set left v false) b last) (sym same) others.1) none gone in
      λ i. same i ∷ rest i

  -- all are taken, or some are left, and not both
  not_stuck : (a b : List ℕ) (left end last : List Bool) (j : ℕ) → AreTaken cells tables preferred left a end → ((i : ℕ) → is_left end i ≡ false)
      → AreTaken cells tables preferred left b last → NoneFrom cells tables preferred last 0 → is_left last j ≡ true → ⊥
  not_stuck [] [] left end last j are none others behind some =
      clash (is_left end j) (sym (ap (λ (l : List Bool). is_left l j) are) ∙ ap (λ (l : List Bool). is_left l j) others ∙ some) (none j)
  not_stuck [] (y ∷ b) left end last j are none others behind some =
      clash (is_left end y) (sym (ap (λ (l : List Bool). is_left l y) are) ∙ others.0.is_left) (none y)
  not_stuck (x ∷ a) [] left end last j are none others behind some =
      behind are.0.index x (omega arith) are.0.stands (sym (ap (λ (l : List Bool). is_left l x) others) ∙ are.0.is_left)
      (subst (λ (l : List Bool). MayBeLast cells tables l x) others are.0.may_be)
  not_stuck (x ∷ a) (y ∷ b) left end last j are none others behind some =
      let same = one_last left x y are.0 others.0 in
      not_stuck a b (slice_set left x false) end last j are.1 none
      (subst (λ (v : ℕ). AreTaken cells tables preferred (slice_set left v false) b last) (sym same) others.1) behind some

module _ (cells : Cells) (held : HeldPlan) (edges : List (List Edge)) (by preferred : List ℕ) where
  pub one_orders : (o p : TwoOrders) → AreOrders cells held edges by preferred (Some o) → AreOrders cells held edges by preferred (Some p) → o ≡ p
  one_orders o p a b =
      let same = one_taken cells held (grown_by edges preferred) a.0 b.0 (all_left cells) a.1.0 b.1.0 a.1.1 b.1.1 a.1.2 b.1.2 in
      a.2 ∙ ap (λ (taken : List ℕ). orders_from cells held edges by (told_positions taken (length edges))) same ∙ sym b.2

  some_or_none : (o : TwoOrders) → AreOrders cells held edges by preferred (Some o) → AreOrders cells held edges by preferred None → ⊥
  some_or_none o a b =
      not_stuck cells held (grown_by edges preferred) a.0 b.0 (all_left cells) a.1.0 b.1 b.4.0 a.1.1 a.1.2 b.2 b.3 b.4.1

module _ (cells : Cells) (held plan : HeldPlan) (by preferred : List ℕ) where
  some_or_no_goal : (g : Goal) → IsGoalBetween cells held plan by preferred g → AreOrders cells held (edges_in cells) by preferred None → ⊥
  some_or_no_goal g a none = some_or_none cells held (edges_in cells) by preferred a.orders a.are none

  pub one_goal : (g h : Option Goal) → IsGoal cells held plan by preferred g → IsGoal cells held plan by preferred h → g ≡ h
  one_goal None None a b = refl
  one_goal None (Some h) a b = absurd (some_or_no_goal h b a)
  one_goal (Some g) None a b = absurd (some_or_no_goal g a b)
  one_goal (Some g) (Some h) a b =
      let same = one_orders cells held (edges_in cells) by preferred a.orders b.orders a.are b.are in
      ap Some (a.is ∙ ap (λ (o : TwoOrders). goal_between cells o held plan) same ∙ sym b.is)

-- the preferred positions matter only by the order that grows by them
pub goal_by_grown : (cells : Cells) (held plan : HeldPlan) (by one other : List ℕ) (goal : Option Goal)
    → grown_by (edges_in cells) one ≡ grown_by (edges_in cells) other → IsGoal cells held plan by one goal → IsGoal cells held plan by other goal
goal_by_grown cells held plan by one other None same none = subst (λ (ps : List ℕ). IsImpliedOrder cells held ps None) same none
goal_by_grown cells held plan by one other (Some goal) same is = record {
  orders = is.orders;
  are = (is.are.0, subst (λ (ps : List ℕ). IsImpliedOrder cells held ps (Some is.are.0)) same is.are.1, is.are.2);
  is = is.is;
}
