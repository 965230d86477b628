-- The goal in between has the plan's LIDs, so the same LIDs move; and what makes a step.
use Rattle.std.proofs.Common.{◌≡◌, ◌∙◌, ℕ, Bool, true, false, List, Option, None, Some, ap, inl, inr, refl, subst, sym}
use Rattle.std.specs.Option.{is_some}
use Rattle.std.specs.Prelude.{Vec}
use Rattle.std.specs.declared.alloc.Global.{Global}
use Rattle.fact_store.specs.View.{Facts, cells_of}
use Rattle.lft_blocks.specs.Rule.{RuleValue}
use Rattle.held_tables.specs.Held.{HeldPlan}
use Rattle.next_tables.specs.NextTables.{first_moved}
use Rattle.held_order.specs.Between.{Goal}
use Rattle.held_order.proofs.Safe.{goal_lids}
use Rattle.next_run.specs.NextRun.{Choice, IsChoice, IsGoalFrom, IsGoalNear, IsMade, IsMadeNear, choice_by, goal_or, next_by_choice, next_towards}
use Rattle.next_run.specs.StepOrderText.{items_of, order_of_step}

goal_plan : (right : Bool) (facts : Facts) (held plan : HeldPlan) (by near : List ℕ) (g : Goal)
    → IsGoalFrom right (cells_of facts) held plan by near (Some g) → g.tables.lids ≡ plan.lids
goal_plan true facts held plan by near g is = absurd (cc)
goal_plan false facts held plan by near g is = goal_lids facts held plan by near g is

-- the tables that a step goes towards have the plan's LIDs
goal_or_lids : (rule : RuleValue) (last : Option (List ℕ)) (facts : Facts) (held plan : HeldPlan) (goal : Option Goal)
    → IsGoalNear rule last facts held plan goal → (goal_or plan (choice_by rule facts held goal).goal).lids ≡ plan.lids
goal_or_lids rule last facts held plan None is = refl
goal_or_lids rule last facts held plan (Some g) is = goal_plan _ facts held plan _ _ g is

-- so the same LID is the first that moves
pub moved_same : (rule : RuleValue) (last : Option (List ℕ)) (facts : Facts) (held plan : HeldPlan) (choice : Choice)
    → IsChoice rule last facts held plan choice → first_moved held (goal_or plan choice.goal) ≡ first_moved held plan
moved_same rule last facts held plan choice is =
    let same = goal_or_lids rule last facts held plan is.goal is.goal_is in
    let tables = goal_or plan (choice_by rule facts held is.goal).goal in
    ap (λ (c : Choice). first_moved held (goal_or plan c.goal)) is.is
    ∙ (λ i. first_moved held (record { lids = same i; switches = tables.switches; blocks = tables.blocks }))

-- the tables to write next and the order are those of the step
pub choice_made : (rule : RuleValue) (last : Option (List ℕ)) (facts : Facts) (held plan : HeldPlan) (choice : Choice)
    → IsChoice rule last facts held plan choice
    → IsMadeNear rule last facts held plan (next_by_choice (cells_of facts) choice held plan) choice.order
choice_made rule last facts held plan choice is =
    let Made : Choice → Type 0 = λ c. IsMadeNear rule last facts held plan (next_by_choice (cells_of facts) c held plan) c.order in
    subst Made (sym is.is) (from is.goal is.goal_is)
  where
    from : (goal : Option Goal) → IsGoalNear rule last facts held plan goal
        → IsMadeNear rule last facts held plan
        (next_by_choice (cells_of facts) (choice_by rule facts held goal) held plan) (choice_by rule facts held goal).order
    from None goal_is = record { goal = None; goal_is = goal_is; is = refl; order_is = refl }
    from (Some g) goal_is = record { goal = Some g; goal_is = goal_is; is = refl; order_is = refl }

module _ (rule : RuleValue) (facts : Facts) (held plan next : HeldPlan) (order : Option (List ℕ)) where
  -- a step nearest to the plan's order, if there is no last order
  pub made_alone : IsMadeNear rule None facts held plan next order → IsMade rule None facts held plan next order
  made_alone made = record { goal = made.goal; is_next = record { goal_is = made.goal_is; is = made.is }; order_is = made.order_is }

  -- a step nearest to the last order counts, unless it goes by an order and changes nothing
  pub made_first : (last : Option (List ℕ)) → IsMadeNear rule last facts held plan next order
      → (is_some last ≡ true → is_some order ≡ true → next ≡ held → ⊥) → IsMade rule last facts held plan next order
  made_first None made changes = made_alone made
  made_first (Some last) made changes = from made.goal made.goal_is made.is made.order_is
    where
      from : (goal : Option Goal) → IsGoalNear rule (Some last) facts held plan goal → next ≡ next_towards rule facts held plan goal
          → order ≡ order_of_step (cells_of facts) goal → IsMade rule (Some last) facts held plan next order
      from None goal_is is order_is = record {
        goal = None;
        is_next = record { goal_is = (None, goal_is, refl); is = is };
        order_is = order_is;
      }
      from (Some g) goal_is is order_is = record {
        goal = Some g;
        is_next = record {
          goal_is = (Some g, goal_is, inl ((λ same. changes refl (ap is_some order_is) (is ∙ same)), refl));
          is = is;
        };
        order_is = order_is;
      }

-- if the step nearest to the last order goes by an order and changes nothing, the one nearest to the plan's order counts
pub made_again : (rule : RuleValue) (last : Option (List ℕ)) (facts : Facts) (held plan tried next : HeldPlan) (order other : Option (List ℕ))
    → IsMadeNear rule last facts held plan tried order → is_some last ≡ true → is_some order ≡ true → tried ≡ held
    → IsMadeNear rule None facts held plan next other → IsMade rule last facts held plan next other
made_again rule None facts held plan tried next order other first has_last has_order same made = absurd (cc)
made_again rule (Some last) facts held plan tried next order other first has_last has_order same made =
    from first.goal first.goal_is first.is first.order_is
  where
    from : (goal : Option Goal) → IsGoalNear rule (Some last) facts held plan goal → tried ≡ next_towards rule facts held plan goal
        → order ≡ order_of_step (cells_of facts) goal → IsMade rule (Some last) facts held plan next other
    from None goal_is is order_is = (let none = ap is_some order_is in absurd (cc))
    from (Some g) goal_is is order_is = record {
      goal = made.goal;
      is_next = record { goal_is = (Some g, goal_is, inr (sym is ∙ same, made.goal_is)); is = made.is };
      order_is = made.order_is;
    }

-- an order as a list is there if the order is
pub some_items : (order : Option (Vec ℕ Global)) → is_some (items_of order) ≡ is_some order
some_items None = refl
some_items (Some switches) = refl
