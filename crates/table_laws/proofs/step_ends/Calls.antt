-- Calls of `next`, one after the other, come to follow the plan's order, and then end.
use Rattle.std.proofs.Common.{◌≡◌, ◌∙◌, ◌<◌, ◌≤◌, ◌⊎◌, ◌+◌, ◌-◌, ◌*◌, ℕ, zero, suc, Bool, true, false, cond, List, [], Option, None, Some, length, refl, sym, ap, subst, arith, inl, inr}
use Rattle.std.specs.Prelude.{nat_lt}
use Rattle.std.proofs.lemmas.Bool.{cases_eq, le-ltb, lt-ltb}
use Rattle.fact_store.specs.View.{Facts, cells_of, AreInRange}
use Rattle.subnet_view.specs.Reading.{Cells, switches}
use Rattle.lid_assign.specs.Lids.{IsNoRoom}
use Rattle.lft_blocks.specs.Rule.{RuleValue}
use Rattle.held_tables.specs.Held.{HeldPlan, nothing_held}
use Rattle.plan_order.specs.PlanOrder.{positions_by}
use Rattle.plan_tables.specs.PlanTables.{planned}
use Rattle.next_tables.specs.SwitchPositions.{AreRight, position_at}
use Rattle.next_tables.specs.Rightness.{are_right}
use Rattle.next_tables.proofs.by_order.ToldRight.{rightness_is_told}
use Rattle.table_laws.specs.PlanLaws.{plan_position}
use Rattle.two_orders.specs.Growth.{grown_by, positions_in}
use Rattle.next_run.specs.Agreement.{AgreeTo, AreGrown, TellsPositions, order_of_plan}
use Rattle.next_run.specs.Between.{Goal, IsGoal}
use Rattle.next_run.specs.GoalLaws.{next_towards as next_to}
use Rattle.next_run.specs.HandedStages.{AreHandedSteps, HaveOwnLids, IsStage, IsWholePlan, handed}
use Rattle.next_run.specs.Orders.{edges_in, told_positions}
use Rattle.next_run.specs.LastOrder.{near_positions}
use Rattle.next_run.specs.NextRun.{IsGoalFrom, IsGoalNear, IsGoalOf, IsTaken, next_towards, stepped}
use Rattle.next_run.specs.StepLoops.{IsLoopInStep}
use Rattle.next_run.specs.StepOrderText.{order_of_step}
use Rattle.next_run.proofs.Agreement.{begins, told_right_by_plan}
use Rattle.next_run.proofs.HandedSteps.{handed_orders_stay, right_tables_have_goals}
use Rattle.next_run.proofs.Safe.{count_is, told_is}
use Rattle.next_run.proofs.Stages.{end_comes, goes_further, handed_steps_end, whole_are_grown}
use Rattle.two_orders.specs.Agreement.{AreVertices}
use Rattle.two_orders.proofs.Agreement.{grown_are_vertices}
use Rattle.subnet_view.specs.Graph.{graph_of}
use Rattle.subnet_view.proofs.Graphs.{graph_law}
use Rattle.spread_routes.proofs.Indices.{leads_below}
use Rattle.table_laws.specs.Calls.{AreCalls, CallsComeToFollow, CallsMakeNoLoop, FollowPlan, FollowingCallsEnd, Follows, most_calls, order_given}
use Rattle.table_laws.specs.StepEnds.{AreEnough}
use Rattle.table_laws.proofs.step_ends.HandedOrder.{named_again}
use Rattle.table_laws.proofs.step_ends.NoLoop.{right_tables_make_no_loop, told_steps_make_no_loop}
use Rattle.table_laws.proofs.step_ends.Steps.{repeated, steps}
use Rattle.table_laws.proofs.step_ends.WholePlans.{plans_are_whole, plans_give_own_lids}

-- a sequence with another value from index `j` on
abbrev until : {A : Type 0} → ℕ → A → (ℕ → A) → ℕ → A
until j x s i = cond (nat_lt i j) (s i) x

before : {A : Type 0} (j : ℕ) (x : A) (s : ℕ → A) (i : ℕ) → i < j → until j x s i ≡ s i
before j x s i less = λ k. cond (lt-ltb i j less k) (s i) x

behind : {A : Type 0} (j : ℕ) (x : A) (s : ℕ → A) (i : ℕ) → j ≤ i → until j x s i ≡ x
behind j x s i le = λ k. cond (le-ltb i j le k) (s i) x

-- the number that is `i` more than `a`
abbrev from : ℕ → ℕ → ℕ
from a zero = a
from a (suc i) = suc (from a i)

from_is : (a i : ℕ) → from a i ≡ i + a
from_is a zero = omega arith
from_is a (suc i) = (let e = from_is a i in omega (arith, e))

times_more : (c l : ℕ) → suc c * l ≡ l + c * l
times_more c l = grind arith

clash : (b : Bool) → b ≡ true → b ≡ false → ⊥
clash b t f = absurd (cc)

no_goal_is_some : (g : Goal) → ◌≡◌ {A = Option Goal} None (Some g) → ⊥
no_goal_is_some g e = absurd (cc)

abbrev goal_or_none : Option Goal → Goal
goal_or_none None = record { positions = []; tables = nothing_held }
goal_or_none (Some g) = g

module _ (rule : RuleValue) (lmc : ℕ) (facts : Facts) (range : AreInRange facts) (has_room : ¬ (IsNoRoom lmc (cells_of facts))) where
  abbrev cells : Cells
  cells = cells_of facts

  abbrev by : List ℕ
  by = positions_by rule (cells_of facts)

  abbrev plan : HeldPlan
  plan = planned lmc rule facts

  abbrev n : ℕ
  n = length (switches (cells_of facts))

  abbrev is_right : HeldPlan → Bool
  is_right held = are_right (cells_of facts) (position_at (positions_by rule (cells_of facts))) held

  -- right tables have no other goal
  near_none : (last : Option (List ℕ)) (held : HeldPlan) (g : Option Goal) → is_right held ≡ true → IsGoalNear rule last facts held plan g → g ≡ None
  near_none last held g right is = subst (λ (b : Bool). IsGoalFrom b cells held plan by (near_positions by cells last) g) right is

  no_goal : (last : Option (List ℕ)) (held : HeldPlan) (g : Option Goal) → is_right held ≡ true → IsGoalOf rule last facts held plan g → g ≡ None
  no_goal None held g right is = near_none None held g right is
  no_goal (Some last) held g right is =
      subst (λ (f : Option Goal). IsTaken rule facts held plan f g) (near_none (Some last) held is.0 right is.1) is.2

  -- other tables that are right by some order have one
  near_goal : (last : Option (List ℕ)) (held : HeldPlan) (g : Option Goal) → is_right held ≡ false → IsGoalNear rule last facts held plan g
      → IsGoal cells held plan by (near_positions by cells last) g
  near_goal last held g wrong is = subst (λ (b : Bool). IsGoalFrom b cells held plan by (near_positions by cells last) g) wrong is

  record RightBySome (held : HeldPlan) : Type 0 where
    q : ℕ → ℕ
    all : (lid : ℕ) → 1 ≤ lid → AreRight cells q held lid

  near_some : (last : Option (List ℕ)) (held : HeldPlan) → RightBySome held → is_right held ≡ false → IsGoalNear rule last facts held plan None → ⊥
  near_some last held right wrong is =
      right_tables_have_goals facts held plan by (near_positions by cells last) right.q right.all (near_goal last held None wrong is)

  taken_some : (last : List ℕ) (held : HeldPlan) → RightBySome held → is_right held ≡ false → (first : Option Goal)
      → IsGoalNear rule (Some last) facts held plan first → IsTaken rule facts held plan first None → ⊥
  taken_some last held right wrong None is taken = near_some (Some last) held right wrong is
  taken_some last held right wrong (Some f) is (inl a) = no_goal_is_some f a.1
  taken_some last held right wrong (Some f) is (inr b) = near_some None held right wrong b.1

  some_goal : (last : Option (List ℕ)) (held : HeldPlan) → RightBySome held → is_right held ≡ false → IsGoalOf rule last facts held plan None → ⊥
  some_goal None held right wrong is = near_some None held right wrong is
  some_goal (Some last) held right wrong is = taken_some last held right wrong is.0 is.1 is.2

  by_plan : (held : HeldPlan) → is_right held ≡ true → RightBySome held
  by_plan held right = record { q = plan_position rule cells; all = (rightness_is_told cells (plan_position rule cells) held).0 right }

  by_told : (held : HeldPlan) → TellsPositions cells held by → RightBySome held
  by_told held told = record {
    q = position_at (told_positions told.taken (length (edges_in cells)));
    all = (told_is facts held (order_of_plan cells by) told.taken told.is_told).right;
  }

  module _ (tables : ℕ → HeldPlan) (goals : ℕ → Option Goal) (calls : AreCalls rule lmc facts tables goals) where
    -- by the order of the plan's switches -------------------------------------------------------

    following : (m : ℕ) → is_right (tables m) ≡ true → (tables (suc m) ≡ stepped lmc rule facts (tables m)) × (goals m ≡ None)
    following m right =
        let none = no_goal (order_given cells goals m) (tables m) (goals m) right (calls m).goal_is in
        ((calls m).is ∙ ap (next_towards rule facts (tables m) plan) none, none)

    follows_on : (m : ℕ) → is_right (tables m) ≡ true → is_right (tables (suc m)) ≡ true
    follows_on m right =
        subst (λ (t : HeldPlan). is_right t ≡ true) (sym (following m right).0) (right_tables_make_no_loop rule lmc facts (tables m) range has_room right).right

    follow : (k : ℕ) → is_right (tables k) ≡ true → (j : ℕ)
        → (is_right (tables (from k j)) ≡ true) × (tables (from k j) ≡ steps rule lmc facts range has_room (tables k) j)
    follow k right zero = (right, refl)
    follow k right (suc j) =
        let so_far = follow k right j in
        (follows_on (from k j) so_far.0, (following (from k j) so_far.0).0 ∙ ap (stepped lmc rule facts) so_far.1)

    ended : (k : ℕ) → is_right (tables k) ≡ true → (j : ℕ) → AreEnough rule lmc facts j → tables (from k (suc j)) ≡ tables (from k j)
    ended k right zero are = absurd (omega (arith, are.enough, are.two))
    ended k right (suc j) are =
        (follow k right (suc (suc j))).1 ∙ repeated rule lmc facts range has_room (tables k) j are ∙ sym (follow k right (suc j)).1

    following_end : (k : ℕ) → FollowPlan rule facts (tables k) → (j : ℕ)
        → Follows rule facts (tables (j + k)) (goals (j + k)) × (AreEnough rule lmc facts j → tables (suc j + k) ≡ tables (j + k))
    following_end k right j =
        let so = follow k right j in
        let at = from_is k j in (
          subst (λ (i : ℕ). Follows rule facts (tables i) (goals i)) at (record { right = so.0; no_goal = (following (from k j) so.0).1 }),
          λ are. ap tables (sym (from_is k (suc j))) ∙ ended k right j are ∙ ap tables at,
        )

    -- no loop ------------------------------------------------------------------------------------

    record NoLoop (m : ℕ) : Type 0 where
      loops : (cycle lids : List ℕ) → IsLoopInStep cells (tables m) (tables (suc m)) cycle lids → cycle ≡ []
      right : RightBySome (tables (suc m))

    by_call : (m : ℕ) → RightBySome (tables m) → NoLoop m
    by_call m right =
        elim (is_right (tables m)) as (λ b. is_right (tables m) ≡ b → NoLoop m) [
          | true ↦ λ e.
              let is = (following m e).0 in
              let free = right_tables_make_no_loop rule lmc facts (tables m) range has_room e in
              record {
                loops = λ cycle lids found. free.loops cycle lids (subst (λ (t : HeldPlan). IsLoopInStep cells (tables m) t cycle lids) is found);
                right = by_plan (tables (suc m)) (follows_on m e);
              }
          | false ↦ λ e. by_goal (goals m) (calls m).goal_is (calls m).is e
        ] refl
      where
        by_goal : (g : Option Goal) → IsGoalOf rule (order_given cells goals m) facts (tables m) plan g
            → tables (suc m) ≡ next_towards rule facts (tables m) plan g → is_right (tables m) ≡ false → NoLoop m
        by_goal None goal_is is e = absurd (some_goal (order_given cells goals m) (tables m) right e goal_is)
        by_goal (Some g) goal_is is e =
            let free = told_steps_make_no_loop rule (order_given cells goals m) lmc facts (tables m) g goal_is in
            record {
              loops = λ cycle lids found. free.loops cycle lids (subst (λ (t : HeldPlan). IsLoopInStep cells (tables m) t cycle lids) is found);
              right = record {
                q = position_at g.positions;
                all = subst (λ (t : HeldPlan). (lid : ℕ) → 1 ≤ lid → AreRight cells (position_at g.positions) t lid) (sym is)
                    ((rightness_is_told cells (position_at g.positions) (next_towards rule facts (tables m) plan (Some g))).0 free.right);
              };
            }

    right_so_far : RightBySome (tables 0) → (m : ℕ) → RightBySome (tables m)
    right_so_far first zero = first
    right_so_far first (suc m) = (by_call m (right_so_far first m)).right

    no_loops : RightBySome (tables 0) → (m : ℕ) (cycle lids : List ℕ) → IsLoopInStep cells (tables m) (tables (suc m)) cycle lids → cycle ≡ []
    no_loops first m = (by_call m (right_so_far first m)).loops

    -- stages -------------------------------------------------------------------------------------

    module _ (whole : IsWholePlan cells plan) (have : HaveOwnLids cells plan)
        (first_right : RightBySome (tables 0)) where
      -- a call whose goal is the one nearest to the plan's order
      abbrev IsFresh : ℕ → Type 0
      IsFresh a = IsGoalNear rule None facts (tables a) plan (goals a)

      abbrev length_of_stage : ℕ
      length_of_stage = 2 * length (switches (cells_of facts)) + 3

      module _ (a : ℕ) (fresh : IsFresh a) (grown : AreGrown cells (tables a) by) where
        abbrev ts : ℕ → HeldPlan
        ts i = tables (from a i)

        abbrev gs : ℕ → Goal
        gs i = goal_or_none (goals (from a i))

        -- the first `j` calls from `a` on are handed steps, and each after the first changed something
        record Handed (j : ℕ) : Type 0 where
          are : AreHandedSteps facts by by plan ts gs j
          changed : (i : ℕ) → suc i < j → ts (suc (suc i)) ≡ ts (suc i) → ⊥
          some : (i : ℕ) → i < j → goals (from a i) ≡ Some (gs i)

        -- what comes of the calls
        data Comes : Type 0 where
          follows : (k : ℕ) → k ≤ length_of_stage + a → is_right (tables k) ≡ true → Comes
          stage : (b : ℕ) → b ≤ length_of_stage + a → IsFresh b → IsStage facts by plan (tables a) (tables b) → Comes

        none_yet : Handed 0
        none_yet = record {
          are = record { goal_is = λ i less. absurd (omega (arith, less)); step_is = λ i less. absurd (omega (arith, less)) };
          changed = λ i less. absurd (omega (arith, less));
          some = λ i less. absurd (omega (arith, less));
        }

        next_handed : (f : Goal) (j : ℕ) → ts (suc j) ≡ next_towards rule facts (ts j) plan (Some f) → ts (suc j) ≡ next_to facts (ts j) f
        next_handed f j is = is

        one_more : (j : ℕ) → Handed j → (f : Goal) → goals (from a j) ≡ Some f → IsGoal cells (ts j) plan by (handed by gs j) (Some f)
            → ((i : ℕ) → j ≡ suc i → next_towards rule facts (ts j) plan (Some f) ≡ ts j → ⊥) → Handed (suc j)
        one_more j so_far f is goal_is changes = record {
          are = record { goal_is = goal_at; step_is = step_at };
          changed = changed_at;
          some = some_at;
        }
          where
            it : goal_or_none (goals (from a j)) ≡ f
            it = ap goal_or_none is

            moved : ts (suc j) ≡ next_to facts (ts j) f
            moved = next_handed f j ((calls (from a j)).is ∙ ap (next_towards rule facts (ts j) plan) is)

            goal_at : (i : ℕ) → i < suc j → IsGoal cells (ts i) plan by (handed by gs i) (Some (gs i))
            goal_at i less =
                elim (cases_eq i j) [
                  | inl same ↦
                      subst (λ (k : ℕ). IsGoal cells (ts k) plan by (handed by gs k) (Some (gs k))) (sym same)
                      (subst (λ (g : Goal). IsGoal cells (ts j) plan by (handed by gs j) (Some g)) (sym it) goal_is)
                  | inr other ↦ so_far.are.goal_is i (grind arith)
                ]

            step_at : (i : ℕ) → i < suc j → ts (suc i) ≡ next_to facts (ts i) (gs i)
            step_at i less =
                elim (cases_eq i j) [
                  | inl same ↦ subst (λ (k : ℕ). ts (suc k) ≡ next_to facts (ts k) (gs k)) (sym same) (moved ∙ ap (next_to facts (ts j)) (sym it))
                  | inr other ↦ so_far.are.step_is i (grind arith)
                ]

            some_at : (i : ℕ) → i < suc j → goals (from a i) ≡ Some (gs i)
            some_at i less =
                elim (cases_eq i j) [
                  | inl same ↦ subst (λ (k : ℕ). goals (from a k) ≡ Some (gs k)) (sym same) (is ∙ ap Some (sym it))
                  | inr other ↦ so_far.some i (grind arith)
                ]

            changed_at : (i : ℕ) → suc i < suc j → ts (suc (suc i)) ≡ ts (suc i) → ⊥
            changed_at i less still =
                elim (cases_eq (suc i) j) [
                  | inl same ↦
                      changes i (sym same) (sym moved ∙ subst (λ (k : ℕ). ts (suc k) ≡ ts k) same still)
                  | inr other ↦ so_far.changed i (grind arith) still
                ]

        some_told : (j : ℕ) → Handed (suc j) → TellsPositions cells (ts 0) by
        some_told j so_far =
            let is = so_far.are.goal_is 0 (omega arith) in
            record { taken = is.are.0; is_told = is.are.1; positions = told_positions is.are.0 (length (edges_in cells)); are = refl }

        -- the order that a handed step tells, read again
        read_again : (j : ℕ) → Handed (suc j) → near_positions by cells (order_of_step cells (Some (gs j))) ≡ (gs j).positions
        read_again j so_far =
            let told = some_told j so_far in
            let stay = handed_orders_stay facts by by plan ts gs (suc j) so_far.are told (grown told) in
            let vertices = grown_by (edges_in cells) told.positions in
            let lead = leads_below (graph_of cells) (graph_law facts) in
            let are : AreVertices n vertices = subst (λ (m : ℕ). AreVertices m vertices) (count_is facts) (grown_are_vertices (edges_in cells) lead told.positions) in
            let is : (gs j).positions ≡ positions_in vertices n =
            ap (λ (g : Goal). g.positions) (stay.0 j (omega arith)) ∙ ap (positions_in vertices) (count_is facts) in
            ap (λ (ps : List ℕ). near_positions by cells (order_of_step cells (Some (record { positions = ps; tables = (gs j).tables })))) is
            ∙ named_again facts vertices are ∙ sym is

        -- a handed step that changes nothing ends the stage
        ends : (j : ℕ) → Handed (suc j) → (f : Goal) → IsGoal cells (ts (suc j)) plan by (gs j).positions (Some f)
            → next_to facts (ts (suc j)) f ≡ ts (suc j) → IsStage facts by plan (tables a) (ts (suc j))
        ends j so_far f goal_is still = record {
          tables = T;
          goals = G;
          count = suc (suc j);
          are = record { goal_is = goal_at; step_is = step_at };
          done = inr (suc j, refl, behind (suc (suc j)) (ts (suc j)) ts (suc (suc j)) (omega arith) ∙ sym (t_at (suc j) (omega arith)));
          begins = t_at 0 (omega arith);
          ends = behind (suc (suc j)) (ts (suc j)) ts (suc (suc j)) (omega arith);
        }
          where
            T : ℕ → HeldPlan
            T = until (suc (suc j)) (ts (suc j)) ts

            G : ℕ → Goal
            G = until (suc j) f gs

            t_at : (i : ℕ) → i < suc (suc j) → T i ≡ ts i
            t_at i less = before (suc (suc j)) (ts (suc j)) ts i less

            g_at : (i : ℕ) → i < suc j → G i ≡ gs i
            g_at i less = before (suc j) f gs i less

            handed_at : (i : ℕ) → i < suc (suc j) → handed by G i ≡ handed by gs i
            handed_at zero less = refl
            handed_at (suc i) less = ap (λ (g : Goal). g.positions) (g_at i (omega (arith, less)))

            goal_at : (i : ℕ) → i < suc (suc j) → IsGoal cells (T i) plan by (handed by G i) (Some (G i))
            goal_at i less =
                elim (cases_eq i (suc j)) [
                  | inl same ↦
                      let g_is : G i ≡ f = behind (suc j) f gs i (omega (arith, same)) in
                      let near : handed by G i ≡ (gs j).positions = handed_at i less ∙ ap (handed by gs) same in
                      let t_is : T i ≡ ts (suc j) = t_at i less ∙ ap ts same in
                      subst (λ (x : HeldPlan × (List ℕ × Goal)). IsGoal cells x.0 plan by x.1.0 (Some x.1.1)) (λ k. (sym t_is k, (sym near k, sym g_is k))) goal_is
                  | inr other ↦
                      let low : i < suc j = grind arith in
                      subst (λ (x : HeldPlan × (List ℕ × Goal)). IsGoal cells x.0 plan by x.1.0 (Some x.1.1))
                      (λ k. (sym (t_at i less) k, (sym (handed_at i less) k, sym (g_at i low) k))) (so_far.are.goal_is i low)
                ]

            step_at : (i : ℕ) → i < suc (suc j) → T (suc i) ≡ next_to facts (T i) (G i)
            step_at i less =
                elim (cases_eq i (suc j)) [
                  | inl same ↦
                      let g_is : G i ≡ f = behind (suc j) f gs i (omega (arith, same)) in
                      let t_is : T i ≡ ts (suc j) = t_at i less ∙ ap ts same in
                      behind (suc (suc j)) (ts (suc j)) ts (suc i) (omega (arith, same)) ∙ sym still ∙ (λ k. next_to facts (sym t_is k) (sym g_is k))
                  | inr other ↦
                      let low : i < suc j = grind arith in
                      t_at (suc i) (omega (arith, low)) ∙ so_far.are.step_is i low ∙ (λ k. next_to facts (sym (t_at i less) k) (sym (g_at i low) k))
                ]

        -- what a call makes of handed steps
        data Onward (j : ℕ) : Type 0 where
          right_now : is_right (ts j) ≡ true → Onward j
          ended_stage : IsFresh (from a j) → IsStage facts by plan (tables a) (ts j) → Onward j
          more : Handed (suc j) → Onward j

        first_more : (so_far : Handed 0) → is_right (ts 0) ≡ false → (g : Goal) → goals a ≡ Some g → Onward 0
        first_more so_far e g is =
            more (one_more 0 so_far g is
            (near_goal None (ts 0) (Some g) e (subst (λ (o : Option Goal). IsGoalNear rule None facts (ts 0) plan o) is fresh))
            (λ i none. absurd (omega (arith, none))))

        module _ (j : ℕ) (so_far : Handed (suc j)) (e : is_right (ts (suc j)) ≡ false) (g : Goal) (is : goals (from a (suc j)) ≡ Some g) where
          near_last : (f : Goal) → IsGoalNear rule (order_of_step cells (Some (gs j))) facts (ts (suc j)) plan (Some f)
              → IsGoal cells (ts (suc j)) plan by (gs j).positions (Some f)
          near_last f near =
              subst (λ (ps : List ℕ). IsGoal cells (ts (suc j)) plan by ps (Some f)) (read_again j so_far)
              (near_goal (order_of_step cells (Some (gs j))) (ts (suc j)) (Some f) e near)

          by_taken : (first : Option Goal) → IsGoalNear rule (order_of_step cells (Some (gs j))) facts (ts (suc j)) plan first
              → IsTaken rule facts (ts (suc j)) plan first (Some g) → Onward (suc j)
          by_taken None near taken = absurd (no_goal_is_some g (sym taken))
          by_taken (Some f) near (inl taken) =
              more (one_more (suc j) so_far f (is ∙ taken.1) (near_last f near) (λ i same. taken.0))
          by_taken (Some f) near (inr taken) =
              ended_stage (subst (λ (o : Option Goal). IsGoalNear rule None facts (ts (suc j)) plan o) (sym is) taken.1)
              (ends j so_far f (near_last f near) taken.0)

          later_more : Onward (suc j)
          later_more =
              let given : order_given cells goals (from a (suc j)) ≡ order_of_step cells (Some (gs j)) = ap (order_of_step cells) (so_far.some j (omega arith)) in
              let own : IsGoalOf rule (order_of_step cells (Some (gs j))) facts (ts (suc j)) plan (Some g) =
              subst (λ (x : Option (List ℕ) × Option Goal). IsGoalOf rule x.0 facts (ts (suc j)) plan x.1) (λ k. (given k, is k))
              (calls (from a (suc j))).goal_is in
              by_taken own.0 own.1 own.2

        some_more : (j : ℕ) → Handed j → is_right (ts j) ≡ false → (g : Goal) → goals (from a j) ≡ Some g → Onward j
        some_more zero so_far e g is = first_more so_far e g is
        some_more (suc j) so_far e g is = later_more j so_far e g is

        by_goal : (j : ℕ) → Handed j → is_right (ts j) ≡ false → (g : Option Goal) → goals (from a j) ≡ g → Onward j
        by_goal j so_far e None is =
            absurd (some_goal (order_given cells goals (from a j)) (ts j) (right_so_far first_right (from a j)) e
            (subst (λ (g : Option Goal). IsGoalOf rule (order_given cells goals (from a j)) facts (ts j) plan g) is (calls (from a j)).goal_is))
        by_goal j so_far e (Some g) is = some_more j so_far e g is

        onward : (j : ℕ) → Handed j → Onward j
        onward j so_far =
            elim (is_right (ts j)) as (λ b. is_right (ts j) ≡ b → Onward j) [
              | true ↦ λ e. right_now e
              | false ↦ λ e. by_goal j so_far e (goals (from a j)) refl
            ] refl

        early_at : (c j : ℕ) → suc c + j ≡ length_of_stage → from a j ≤ length_of_stage + a
        early_at c j count = (let e = from_is a j in omega (arith, e, count))

        -- from one call to the next
        go_on : (c j : ℕ) → c + j ≡ length_of_stage → Handed j → Comes
        go_on zero zero count so_far = absurd (omega (arith, count))
        go_on zero (suc j) count so_far =
            let told = some_told j so_far in
            let last : ℕ = 2 * n + 2 in
            let still = handed_steps_end facts range by by plan ts gs (suc j) so_far.are told (grown told) whole last (omega arith) (omega (arith, count)) in
            let before_last : ℕ = 2 * n + 1 in
            let same : last ≡ suc before_last = omega arith in
            absurd (so_far.changed before_last (omega (arith, count)) (subst (λ (m : ℕ). ts (suc m) ≡ ts m) same still))
        go_on (suc c) j count so_far =
            elim (onward j so_far) [
              | right_now e ↦ follows (from a j) (early_at c j count) e
              | ended_stage f is ↦ stage (from a j) (early_at c j count) f is
              | more next ↦ go_on c (suc j) (omega (arith, count)) next
            ]

        comes : Comes
        comes = go_on length_of_stage 0 (omega arith) none_yet

      -- after so many stages, or before, tables follow the plan
      record After (c : ℕ) : Type 0 where
        b : ℕ
        early : b ≤ c * length_of_stage
        fresh : IsFresh b
        grown : AreGrown cells (tables b) by
        agree : AgreeTo cells (tables b) by c

      abbrev Found : ℕ → Type 0
      Found c = (k : ℕ) × (k ≤ c * length_of_stage) × (is_right (tables k) ≡ true)

      later : (c k : ℕ) → k ≤ c * length_of_stage → k ≤ suc c * length_of_stage
      later c k le = (let e = times_more c length_of_stage in omega (arith, le, e))

      next_stage : (c : ℕ) → After c → Found (suc c) ⊎ After (suc c)
      next_stage c at =
          elim (comes at.b at.fresh at.grown) [
            | follows k early right ↦ inl (k, within k early, right)
            | stage b early fresh is ↦ inr (record {
              b = b;
              early = within b early;
              fresh = fresh;
              grown = whole_are_grown facts (tables b) by (end_comes facts range by plan (tables at.b) (tables b) whole have is at.grown);
              agree = goes_further facts range by plan (tables at.b) (tables b) whole have is at.grown c at.agree;
            })
          ]
        where
          within : (k : ℕ) → k ≤ length_of_stage + at.b → k ≤ suc c * length_of_stage
          within k le = (let e = times_more c length_of_stage in omega (arith, le, at.early, e))

      stages : (c : ℕ) → After 0 → Found c ⊎ After c
      stages zero first = inr first
      stages (suc c) first =
          elim (stages c first) [
            | inl found ↦ inl (found.0, later c found.0 found.1, found.2)
            | inr at ↦ next_stage c at
          ]

pub following_calls_end : FollowingCallsEnd
following_calls_end rule lmc facts tables goals range has_room calls k right j = following_end rule lmc facts range has_room tables goals calls k right j

pub calls_make_no_loop : CallsMakeNoLoop
calls_make_no_loop rule lmc facts tables goals range has_room calls (inl told) m cycle lids is =
    no_loops rule lmc facts range has_room tables goals calls (by_told rule lmc facts range has_room (tables 0) told) m cycle lids is
calls_make_no_loop rule lmc facts tables goals range has_room calls (inr right) m cycle lids is =
    no_loops rule lmc facts range has_room tables goals calls (by_plan rule lmc facts range has_room (tables 0) right) m cycle lids is

pub calls_come_to_follow : CallsComeToFollow
calls_come_to_follow rule lmc facts tables goals range has_room calls first =
    let cells = cells_of facts in
    let by = positions_by rule cells in
    let plan = planned lmc rule facts in
    let n = length (switches cells) in
    let c : ℕ = n - 1 in
    let right = by_told rule lmc facts range has_room (tables 0) first.told in
    let whole = plans_are_whole rule lmc facts range has_room in
    let have = plans_give_own_lids rule lmc facts range has_room first.have_ports in
    let begun : After rule lmc facts range has_room tables goals calls whole have right 0 = record {
      b = 0;
      early = omega arith;
      fresh = (calls 0).goal_is;
      grown = first.grown;
      agree = begins facts by (tables 0) first.told;
    } in
    elim (stages rule lmc facts range has_room tables goals calls whole have right c begun) [
      | inl found ↦ found
      | inr at ↦
          elim (are_right cells (position_at by) (tables at.b)) as (λ b. are_right cells (position_at by) (tables at.b) ≡ b → (k : ℕ) × (k ≤ most_calls n) × FollowPlan rule facts (tables k)) [
            | true ↦ λ e. (at.b, at.early, e)
            | false ↦ λ e. absurd (clash (are_right cells (position_at by) (tables at.b)) (in_the_end at.b at.fresh at.agree e) e)
          ] refl
    ]
  where
    in_the_end : (b : ℕ) → IsGoalNear rule None facts (tables b) (planned lmc rule facts) (goals b)
        → AgreeTo (cells_of facts) (tables b) (positions_by rule (cells_of facts)) (length (switches (cells_of facts)) - 1)
        → are_right (cells_of facts) (position_at (positions_by rule (cells_of facts))) (tables b) ≡ false
        → are_right (cells_of facts) (position_at (positions_by rule (cells_of facts))) (tables b) ≡ true
    in_the_end b fresh agree wrong =
        by_goal (goals b) (near_goal rule lmc facts range has_room None (tables b) (goals b) wrong fresh)
      where
        by_goal : (g : Option Goal) → IsGoal (cells_of facts) (tables b) (planned lmc rule facts) (positions_by rule (cells_of facts)) (positions_by rule (cells_of facts)) g
            → are_right (cells_of facts) (position_at (positions_by rule (cells_of facts))) (tables b) ≡ true
        by_goal None none = absurd (agree.some none)
        by_goal (Some g) is =
            let told : TellsPositions (cells_of facts) (tables b) (positions_by rule (cells_of facts)) =
            record { taken = is.are.0; is_told = is.are.1; positions = told_positions is.are.0 (length (edges_in (cells_of facts))); are = refl } in
            let n = length (switches (cells_of facts)) in
            let right = told_right_by_plan facts (positions_by rule (cells_of facts)) (tables b) (n - 1) told agree (omega arith) in
            let same : positions_in (order_of_plan (cells_of facts) (positions_by rule (cells_of facts))) (length (edges_in (cells_of facts))) ≡ positions_by rule (cells_of facts) =
            ap (positions_in (order_of_plan (cells_of facts) (positions_by rule (cells_of facts)))) (count_is facts) ∙ first.grows in
            (rightness_is_told (cells_of facts) (position_at (positions_by rule (cells_of facts))) (tables b)).1
            (subst (λ (ps : List ℕ). (lid : ℕ) → 1 ≤ lid → AreRight (cells_of facts) (position_at ps) (tables b) lid) same right)
