-- From the tables of the detour, stages lead to the triangle's plan. By the plan's order the second switch is the last
-- one, but the detour leads over it.
use Rattle.std.proofs.Common.{◌≡◌, ◌<◌, ◌≤◌, ◌+◌, ℕ, zero, suc, Bool, false, true, List, [], ◌∷◌, length, refl, sym, ap, ◌∙◌, subst, arith, inl, inr, ◌⊎◌, ◌&&◌}
use Rattle.std.specs.Prelude.{Contains, Some, nat_lt, not, slice_get, slice_index_or}
use Rattle.std.specs.FinMap.Entries.{find}
use Rattle.std.proofs.lemmas.Option.{same_Some}
use Rattle.smp_bytes.proofs.Members.{list_all_at}
use Rattle.reply_facts.specs.Key.{key_cmp}
use Rattle.reply_facts.specs.Sighting.{is_sighting}
use Rattle.fact_store.specs.View.{AreInRange, cells_of}
use Rattle.fact_store.proofs.Entries.{cell_is_found}
use Rattle.subnet_view.specs.declared.end_port.EndPort.{EndPort}
use Rattle.subnet_view.specs.Reading.{Cells, switches}
use Rattle.subnet_view.proofs.Taken.{found_in}
use Rattle.held_tables.specs.declared.held.HeldLid.{HeldLid}
use Rattle.held_tables.specs.Held.{HeldPlan}
use Rattle.held_tables.specs.Tables.{entry_for, owners_of, top_of}
use Rattle.packet_walks.specs.declared.packet_end.End.TheVariants.{Taken}
use Rattle.packet_walks.specs.declared.next_hop.NextHop.TheVariants.{To, Ends}
use Rattle.packet_walks.specs.EndsBySwitch.{after}
use Rattle.packet_walks.specs.HopsByTables.{next_hops_of}
use Rattle.next_tables.specs.NextTables.{IsKept, by_order, next_at, next_tables}
use Rattle.next_tables.specs.SettledRule.{step_at}
use Rattle.next_tables.specs.SwitchPositions.{AreRight, Leads, position_at}
use Rattle.next_tables.specs.OrderedStepLaws.{DeliverFrom}
use Rattle.next_tables.specs.Rightness.{are_right}
use Rattle.next_tables.proofs.by_order.ToldRight.{rightness_is_told}
use Rattle.two_orders.specs.Labels.{labels_from}
use Rattle.two_orders.specs.Trees.{tree}
use Rattle.two_orders.specs.TwoOrders.{TwoOrders}
use Rattle.held_order.specs.ToldOrder.{IsImpliedOrder, IsLast, MayBeLast, NoneFrom, is_left}
use Rattle.held_order.specs.Turns.{IsTurn}
use Rattle.held_order.specs.Agreement.{ComeEverywhere, ComeTo, IsRightByGrown, TellsPositions, order_of_plan}
use Rattle.held_order.specs.Between.{Goal, IsGoal}
use Rattle.held_order.specs.GoalLaws.{IsGoalLine}
use Rattle.held_order.specs.HandedStages.{AreHandedSteps, HaveOwnLids, IsOwnLid, IsStage, IsWholePlan, handed}
use Rattle.held_order.specs.Orders.{edges_in, orders_from, told_positions}
use Rattle.held_order.specs.TablesBetween.{entries_towards, tables_between}
use Rattle.held_order.proofs.HandedSteps.{handed_steps_are_goal_steps}
use Rattle.lft_blocks.proofs.Triangle.{cells, facts, facts_have, tables}
use Rattle.law_examples.specs.Stages.{AreRightByPlan, SomeStagesGo, SomeStepsAreHanded}
use Rattle.law_examples.proofs.Detour.{held_by, lid_cases, longer, nobody}

-- what is said of the cells that are written out is said of the facts
at_facts : (P : Cells → Type 0) → P cells → P (cells_of facts)
at_facts P h = subst P (sym facts_have) h

-- what is so of each of three, and beyond
three : (P : ℕ → Type 0) → P 0 → P 1 → P 2 → ((i : ℕ) → P (suc (suc (suc i)))) → (i : ℕ) → P i
three P a b c more zero = a
three P a b c more (suc zero) = b
three P a b c more (suc (suc zero)) = c
three P a b c more (suc (suc (suc i))) = more i

-- the tables and their orders ----------------------------------------------------------------------------

abbrev start : HeldPlan
start = held_by longer

abbrev plan : HeldPlan
plan = held_by tables

-- the positions of the switches in the order that the first tables imply, and in the plan's
abbrev implied : List ℕ
implied = 0 ∷ 1 ∷ 2 ∷ []

abbrev by : List ℕ
by = 0 ∷ 2 ∷ 1 ∷ []

right_by : (t : HeldPlan) (q : ℕ → ℕ) → are_right cells q t ≡ true → (lid : ℕ) → 1 ≤ lid → AreRight cells q t lid
right_by t q h = (rightness_is_told cells q t).0 h

leads : (t : HeldPlan) (lid i j g : ℕ) → slice_get (switches cells) i ≡ Some g → step_at cells t lid g ≡ To j → Leads cells t lid i j
leads t lid i j g at goes = record { switch = g; is_there = at; goes = goes }

abbrev over_second : IsTurn cells start 0 1 2
over_second = record {
  lid = 6;
  is_lid = omega arith;
  comes = leads start 6 0 1 16 refl refl;
  leaves = leads start 6 1 2 32 refl refl;
}

-- so they are not right by the plan's order
other_order : ¬ (AreRightByPlan cells by start)
other_order right =
    let e : true ≡ false = right 6 (omega arith) 0 1 2 over_second.comes over_second.leaves in absurd (cc)

-- the orders that tables imply ---------------------------------------------------------------------------

bad : (a b c : ℕ) → a ≤ b → c ≤ b → (not (nat_lt b a) && not (nat_lt b c)) ≡ false → ⊥
bad a b c h k e = grind arith

may_be_last : (t : HeldPlan) (q : ℕ → ℕ) (left : List Bool) (j : ℕ) → are_right cells q t ≡ true
    → ((i : ℕ) → is_left left i ≡ true → q i ≤ q j) → MayBeLast cells t left j
may_be_last t q left j h low i k of_i of_k turn =
    bad (q i) (q j) (q k) (low i of_i) (low k of_k) (right_by t q h turn.lid turn.is_lid i j k turn.comes turn.leaves)

none_left : (t : HeldPlan) (preferred : List ℕ) (left : List Bool) (index : ℕ)
    → ((k y : ℕ) → index < k → slice_get preferred k ≡ Some y → is_left left y ≡ false)
    → NoneFrom cells t preferred left (index + 1)
none_left t preferred left index none k y less at is_there may =
    let no = none k y (omega arith) at in let both : true ≡ false = sym is_there ∙ no in absurd (cc)

-- three switches in the order of `preferred`, none of which is left behind
gone : (left : List Bool) (index a b c : ℕ) → (index < 0 → is_left left a ≡ false) → (index < 1 → is_left left b ≡ false)
    → (index < 2 → is_left left c ≡ false) → (k y : ℕ) → index < k → slice_get (a ∷ b ∷ c ∷ []) k ≡ Some y → is_left left y ≡ false
gone left index a b c at_a at_b at_c k y less at =
    three (λ k. index < k → slice_get (a ∷ b ∷ c ∷ []) k ≡ Some y → is_left left y ≡ false)
    (λ l e. ap (is_left left) (sym (same_Some a y e)) ∙ at_a l)
    (λ l e. ap (is_left left) (sym (same_Some b y e)) ∙ at_b l)
    (λ l e. ap (is_left left) (sym (same_Some c y e)) ∙ at_c l)
    (λ k l e. absurd (cc)) k less at

-- the last of those left, in an order by which tables are right
last_by : (t : HeldPlan) (q : ℕ → ℕ) (left : List Bool) (index a b c j : ℕ) → are_right cells q t ≡ true
    → ((i : ℕ) → is_left left i ≡ true → q i ≤ q j) → is_left left j ≡ true → slice_get (a ∷ b ∷ c ∷ []) index ≡ Some j
    → (index < 0 → is_left left a ≡ false) → (index < 1 → is_left left b ≡ false)
    → (index < 2 → is_left left c ≡ false) → IsLast cells t (a ∷ b ∷ c ∷ []) left j
last_by t q left index a b c j h low is_there at at_a at_b at_c = record {
  is_left = is_there;
  may_be = may_be_last t q left j h low;
  index = index;
  stands = at;
  none_behind = none_left t (a ∷ b ∷ c ∷ []) left index (gone left index a b c at_a at_b at_c);
}

abbrev Low : (ℕ → ℕ) → List Bool → ℕ → ℕ → Type 0
Low q left j i = is_left left i ≡ true → q i ≤ q j

abbrev all : List Bool
all = true ∷ true ∷ true ∷ []

none_there : (i : ℕ) → is_left (false ∷ false ∷ false ∷ []) i ≡ false
none_there = three (λ i. is_left (false ∷ false ∷ false ∷ []) i ≡ false) refl refl refl (λ i. refl)

-- the second switch comes last by the plan's order, but may not be the last by the first tables
told_start : IsImpliedOrder cells start (0 ∷ 2 ∷ 1 ∷ []) (Some (2 ∷ 1 ∷ 0 ∷ []))
told_start = (
  false ∷ false ∷ false ∷ [],
  (
    record {
      is_left = refl;
      may_be = may_be_last start (position_at implied) all 2 refl
          (three (Low (position_at implied) all 2) (λ e. omega arith) (λ e. omega arith) (λ e. omega arith) (λ i e. absurd (cc)));
      index = 1;
      stands = refl;
      none_behind = behind;
    },
    (
      last_by start (position_at implied) (true ∷ true ∷ false ∷ []) 2 0 2 1 1 refl
          (three (Low (position_at implied) (true ∷ true ∷ false ∷ []) 1) (λ e. omega arith) (λ e. omega arith) (λ e. absurd (cc)) (λ i e. absurd (cc)))
          refl refl (λ l. absurd (omega arith)) (λ l. absurd (omega arith)) (λ l. absurd (omega arith)),
      (
        last_by start (position_at implied) (true ∷ false ∷ false ∷ []) 0 0 2 1 0 refl
            (three (Low (position_at implied) (true ∷ false ∷ false ∷ []) 0) (λ e. omega arith) (λ e. absurd (cc)) (λ e. absurd (cc)) (λ i e. absurd (cc)))
            refl refl (λ l. absurd (omega arith)) (λ l. refl) (λ l. refl),
        refl,
      ),
    ),
  ),
  none_there,
)
  where
    behind : NoneFrom cells start (0 ∷ 2 ∷ 1 ∷ []) all 2
    behind =
        three (λ k. (y : ℕ) → 2 < k + 1 → slice_get (0 ∷ 2 ∷ 1 ∷ []) k ≡ Some y → is_left all y ≡ true → MayBeLast cells start all y → ⊥)
        (λ y less at is_there may. omega arith)
        (λ y less at is_there may. omega arith)
        (λ y less at is_there may. subst (λ (z : ℕ). MayBeLast cells start all z) (sym (same_Some 1 y at)) may 0 2 refl refl over_second)
        (λ k y less at is_there may. absurd (cc))

-- the plan is right by both orders
told_next : IsImpliedOrder cells plan implied (Some (2 ∷ 1 ∷ 0 ∷ []))
told_next = (
  false ∷ false ∷ false ∷ [],
  (
    last_by plan (position_at implied) all 2 0 1 2 2 refl
        (three (Low (position_at implied) all 2) (λ e. omega arith) (λ e. omega arith) (λ e. omega arith) (λ i e. absurd (cc)))
        refl refl (λ l. absurd (omega arith)) (λ l. absurd (omega arith)) (λ l. absurd (omega arith)),
    (
      last_by plan (position_at implied) (true ∷ true ∷ false ∷ []) 1 0 1 2 1 refl
          (three (Low (position_at implied) (true ∷ true ∷ false ∷ []) 1) (λ e. omega arith) (λ e. omega arith) (λ e. absurd (cc)) (λ i e. absurd (cc)))
          refl refl (λ l. absurd (omega arith)) (λ l. absurd (omega arith)) (λ l. refl),
      (
        last_by plan (position_at implied) (true ∷ false ∷ false ∷ []) 0 0 1 2 0 refl
            (three (Low (position_at implied) (true ∷ false ∷ false ∷ []) 0) (λ e. omega arith) (λ e. absurd (cc)) (λ e. absurd (cc)) (λ i e. absurd (cc)))
            refl refl (λ l. absurd (omega arith)) (λ l. refl) (λ l. refl),
        refl,
      ),
    ),
  ),
  none_there,
)

told_end : IsImpliedOrder cells plan (0 ∷ 2 ∷ 1 ∷ []) (Some (1 ∷ 2 ∷ 0 ∷ []))
told_end = (
  false ∷ false ∷ false ∷ [],
  (
    last_by plan (position_at by) all 2 0 2 1 1 refl
        (three (Low (position_at by) all 1) (λ e. omega arith) (λ e. omega arith) (λ e. omega arith) (λ i e. absurd (cc)))
        refl refl (λ l. absurd (omega arith)) (λ l. absurd (omega arith)) (λ l. absurd (omega arith)),
    (
      last_by plan (position_at by) (true ∷ false ∷ true ∷ []) 1 0 2 1 2 refl
          (three (Low (position_at by) (true ∷ false ∷ true ∷ []) 2) (λ e. omega arith) (λ e. absurd (cc)) (λ e. omega arith) (λ i e. absurd (cc)))
          refl refl (λ l. absurd (omega arith)) (λ l. absurd (omega arith)) (λ l. refl),
      (
        last_by plan (position_at by) (true ∷ false ∷ false ∷ []) 0 0 2 1 0 refl
            (three (Low (position_at by) (true ∷ false ∷ false ∷ []) 0) (λ e. omega arith) (λ e. absurd (cc)) (λ e. absurd (cc)) (λ i e. absurd (cc)))
            refl refl (λ l. absurd (omega arith)) (λ l. refl) (λ l. refl),
        refl,
      ),
    ),
  ),
  none_there,
)

-- steps --------------------------------------------------------------------------------------------------

abbrev orders_with : List ℕ → TwoOrders
orders_with first = record { first = first; second = by; rising = 0 ∷ 2 ∷ 1 ∷ []; falling = 1 ∷ 2 ∷ 0 ∷ [] }

abbrev goal_with : List ℕ → Goal
goal_with first = record { positions = first; tables = plan }

orders_start : orders_with implied ≡ orders_from cells start (edges_in cells) by (told_positions (2 ∷ 1 ∷ 0 ∷ []) (length (edges_in cells)))
unfolding tree
orders_start = refl

orders_next : orders_with implied ≡ orders_from cells plan (edges_in cells) by (told_positions (2 ∷ 1 ∷ 0 ∷ []) (length (edges_in cells)))
unfolding tree
orders_next = refl

orders_end : orders_with by ≡ orders_from cells plan (edges_in cells) by (told_positions (1 ∷ 2 ∷ 0 ∷ []) (length (edges_in cells)))
unfolding tree
orders_end = refl

-- the tables between the orders are the plan's
between_start : plan ≡ tables_between cells (edges_in cells) (orders_with implied) start plan
unfolding tables_between entries_towards labels_from
between_start = refl

between_next : plan ≡ tables_between cells (edges_in cells) (orders_with implied) plan plan
unfolding tables_between entries_towards labels_from
between_next = refl

between_end : plan ≡ tables_between cells (edges_in cells) (orders_with by) plan plan
unfolding tables_between entries_towards labels_from
between_end = refl

next_start : plan ≡ next_tables cells (by_order implied) start plan
unfolding next_tables next_at
next_start = refl

next_next : plan ≡ next_tables cells (by_order implied) plan plan
unfolding next_tables next_at
next_next = refl

next_end : plan ≡ next_tables cells (by_order by) plan plan
unfolding next_tables next_at
next_end = refl

abbrev so_far : ℕ → HeldPlan
so_far zero = start
so_far (suc n) = plan

goals_there : (n : ℕ) → n < 2 → IsGoal cells (so_far n) plan by (handed by (λ m. goal_with implied) n) (Some (goal_with implied))
goals_there zero less = record {
  orders = orders_with implied;
  are = (2 ∷ 1 ∷ 0 ∷ [], told_start, orders_start);
  is = ap (λ (t : HeldPlan). record { positions = implied; tables = t }) between_start;
}
goals_there (suc zero) less = record {
  orders = orders_with implied;
  are = (2 ∷ 1 ∷ 0 ∷ [], told_next, orders_next);
  is = ap (λ (t : HeldPlan). record { positions = implied; tables = t }) between_next;
}
goals_there (suc (suc n)) less = absurd (omega arith)

nexts_there : (n : ℕ) → n < 2 → so_far (suc n) ≡ next_tables cells (by_order implied) (so_far n) plan
nexts_there zero less = next_start
nexts_there (suc zero) less = next_next
nexts_there (suc (suc n)) less = absurd (omega arith)

steps : AreHandedSteps facts by by plan so_far (λ n. goal_with implied) 2
steps = record {
  goal_is = λ n less.
      at_facts (λ c. IsGoal c (so_far n) plan by (handed by (λ m. goal_with implied) n) (Some (goal_with implied))) (goals_there n less);
  step_is = λ n less. at_facts (λ c. so_far (suc n) ≡ next_tables c (by_order implied) (so_far n) plan) (nexts_there n less);
}

last_goal : IsGoal cells plan plan by by (Some (goal_with by))
last_goal = record {
  orders = orders_with by;
  are = (1 ∷ 2 ∷ 0 ∷ [], told_end, orders_end);
  is = ap (λ (t : HeldPlan). record { positions = by; tables = t }) between_end;
}

last_goals : (n : ℕ) → n < 1 → IsGoal cells plan plan by (handed by (λ m. goal_with by) n) (Some (goal_with by))
last_goals zero less = last_goal
last_goals (suc n) less = absurd (omega arith)

last_steps : AreHandedSteps facts by by plan (λ n. plan) (λ n. goal_with by) 1
last_steps = record {
  goal_is = λ n less. at_facts (λ c. IsGoal c plan plan by (handed by (λ m. goal_with by) n) (Some (goal_with by))) (last_goals n less);
  step_is = λ n less. at_facts (λ c. plan ≡ next_tables c (by_order by) plan plan) next_end;
}

abbrev told : TellsPositions (cells_of facts) start by
told = record {
  taken = 2 ∷ 1 ∷ 0 ∷ [];
  is_told = at_facts (λ c. IsImpliedOrder c start (order_of_plan c by) (Some (2 ∷ 1 ∷ 0 ∷ []))) told_start;
  positions = implied;
  are = at_facts (λ c. implied ≡ told_positions (2 ∷ 1 ∷ 0 ∷ []) (length (edges_in c))) refl;
}

grown_there : IsRightByGrown cells start implied
grown_there = refl

-- lines --------------------------------------------------------------------------------------------------

within : (lid : ℕ) → lid ≤ 7 → (g : ℕ) → Contains (switches cells) g → lid ≤ top_of plan g
within lid low g (k, less, at) =
    three (λ k. k < 3 → slice_index_or (16 ∷ 32 ∷ 48 ∷ []) k g ≡ g → lid ≤ top_of plan g)
    (λ l e. subst (λ (z : ℕ). lid ≤ top_of plan z) e low)
    (λ l e. subst (λ (z : ℕ). lid ≤ top_of plan z) e low)
    (λ l e. subst (λ (z : ℕ). lid ≤ top_of plan z) e low)
    (λ k l e. absurd (omega arith)) k less at

goal_line : (lid : ℕ) (port : EndPort) → 1 ≤ lid → lid ≤ 7 → slice_get (owners_of plan lid) 0 ≡ Some port
    → IsGoalLine cells plan (record { lid = lid; port = port })
goal_line lid port some low first = record { some = some; first = first; within = within lid low }

abbrev its : HeldLid
its = record { lid = 6; port = record { node = 512; port = 1 } }

kept : IsKept start plan its
kept = record { in_plan = refl; in_held = refl }

delivering : (i g : ℕ) → slice_get (switches cells) i ≡ Some g → (entry_for start 6 g ≡ 255) ⊎ DeliverFrom cells start its i
delivering =
    three (λ i. (g : ℕ) → slice_get (switches cells) i ≡ Some g → (entry_for start 6 g ≡ 255) ⊎ DeliverFrom cells start its i)
    (λ g at. inr (3, refl)) (λ g at. inr (2, refl)) (λ g at. inr (1, refl)) (λ i g at. absurd (cc))

pub some_steps_are_handed : SomeStepsAreHanded
some_steps_are_handed =
    let grown = at_facts (λ c. IsRightByGrown c start implied) grown_there in
    let is_line = at_facts (λ c. IsGoalLine c plan its) (goal_line 6 its.port (omega arith) (omega arith) refl) in
    let each = at_facts (λ c. (i g : ℕ) → slice_get (switches c) i ≡ Some g → (entry_for start 6 g ≡ 255) ⊎ DeliverFrom c start its i) delivering in
    let made = handed_steps_are_goal_steps facts by by plan so_far (λ n. goal_with implied) 2 steps told grown its is_line kept each in
    record {
      facts = facts;
      by = by;
      plan = plan;
      tables = so_far;
      goals = λ n. goal_with implied;
      count = 2;
      are = steps;
      told = told;
      grown = grown;
      other_order = at_facts (λ c. ¬ (AreRightByPlan c by start)) other_order;
      line = its;
      is_line = is_line;
      kept = kept;
      delivering = each;
      all = made.0;
      goal_steps = made.1;
      same = made.2;
      some = omega arith;
      switch = 16;
      changes = λ e. omega (arith, e);
    }

-- the plan -----------------------------------------------------------------------------------------------

-- what is so of the LIDs from 1 to 7 and, since the plan has no others, of all
each_line : (P : ℕ → Type 0) → P 1 → P 2 → P 3 → P 4 → P 5 → P 6 → P 7 → ((lid : ℕ) → owners_of plan lid ≡ [] → P lid) → (lid : ℕ) → P lid
each_line P a b c d e f g none =
    lid_cases P (none 0 refl) a b c d e f g (λ lid high. none lid (nobody lid high))

abbrev HasLine : ℕ → Type 0
HasLine lid =
    1 ≤ lid → (owners_of plan lid ≡ [])
    ⊎ ((port : EndPort) × (owners_of plan lid ≡ port ∷ []) × IsGoalLine cells plan (record { lid = lid; port = port }))

line_of : (lid g p : ℕ) → lid ≤ 7 → owners_of plan lid ≡ record { node = g; port = p } ∷ [] → HasLine lid
line_of lid g p low own some =
    inr (record { node = g; port = p }, own, goal_line lid (record { node = g; port = p }) some low (ap (λ (es : List EndPort). slice_get es 0) own))

lines_there : (lid : ℕ) → HasLine lid
lines_there =
    each_line HasLine (line_of 1 16 0 (omega arith) refl) (line_of 2 32 0 (omega arith) refl) (line_of 3 48 0 (omega arith) refl)
    (line_of 4 256 1 (omega arith) refl) (line_of 5 256 1 (omega arith) refl) (line_of 6 512 1 (omega arith) refl)
    (line_of 7 512 1 (omega arith) refl) (λ lid none some. inl none)

-- for its LIDs the plan delivers from each switch
abbrev Delivered : ℕ → Type 0
Delivered lid = (port : EndPort) → owners_of plan lid ≡ port ∷ [] → (i : ℕ) → i < 3 → DeliverFrom cells plan (record { lid = lid; port = port }) i

delivered_at : (lid g p : ℕ) → owners_of plan lid ≡ record { node = g; port = p } ∷ []
    → DeliverFrom cells plan (record { lid = lid; port = record { node = g; port = p } }) 0
    → DeliverFrom cells plan (record { lid = lid; port = record { node = g; port = p } }) 1
    → DeliverFrom cells plan (record { lid = lid; port = record { node = g; port = p } }) 2 → Delivered lid
delivered_at lid g p own a b c port e i less =
    let at : EndPort → ℕ → Type 0 = λ (x : EndPort) (k : ℕ). DeliverFrom cells plan (record { lid = lid; port = x }) k in
    let both : record { node = g; port = p } ∷ [] ≡ port ∷ [] = sym own ∙ e in
    let same : record { node = g; port = p } ≡ port = cc both in
    subst (λ (x : EndPort). at x i) same
    (three (λ k. k < 3 → at (record { node = g; port = p }) k) (λ l. a) (λ l. b) (λ l. c) (λ k l. absurd (omega arith)) i less)

delivered : (lid : ℕ) → Delivered lid
delivered =
    each_line Delivered (delivered_at 1 16 0 refl (1, refl) (2, refl) (2, refl)) (delivered_at 2 32 0 refl (2, refl) (1, refl) (2, refl))
    (delivered_at 3 48 0 refl (2, refl) (2, refl) (1, refl)) (delivered_at 4 256 1 refl (2, refl) (1, refl) (2, refl))
    (delivered_at 5 256 1 refl (2, refl) (1, refl) (2, refl)) (delivered_at 6 512 1 refl (2, refl) (2, refl) (1, refl))
    (delivered_at 7 512 1 refl (2, refl) (2, refl) (1, refl))
    (λ lid none port e i less. let both : [] ≡ port ∷ [] = sym none ∙ e in absurd (cc))

-- a hop past the last switch leads nowhere
past : (t : HeldPlan) (lid i n : ℕ) → after n (next_hops_of cells t lid) (To (suc (suc (suc i)))) ≡ To (suc (suc (suc i)))
past t lid i zero = refl
past t lid i (suc n) = past t lid i n

whole_there : IsWholePlan cells plan
whole_there = record {
  lines = λ lid some. lines_there lid some;
  delivers = λ t line is i.
      three (λ k. DeliverFrom cells t line k → DeliverFrom cells plan line k)
      (λ d. delivered line.lid line.port is.in_plan 0 (omega arith))
      (λ d. delivered line.lid line.port is.in_plan 1 (omega arith))
      (λ d. delivered line.lid line.port is.in_plan 2 (omega arith))
      (λ k d. let both : To (suc (suc (suc k))) ≡ Ends (Taken line.port) = sym (past t line.lid k d.0) ∙ d.1 in absurd (cc)) i;
}

own_there : HaveOwnLids cells plan
own_there =
    three (λ i. i < 3 → (lid : ℕ) × IsOwnLid cells plan i lid)
    (λ l. (1, record { some = omega arith; alone = refl; takes = refl }))
    (λ l. (2, record { some = omega arith; alone = refl; takes = refl }))
    (λ l. (3, record { some = omega arith; alone = refl; takes = refl }))
    (λ i l. absurd (omega arith))

-- the first tables ---------------------------------------------------------------------------------------

abbrev Come : ℕ → ℕ → Type 0
Come i j = (lid n : ℕ) × (1 ≤ lid) × ComeTo cells start lid n i j

here : (i : ℕ) → Come i i
here i = (1, 0, omega arith, refl)

-- packets for the LID of switch `j` leave switch `i` for `j`
straight : (i j lid g : ℕ) → 1 ≤ lid → slice_get (switches cells) i ≡ Some g → step_at cells start lid g ≡ To j → Come i j
straight i j lid g some at goes = (lid, 1, some, (j, leads start lid i j g at goes, refl))

abbrev FromTo : ℕ → ℕ → Type 0
FromTo i j = i < 3 → j < 3 → Come i j

from_to : (i j : ℕ) → FromTo i j
from_to =
    three (λ i. (j : ℕ) → FromTo i j)
    (three (FromTo 0) (λ k l. here 0) (λ k l. straight 0 1 2 16 (omega arith) refl refl) (λ k l. straight 0 2 3 16 (omega arith) refl refl) (λ j k l. absurd (omega arith)))
    (three (FromTo 1) (λ k l. straight 1 0 1 32 (omega arith) refl refl) (λ k l. here 1) (λ k l. straight 1 2 3 32 (omega arith) refl refl) (λ j k l. absurd (omega arith)))
    (three (FromTo 2) (λ k l. straight 2 0 1 48 (omega arith) refl refl) (λ k l. straight 2 1 2 48 (omega arith) refl refl) (λ k l. here 2) (λ j k l. absurd (omega arith)))
    (λ i j k l. absurd (omega arith))

come_there : ComeEverywhere cells start
come_there i j k in_i in_j walk = from_to i j in_i in_j

in_range : AreInRange facts
in_range key c is =
    let found : find key_cmp key cells ≡ Some c =
    ap (find key_cmp key) (sym facts_have) ∙ sym (cell_is_found facts key) ∙ is in
    list_all_at is_sighting cells refl (key, c) (found_in key cells c found)

-- stages -------------------------------------------------------------------------------------------------

first_stage : IsStage facts by plan start plan
first_stage = record {
  tables = so_far;
  goals = λ n. goal_with implied;
  count = 2;
  are = steps;
  done = inr (1, refl, refl);
  begins = refl;
  ends = refl;
}

last_stage : IsStage facts by plan plan plan
last_stage = record {
  tables = λ n. plan;
  goals = λ n. goal_with by;
  count = 1;
  are = last_steps;
  done = inr (0, refl, refl);
  begins = refl;
  ends = refl;
}

stages : (k : ℕ) → k < 2 → IsStage facts by plan (so_far k) (so_far (suc k))
stages zero less = first_stage
stages (suc k) less = last_stage

pub some_stages_go : SomeStagesGo
some_stages_go = record {
  facts = facts;
  range = in_range;
  by = by;
  plan = plan;
  whole = at_facts (λ c. IsWholePlan c plan) whole_there;
  own = at_facts (λ c. HaveOwnLids c plan) own_there;
  tables = so_far;
  count = 2;
  told = told;
  come = at_facts (λ c. ComeEverywhere c start) come_there;
  stages = stages;
  enough = at_facts (λ c. length (switches c) ≤ 3) (omega arith);
  other_order = at_facts (λ c. ¬ (AreRightByPlan c by start)) other_order;
}
