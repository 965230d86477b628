-- Steps that are handed the order of the step before go between the same two orders.
use Rattle.std.proofs.Common.{◌≡◌, ◌∙◌, ◌<◌, ◌≤◌, ◌⊎◌, ◌+◌, ℕ, zero, suc, cond, List, [], Some, length, refl, sym, ap, subst, arith}
use Rattle.std.specs.Prelude.{slice_get, map}
use Rattle.fact_store.specs.View.{Facts, cells_of}
use Rattle.port_graph.specs.declared.edge.Edge.{Edge}
use Rattle.port_graph.specs.Heads.{LeadToVertices}
use Rattle.subnet_view.specs.declared.end_port.EndPort.{EndPort}
use Rattle.subnet_view.specs.Reading.{Cells, switches}
use Rattle.subnet_view.specs.Graph.{graph_of}
use Rattle.subnet_view.proofs.Graphs.{graph_law}
use Rattle.spread_routes.proofs.Indices.{leads_below}
use Rattle.held_tables.specs.Held.{HeldPlan}
use Rattle.held_tables.specs.declared.held.HeldLid.{HeldLid}
use Rattle.held_tables.specs.Tables.{entry_for, owners_of}
use Rattle.next_tables.specs.OrderRule.{IsNextByOrder}
use Rattle.next_tables.specs.SwitchPositions.{Leads, position_at}
use Rattle.next_tables.specs.NextTables.{IsKept, ordered_for}
use Rattle.next_tables.proofs.Hops.{none_to}
use Rattle.next_tables.specs.OrderedStepLaws.{AreNextByOrder, DeliverFrom}
use Rattle.next_tables.proofs.by_order.OrderedTables.{ordered_tables_are_next}
use Rattle.next_tables.proofs.by_order.Round.{all_are_step, all_follow_the_rule}
use Rattle.next_tables.proofs.by_order.ToldRight.{rightness_is_told}
use Rattle.held_order.specs.ToldOrder.{IsImpliedOrder}
use Rattle.held_order.proofs.ToldOrders.{some_order_is_told}
use Rattle.two_orders.specs.Growth.{grown_by, key_of, positions_in}
use Rattle.two_orders.specs.LabelLaws.{grown_twice}
use Rattle.two_orders.specs.Trees.{tree}
use Rattle.two_orders.specs.TwoOrders.{TwoOrders, two_orders}
use Rattle.two_orders.proofs.Agreement.{grows_again}
use Rattle.held_order.specs.Agreement.{AreRightBy, IsRightByGrown, TellsPositions}
use Rattle.held_order.specs.Between.{Goal, IsGoalBetween, goal_between}
use Rattle.held_order.specs.GoalLaws.{AreGoalSteps, IsGoalLine, next_towards}
use Rattle.held_order.specs.HandedStages.{AreHandedSteps, HandedOrdersStay, HandedStepsAreGoalSteps, RightTablesHaveGoals}
use Rattle.held_order.specs.Orders.{AreOrders, edges_in, orders_from}
use Rattle.held_order.specs.TablesBetween.{tables_between}
use Rattle.held_order.proofs.Agreement.{are, orders_stay}
use Rattle.held_order.proofs.GoalTurns.{goal_turns_well}
use Rattle.held_order.proofs.OneGoal.{one_orders}
use Rattle.held_order.proofs.Safe.{grown_is_order, lids_between, owners_by_lids}

pub right_tables_have_goals : RightTablesHaveGoals
right_tables_have_goals facts tables plan by preferred q right none =
    some_order_is_told (cells_of facts) tables (grown_by (edges_in (cells_of facts)) preferred) q (λ i less. (are facts preferred).all i less) right none

-- the next tables between two orders
unfoldable pub next_between : Facts → TwoOrders → HeldPlan → HeldPlan → HeldPlan
next_between facts orders plan tables = next_towards facts tables (goal_between (cells_of facts) orders tables plan)

pub next_is : (facts : Facts) (orders : TwoOrders) (plan tables : HeldPlan)
    → next_between facts orders plan tables ≡ next_towards facts tables (goal_between (cells_of facts) orders tables plan)
unfolding next_between
next_is facts orders plan tables = refl

-- one step between an order that grows and one that grows over its tree
module _ (facts : Facts) (told by : List ℕ) (plan tables : HeldPlan) where
  abbrev cells : Cells
  cells = cells_of facts

  abbrev orders : TwoOrders
  orders = grown_twice (edges_in (cells_of facts)) told by

  abbrev q : ℕ → ℕ
  q = position_at (grown_twice (edges_in (cells_of facts)) told by).first

  abbrev between : HeldPlan
  between = tables_between (cells_of facts) (edges_in (cells_of facts)) (grown_twice (edges_in (cells_of facts)) told by) tables plan

  abbrev next : HeldPlan
  next = next_between facts (grown_twice (edges_in (cells_of facts)) told by) plan tables

  next_by_order : AreNextByOrder cells q tables between next
  next_by_order =
      subst (λ (t : HeldPlan). AreNextByOrder cells q tables between t) (sym (next_is facts orders plan tables))
      (ordered_tables_are_next facts orders.first tables between)

  pub next_right : AreRightBy cells orders.first tables → AreRightBy cells orders.first next
  next_right right =
      (all_are_step cells q tables between next (grown_is_order facts told) right (λ lid some. (goal_turns_well facts orders tables plan lid).0)
      next_by_order).1

  pub between_owners : (lid : ℕ) → owners_of between lid ≡ owners_of plan lid
  between_owners lid = owners_by_lids between plan (lids_between cells (edges_in cells) orders tables plan) lid

  pub next_owners : (lid : ℕ) → owners_of next lid ≡ owners_of plan lid
  next_owners lid = next_by_order.owners lid ∙ between_owners lid

  -- for a LID that one end port alone holds
  pub next_line : (line : HeldLid) → IsKept tables plan line → IsNextByOrder cells q tables between line next
  next_line line kept =
      all_follow_the_rule cells q tables between next line next_by_order
      (record { in_plan = between_owners line.lid ∙ kept.in_plan; in_held = kept.in_held })

  -- for a LID that no end port holds
  pub none_held : (lid i g : ℕ) → owners_of plan lid ≡ [] → slice_get (switches cells) i ≡ Some g → entry_for next lid g ≡ 255
  none_held lid i g empty there =
      next_by_order.entries i g lid there
      ∙ ap (λ (os : List EndPort). ordered_for cells q tables between lid os i g) (between_owners lid ∙ empty)

  pub none_leads : (lid : ℕ) → owners_of plan lid ≡ [] → (i j : ℕ) → Leads cells next lid i j → ⊥
  none_leads lid empty i j l = none_to cells next lid l.switch j (none_held lid i l.switch empty l.is_there) l.goes

-- the tables after n steps
abbrev pub steps_between : Facts → TwoOrders → HeldPlan → HeldPlan → ℕ → HeldPlan
steps_between facts orders plan start zero = start
steps_between facts orders plan start (suc n) = next_between facts orders plan (steps_between facts orders plan start n)

module _ (facts : Facts) (told by : List ℕ) (plan start : HeldPlan)
    (right : AreRightBy (cells_of facts) (grown_twice (edges_in (cells_of facts)) told by).first start) where
  abbrev at : ℕ → HeldPlan
  at n = steps_between facts (grown_twice (edges_in (cells_of facts)) told by) plan start n

  pub right_at : (n : ℕ) → AreRightBy (cells_of facts) (grown_twice (edges_in (cells_of facts)) told by).first (at n)
  right_at zero = right
  right_at (suc n) = next_right facts told by plan (at n) (right_at n)

  -- if a step changes nothing, no later one does
  pub stays_at : (last : ℕ) → at (suc last) ≡ at last → (j : ℕ) → at (j + last) ≡ at last
  stays_at last same zero = ap at (omega arith)
  stays_at last same (suc j) =
      let e : suc j + last ≡ suc (j + last) = omega arith in
      ap at e ∙ ap (next_between facts (grown_twice (edges_in (cells_of facts)) told by) plan) (stays_at last same j) ∙ same

  kept_at : (line : HeldLid) → IsKept start plan line → (n : ℕ) → IsKept (at n) plan line
  kept_at line kept zero = kept
  kept_at line kept (suc n) = record { in_plan = kept.in_plan; in_held = next_owners facts told by plan (at n) line.lid ∙ kept.in_plan }

  pub goal_steps : (line : HeldLid) → IsGoalLine (cells_of facts) plan line → IsKept start plan line
      → ((i g : ℕ) → slice_get (switches (cells_of facts)) i ≡ Some g → (entry_for start line.lid g ≡ 255) ⊎ DeliverFrom (cells_of facts) start line i)
      → AreGoalSteps facts told by plan line at
  goal_steps line is kept delivering = record {
    is_line = is;
    owners = kept.in_plan ∙ sym kept.in_held;
    right = right line.lid is.some;
    delivering = delivering;
    steps = λ n. next_line facts told by plan (at n) line (kept_at line kept n);
  }

-- the orders of a step from tables that are right by the order that grows by the implied one
pub orders_are_grown : (facts : Facts) (tables : HeldPlan) (told by : List ℕ) → IsRightByGrown (cells_of facts) tables told
    → orders_from (cells_of facts) tables (edges_in (cells_of facts)) by told ≡ grown_twice (edges_in (cells_of facts)) told by
orders_are_grown facts tables told by right =
    let edges = edges_in (cells_of facts) in
    let n = length edges in
    let first = positions_in (grown_by edges told) n in
    ap (λ b. cond b (two_orders first (grown_by (tree edges first) by) n) (two_orders told (grown_by edges told) n)) right

pub right_by_first : (facts : Facts) (tables : HeldPlan) (told by : List ℕ) → IsRightByGrown (cells_of facts) tables told
    → AreRightBy (cells_of facts) (grown_twice (edges_in (cells_of facts)) told by).first tables
right_by_first facts tables told by right =
    (rightness_is_told (cells_of facts) (position_at (positions_in (grown_by (edges_in (cells_of facts)) told) (length (edges_in (cells_of facts)))))
    tables).0 right

module _ (facts : Facts) (by preferred : List ℕ) (plan : HeldPlan) (tables : ℕ → HeldPlan) (goals : ℕ → Goal) (count : ℕ)
    (are : AreHandedSteps facts by preferred plan tables goals count) (its : TellsPositions (cells_of facts) (tables 0) preferred)
    (grown : IsRightByGrown (cells_of facts) (tables 0) its.positions) where
  abbrev all_edges : List (List Edge)
  all_edges = edges_in (cells_of facts)

  abbrev its_orders : TwoOrders
  its_orders = grown_twice (edges_in (cells_of facts)) its.positions by

  abbrev Made : ℕ → Type 0
  Made n = goals n ≡ goal_between (cells_of facts) (grown_twice (edges_in (cells_of facts)) its.positions by) (tables n) plan

  first_right : AreRightBy (cells_of facts) its_orders.first (tables 0)
  first_right = right_by_first facts (tables 0) its.positions by grown

  -- a goal is made from its orders
  made_by : (n : ℕ) (p : List ℕ) (is : IsGoalBetween (cells_of facts) (tables n) plan by p (goals n)) → is.orders ≡ its_orders → Made n
  made_by n p is same = is.is ∙ ap (λ (o : TwoOrders). goal_between (cells_of facts) o (tables n) plan) same

  first_made : 0 < count → Made 0
  first_made some =
      let is : IsGoalBetween (cells_of facts) (tables 0) plan by preferred (goals 0) = are.goal_is 0 some in
      let own : AreOrders (cells_of facts) (tables 0) all_edges by preferred (Some (orders_from (cells_of facts) (tables 0) all_edges by its.positions)) =
      (its.taken, its.is_told, ap (orders_from (cells_of facts) (tables 0) all_edges by) its.are) in
      let same = one_orders (cells_of facts) (tables 0) all_edges by preferred is.orders (orders_from (cells_of facts) (tables 0) all_edges by its.positions)
      is.are own in
      made_by 0 preferred is (same ∙ orders_are_grown facts (tables 0) its.positions by grown)

  later_made : (n : ℕ) → suc n < count → Made n → AreRightBy (cells_of facts) its_orders.first (tables (suc n)) → Made (suc n)
  later_made n less made right =
      let is : IsGoalBetween (cells_of facts) (tables (suc n)) plan by (goals n).positions (goals (suc n)) = are.goal_is (suc n) less in
      let lead : LeadToVertices all_edges = leads_below (graph_of (cells_of facts)) (graph_law facts) in
      let same : grown_by all_edges (goals n).positions ≡ grown_by all_edges its.positions =
      ap (λ (g : Goal). grown_by all_edges g.positions) made ∙ grows_again all_edges lead (map key_of its.positions) in
      let told : IsImpliedOrder (cells_of facts) (tables (suc n)) (grown_by all_edges its.positions) (Some is.are.0) =
      subst (λ (ps : List ℕ). IsImpliedOrder (cells_of facts) (tables (suc n)) ps (Some is.are.0)) same is.are.1 in
      made_by (suc n) (goals n).positions is (is.are.2 ∙ orders_stay facts (tables (suc n)) its.positions by is.are.0 right told)

  -- the tables so far
  abbrev reached : ℕ → HeldPlan
  reached n = steps_between facts (grown_twice (edges_in (cells_of facts)) its.positions by) plan (tables 0) n

  go_on : (n : ℕ) → n < count → Made n → tables n ≡ reached n → tables (suc n) ≡ reached (suc n)
  go_on n less made same =
      are.step_is n less ∙ ap (next_towards facts (tables n)) made ∙ sym (next_is facts its_orders plan (tables n))
      ∙ ap (next_between facts its_orders plan) same

  pub stays : (n : ℕ) → n ≤ count → (tables n ≡ reached n) × (n < count → Made n)
  stays zero low = (refl, first_made)
  stays (suc n) low =
      let less : n < count = omega (arith, low) in
      let before = stays n (omega (arith, low)) in
      let made = before.1 less in
      let same = go_on n less made before.0 in
      let right = subst (λ (t : HeldPlan). AreRightBy (cells_of facts) its_orders.first t) (sym same)
      (right_at facts its.positions by plan (tables 0) first_right (suc n)) in
      (same, λ more. later_made n more made right)

pub handed_orders_stay : HandedOrdersStay
handed_orders_stay facts by preferred plan tables goals count are told grown = (
  λ n less. (stays facts by preferred plan tables goals count are told grown n (omega (arith, less))).1 less,
  λ n low.
      subst (λ (t : HeldPlan). AreRightBy (cells_of facts) (grown_twice (edges_in (cells_of facts)) told.positions by).first t)
      (sym (stays facts by preferred plan tables goals count are told grown n low).0)
      (right_at facts told.positions by plan (tables 0) (right_by_first facts (tables 0) told.positions by grown) n),
)

pub handed_steps_are_goal_steps : HandedStepsAreGoalSteps
handed_steps_are_goal_steps facts by preferred plan tables goals count are told grown line is kept delivering = (
  steps_between facts (grown_twice (edges_in (cells_of facts)) told.positions by) plan (tables 0),
  goal_steps facts told.positions by plan (tables 0) (right_by_first facts (tables 0) told.positions by grown) line is kept delivering,
  λ n low. (stays facts by preferred plan tables goals count are told grown n low).0,
)
