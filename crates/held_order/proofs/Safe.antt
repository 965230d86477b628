-- A step towards the goal is a step by the goal's first order.
use Rattle.std.proofs.Common.{◌≡◌, ◌∙◌, ◌<◌, ◌≤◌, ℕ, zero, suc, Bool, true, false, cond, List, [], ◌∷◌, length, refl, sym, ap, arith, subst, Some}
use Rattle.std.specs.Prelude.{map, slice_index_or}
use Rattle.std.proofs.lemmas.List.{length-replicate}
use Rattle.std.proofs.lemmas.List.FromFn.{get_or-map-range_with_len}
use Rattle.fact_store.specs.View.{Facts, cells_of}
use Rattle.port_graph.specs.declared.edge.Edge.{Edge}
use Rattle.subnet_view.specs.Reading.{Cells, switches}
use Rattle.subnet_view.specs.SwitchEdges.{SwitchEdges}
use Rattle.subnet_view.specs.Graph.{graph_of, guids_of}
use Rattle.subnet_view.specs.GraphLaws.{IsGraph, IsSwitch}
use Rattle.subnet_view.proofs.Graphs.{graph_law}
use Rattle.subnet_view.proofs.GraphSwitches.{graph_guids}
use Rattle.held_tables.specs.Held.{HeldPlan}
use Rattle.spread_labels.specs.declared.key_order.VertexKey.{VertexKey}
use Rattle.spread_labels.specs.KeyOrder.{before_by}
use Rattle.spread_labels.specs.Orders.{grown_behind, next_placed, numbers_from, position_of, without}
use Rattle.spread_labels.proofs.Growing.{contains_at}
use Rattle.spread_routes.specs.Rule.{by_index, order_by_keys}
use Rattle.spread_routes.proofs.Indices.{as_many, index_of_switch}
use Rattle.spread_routes.proofs.Names.{all_positioned, position_within}
use Rattle.held_tables.specs.Tables.{owners_of}
use Rattle.next_tables.specs.NextTables.{IsKept}
use Rattle.next_tables.specs.SwitchPositions.{AreRight, IsOrder, position_at}
use Rattle.next_tables.specs.Rightness.{are_right}
use Rattle.next_tables.proofs.by_order.OrderedTables.{ordered_tables_are_next}
use Rattle.next_tables.proofs.by_order.ToldRight.{rightness_is_told}
use Rattle.next_tables.proofs.by_order.Lost.{rule_is_tried}
use Rattle.next_tables.proofs.by_order.Round.{all_are_step, all_follow_the_rule}
use Rattle.held_order.specs.ToldOrder.{IsImpliedOrder, all_left}
use Rattle.held_order.proofs.ToldOrders.{told_orders_are_right}
use Rattle.two_orders.specs.Growth.{grown_by, key_of, positions_in}
use Rattle.two_orders.specs.Trees.{tree}
use Rattle.two_orders.specs.TwoOrders.{TwoOrders, two_orders}
use Rattle.held_order.specs.Between.{Goal, IsGoalBetween}
use Rattle.held_order.specs.TablesBetween.{tables_between}
use Rattle.held_order.specs.GoalLaws.{GoalsAreSafe, GoalsFollowTheRule, next_towards}
use Rattle.held_order.specs.Orders.{edges_in, orders_by, told_positions}
use Rattle.held_order.proofs.GoalTurns.{goal_turns_well}
use Rattle.held_order.proofs.ToldPositions.{told_at}

-- a grown order has no more than the vertices
pub grown_most : (edges : List (List Edge)) (before : ℕ → ℕ → Bool) (n : ℕ) (placed rest : List ℕ) → length (grown_behind edges before n placed rest) ≤ n
grown_most edges before zero placed rest = omega arith
grown_most edges before (suc n) placed [] = omega arith
grown_most edges before (suc n) placed (x ∷ rest) =
    let y = next_placed edges before placed x rest in
    let more = grown_most edges before n (y ∷ placed) (without y (x ∷ rest)) in
    omega (arith, more)

-- tables are right by positions, which are an order
pub record IsOrderOf (cells : Cells) (tables : HeldPlan) (positions : List ℕ) : Type 0 where
  pub order : IsOrder cells (position_at positions)
  pub right : (lid : ℕ) → 1 ≤ lid → AreRight cells (position_at positions) tables lid

module _ (facts : Facts) where
  abbrev cells : Cells
  cells = cells_of facts

  abbrev graph : List SwitchEdges
  graph = graph_of (cells_of facts)

  abbrev edges : List (List Edge)
  edges = edges_in (cells_of facts)

  abbrev good : IsGraph (graph_of (cells_of facts))
  good = graph_law facts

  guids_are : length (guids_of graph) ≡ length (switches cells)
  guids_are = ap (λ (xs : List ℕ). length xs) (graph_guids cells)

  pub count_is : length edges ≡ length (switches cells)
  count_is = as_many graph good ∙ guids_are

  -- the positions in a grown order are an order
  grown_few : (keys : List VertexKey) (i : ℕ) → i < length (switches cells) → position_of (order_by_keys graph keys) i < length (switches cells)
  grown_few keys i less =
      let below : i < length (guids_of graph) = omega (arith, less, guids_are) in
      let g = slice_index_or (guids_of graph) i 0 in
      let is : IsSwitch graph g = contains_at (guids_of graph) i below in
      let at : position_of (guids_of graph) g ≡ i = index_of_switch graph good i below in
      let within = position_within graph keys good g is in
      let same = ap (position_of (order_by_keys graph keys)) at in
      let many = all_positioned graph keys good in
      let most = grown_most (by_index graph) (before_by keys) (length (by_index graph)) [] (numbers_from 0 (length (by_index graph))) in
      omega (arith, within, same, many, most, count_is)

  pub grown_is_order : (positions : List ℕ) → IsOrder cells (position_at (positions_in (grown_by edges positions) (length edges)))
  grown_is_order positions i less =
      let list = grown_by edges positions in
      let at = get_or-map-range_with_len (position_of list) 0 (length edges) i i 0 (omega (arith, less, count_is)) (omega arith) in
      let few = grown_few (map key_of positions) i less in
      omega (arith, at, few)

  -- the told order is one by which the tables are right
  pub told_is : (tables : HeldPlan) (preferred taken : List ℕ) → IsImpliedOrder cells tables preferred (Some taken)
      → IsOrderOf cells tables (told_positions taken (length edges))
  told_is tables preferred taken is =
      let law = told_orders_are_right cells tables preferred taken is in
      let long = length-replicate (length (switches cells)) true in
      let at = told_at cells tables preferred taken (all_left cells) is.0 (length edges) is.1 (omega (arith, long, count_is)) in
      record {
        order = subst (λ (q : ℕ → ℕ). IsOrder cells q) (sym at) law.0;
        right = λ lid h. subst (λ (q : ℕ → ℕ). AreRight cells q tables lid) (sym at) (law.2 lid h);
      }

  -- so is the first of the two orders
  first_is : (held : HeldPlan) (plan told grown : List ℕ) → IsOrderOf cells held told → IsOrder cells (position_at (positions_in grown (length edges)))
      → IsOrderOf cells held (orders_by cells held edges plan told grown).first
  first_is held plan told grown is order =
      let first = positions_in grown (length edges) in
      let test = are_right cells (position_at first) held in
      elim test as (λ b. test ≡ b → IsOrderOf cells held (cond b (two_orders first (grown_by (tree edges first) plan) (length edges))
      (two_orders told grown (length edges))).first) [
        | true ↦ λ e. record { order = order; right = (rightness_is_told cells (position_at first) held).0 e }
        | false ↦ λ e. is
      ] refl

-- who holds a LID hangs on the lines of LIDs alone
pub owners_by_lids : (a b : HeldPlan) → a.lids ≡ b.lids → (lid : ℕ) → owners_of a lid ≡ owners_of b lid
owners_by_lids a b e lid = λ i. owners_of (record { lids = e i; switches = a.switches; blocks = a.blocks }) lid

-- the tables between two orders have the LIDs of the plan
pub lids_between : (cells : Cells) (edges : List (List Edge)) (orders : TwoOrders) (held plan : HeldPlan)
    → (tables_between cells edges orders held plan).lids ≡ plan.lids
unfolding tables_between
lids_between cells edges orders held plan = refl

module _ (facts : Facts) (held plan : HeldPlan) (by preferred : List ℕ) (goal : Goal) (is : IsGoalBetween (cells_of facts) held plan by preferred goal) where
  -- the held tables are right by the order of the goal
  pub held_is : IsOrderOf (cells_of facts) held goal.positions
  held_is =
      let cells = cells_of facts in
      let taken = is.are.0 in
      let told = told_positions taken (length (edges_in cells)) in
      let first = first_is facts held by told (grown_by (edges_in cells) told) (told_is facts held (grown_by (edges_in cells) preferred) taken is.are.1)
      (grown_is_order facts told) in
      let own = subst (λ (o : TwoOrders). IsOrderOf cells held o.first) (sym is.are.2) first in
      subst (λ (g : Goal). IsOrderOf cells held g.positions) (sym is.is) own

  -- so is the goal
  pub goal_right : (lid : ℕ) → 1 ≤ lid → AreRight (cells_of facts) (position_at goal.positions) goal.tables lid
  goal_right lid some =
      subst (λ (g : Goal). AreRight (cells_of facts) (position_at g.positions) g.tables lid) (sym is.is)
      (goal_turns_well facts is.orders held plan lid).0

  -- it has the LIDs of the plan
  pub goal_lids : goal.tables.lids ≡ plan.lids
  goal_lids = ap (λ (g : Goal). g.tables.lids) is.is ∙ lids_between (cells_of facts) (edges_in (cells_of facts)) is.orders held plan

  pub goal_owners : (lid : ℕ) → owners_of goal.tables lid ≡ owners_of plan lid
  goal_owners lid = owners_by_lids goal.tables plan goal_lids lid

pub goals_are_safe : GoalsAreSafe
goals_are_safe facts held plan by preferred goal is =
    let own = held_is facts held plan by preferred goal is in
    all_are_step (cells_of facts) (position_at goal.positions) held goal.tables (next_towards facts held goal) own.order own.right
    (goal_right facts held plan by preferred goal is) (ordered_tables_are_next facts goal.positions held goal.tables)

pub goals_follow_the_rule : GoalsFollowTheRule
goals_follow_the_rule facts held plan by preferred goal line is kept some =
    let cells = cells_of facts in
    let q = position_at goal.positions in
    let next = next_towards facts held goal in
    let own = held_is facts held plan by preferred goal is in
    let owners = goal_owners facts held plan by preferred goal is line.lid in
    let kept_on : IsKept held goal.tables line = record { in_plan = owners ∙ kept.in_plan; in_held = kept.in_held } in
    let follows = all_follow_the_rule cells q held goal.tables next line (ordered_tables_are_next facts goal.positions held goal.tables) kept_on in
    record {
      order = own.order;
      owners = owners ∙ kept.in_plan ∙ sym kept.in_held;
      held_right = own.right line.lid some;
      goal_right = goal_right facts held plan by preferred goal is line.lid some;
      is_next = rule_is_tried cells q held goal.tables next line follows;
    }
