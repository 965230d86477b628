-- Steps towards the plan of a view.
use Rattle.std.proofs.Common.{◌≡◌, ℕ, suc, ◌<◌, List, length, sym, ap, ◌∙◌, subst, arith}
use Rattle.std.specs.Prelude.{◌&&◌, not, nat_lt, map, Contains, slice_index_or}
use Rattle.fact_store.specs.View.{Facts, cells_of}
use Rattle.subnet_view.specs.Graph.{graph_of, guids_of}
use Rattle.subnet_view.specs.Reading.{Cells, switches}
use Rattle.subnet_view.proofs.Graphs.{graph_law}
use Rattle.subnet_view.proofs.GraphSwitches.{graph_guids}
use Rattle.spread_labels.specs.Orders.{position_of}
use Rattle.spread_routes.specs.Adapters.{adapters_of}
use Rattle.spread_routes.specs.SwitchOrder.{OrderValue}
use Rattle.lft_blocks.specs.Plan.{plan_of}
use Rattle.lft_blocks.specs.Rule.{order_of, spread_in, up_and_down}
use Rattle.plan_order.specs.PlanOrder.{rank_position}
use Rattle.held_tables.specs.Held.{HeldPlan}
use Rattle.plan_tables.specs.PlanTables.{held_plan}
use Rattle.next_tables.specs.SwitchPositions.{AreApart, AreRight, IsOrder, switch_at}
use Rattle.next_tables.proofs.Entries.{at_mapped, member}
use Rattle.next_tables.proofs.Hops.{leads_at, leads_within, to_within, to_wired}
use Rattle.next_tables.proofs.by_order.Goal.{end_in_twice_as_many}
use Rattle.next_tables.proofs.by_order.Lost.{rule_is_tried}
use Rattle.next_tables.proofs.by_order.Round.{all_are_step}
use Rattle.next_tables.proofs.by_order.Waits.{numbers_rise_by_order}
use Rattle.table_laws.specs.PlanLaws.{PlanOrdersAreOrders, PlansAreRight, StepsEndInPlans, StepsTowardsPlans, plan_position}
use Rattle.table_laws.proofs.plan_orders.NamedPositions.{named_position}
use Rattle.table_laws.proofs.plan_orders.PlanOrders.{spread_orders_are_orders, updown_orders_are_orders}
use Rattle.table_laws.proofs.plan_orders.PlanRight.{spread_plans_are_right, spread_position}
use Rattle.table_laws.proofs.plan_orders.PlansCover.{plans_cover}
use Rattle.table_laws.proofs.plan_orders.UpdownRight.{rank_at, updown_plans_are_right}

-- positions that agree at each switch
module _ (cells : Cells) (p q : ℕ → ℕ) (alike : (i : ℕ) → i < length (switches cells) → p i ≡ q i) where
  pub right_alike : (tables : HeldPlan) (lid : ℕ) → AreRight cells q tables lid → AreRight cells p tables lid
  right_alike tables lid right i j k a b =
      let e = alike i (leads_within cells tables lid i j a) in
      let f = alike j (leads_within cells tables lid j k b) in
      let g = alike k (to_within cells tables lid (switch_at cells j) k (leads_at cells tables lid j k b)) in
      (λ t. not (nat_lt (f t) (e t)) && not (nat_lt (f t) (g t))) ∙ right i j k a b

  order_alike : IsOrder cells q × AreApart cells q → IsOrder cells p × AreApart cells p
  order_alike is = (
    λ i less. let e = alike i less in let f = is.0 i less in omega (arith, e, f),
    λ i j i_less j_less wired same. is.1 i j i_less j_less wired (sym (alike i i_less) ∙ same ∙ alike j j_less),
  )

-- those of a rule
module _ (facts : Facts) where
  abbrev cells : Cells
  cells = cells_of facts

  by_guid : (f : ℕ → ℕ) (i : ℕ) → i < length (switches cells) → slice_index_or (map f (guids_of (graph_of cells))) i 0 ≡ f (switch_at cells i)
  by_guid f i less =
      ap (λ (xs : List ℕ). slice_index_or (map f xs) i 0) (graph_guids cells) ∙ at_mapped f (switches cells) i 0 less

  by_rank : (i : ℕ) → i < length (switches cells) → plan_position up_and_down cells i ≡ rank_at cells i
  by_rank i less = by_guid (rank_position (graph_of cells)) i less

  by_keys : (order : OrderValue) (i : ℕ) → i < length (switches cells) → plan_position (spread_in order) cells i ≡ spread_position cells order i
  by_keys order i less =
      by_guid (position_of (order_of order cells)) i less
      ∙ named_position (graph_of cells) (adapters_of cells) order (graph_law facts) (switch_at cells i)
      (subst (λ (xs : List ℕ). Contains xs (switch_at cells i)) (sym (graph_guids cells)) (member (switches cells) i less))

pub plans_are_right : PlansAreRight
plans_are_right up_and_down lmc facts range has_room lid one =
    right_alike (cells_of facts) (plan_position up_and_down (cells_of facts)) (rank_at (cells_of facts)) (by_rank facts)
    (held_plan (plan_of up_and_down lmc (cells_of facts))) lid (updown_plans_are_right lmc facts range has_room lid one)
plans_are_right (spread_in order) lmc facts range has_room lid one =
    right_alike (cells_of facts) (plan_position (spread_in order) (cells_of facts)) (spread_position (cells_of facts) order) (by_keys facts order)
    (held_plan (plan_of (spread_in order) lmc (cells_of facts))) lid (spread_plans_are_right order lmc facts range has_room lid one)

pub plan_orders_are_orders : PlanOrdersAreOrders
plan_orders_are_orders up_and_down facts =
    order_alike (cells_of facts) (plan_position up_and_down (cells_of facts)) (rank_at (cells_of facts)) (by_rank facts) (updown_orders_are_orders facts)
plan_orders_are_orders (spread_in order) facts =
    order_alike (cells_of facts) (plan_position (spread_in order) (cells_of facts)) (spread_position (cells_of facts) order) (by_keys facts order)
    (spread_orders_are_orders order facts)

pub steps_towards_plans : StepsTowardsPlans
steps_towards_plans rule lmc facts range has_room held next right are =
    let cells = cells_of facts in
    let q = plan_position rule cells in
    let plan = held_plan (plan_of rule lmc cells) in
    let order = plan_orders_are_orders rule facts in
    let is = all_are_step cells q held plan next order.0 right (plans_are_right rule lmc facts range has_room) are in
    (numbers_rise_by_order cells q held plan next is.0, is.1)

pub steps_end_in_plans : StepsEndInPlans
steps_end_in_plans rule lmc facts range has_room line is_held is_end tables owners right steps i g m one at_g d most =
    let cells = cells_of facts in
    let q = plan_position rule cells in
    let plan = held_plan (plan_of rule lmc cells) in
    let order = plan_orders_are_orders rule facts in
    end_in_twice_as_many cells q plan line tables
    (record {
      order = order.0;
      apart = order.1;
      owners = owners;
      held_right = right;
      goal_right = plans_are_right rule lmc facts range has_room line.lid one;
      covers = λ x y l to.
          plans_cover rule lmc facts range has_room line is_held is_end x y (leads_within cells (tables 0) line.lid x y l)
          (to_wired cells (tables 0) line.lid _ y (leads_at cells (tables 0) line.lid x y l)) to;
      steps = λ n. rule_is_tried cells q (tables n) plan (tables (suc n)) line (steps n);
    }) i g m at_g d most
