-- Steps towards the goal between an order that grows and one that grows over its tree end in it.
use Rattle.std.proofs.Common.{◌≡◌, ◌∙◌, ◌<◌, ◌≤◌, ◌⊎◌, ◌*◌, ◌==◌, ℕ, zero, suc, true, false, cond, List, length, Option, None, Some, refl, sym, ap, subst}
use Rattle.std.proofs.Common.{arith}
use Rattle.std.specs.Prelude.{nat_lt, slice_get}
use Rattle.std.proofs.lemmas.Bool.{le-ltb}
use Rattle.fact_store.specs.View.{AreInRange, Facts, cells_of}
use Rattle.port_graph.specs.declared.edge.Edge.{Edge}
use Rattle.subnet_view.specs.Reading.{Cells, switches}
use Rattle.held_tables.specs.declared.held.HeldLid.{HeldLid}
use Rattle.held_tables.specs.Held.{HeldPlan}
use Rattle.held_tables.specs.Switches.{row_of}
use Rattle.held_tables.specs.Tables.{entry_for, owners_of, top_of}
use Rattle.packet_walks.specs.declared.cause.Cause.{Cause}
use Rattle.packet_walks.specs.declared.cause.Cause.TheVariants.{AboveTop, NoEntry, NoLink, NoPort}
use Rattle.packet_walks.specs.declared.packet_end.End.TheVariants.{Taken}
use Rattle.packet_walks.specs.declared.next_hop.NextHop.TheVariants.{To, Ends}
use Rattle.packet_walks.specs.HopsByTables.{by_entry, cause_of}
use Rattle.packet_walks.proofs.EntrySteps.{contains_at}
use Rattle.subnet_view.specs.Reading.{port_count_of}
use Rattle.next_tables.specs.SwitchPositions.{AreRight, IsOrder, Leads, position_at, switch_at}
use Rattle.next_tables.specs.SettledRule.{step_at}
use Rattle.next_tables.proofs.Hops.{none_taken, placed, to_within}
use Rattle.next_tables.specs.OrderedStepLaws.{AreStepsByOrder, DeliverFrom, IsLineStep}
use Rattle.next_tables.proofs.by_order.EndRight.{end_right_by_any}
use Rattle.next_tables.proofs.by_order.Goal.{end_in_twice_as_many}
use Rattle.next_tables.proofs.by_order.Lost.{rule_is_tried, tried_is_choice}
use Rattle.next_tables.proofs.by_order.Round.{next_deliver_or_drop_by_order}
use Rattle.next_tables.proofs.by_order.Turns.{next_are_right}
use Rattle.two_orders.specs.declared.labels.Sides.{Sides}
use Rattle.two_orders.specs.LabelLaws.{grown_twice}
use Rattle.two_orders.specs.Labels.{label_at}
use Rattle.two_orders.specs.TwoOrders.{TwoOrders}
use Rattle.held_order.specs.GoalLaws.{AreGoalSteps, GoalEndsRight, GoalIsReached, IsGoalLine}
use Rattle.held_order.specs.TablesBetween.{labels_of_line, arrives, entry_with, tables_between}
use Rattle.held_order.specs.Orders.{edges_in}
use Rattle.held_order.proofs.Agreement.{p_same}
use Rattle.held_order.proofs.Arrivals.{arrives_at, walk_of, wired_head}
use Rattle.held_order.proofs.GoalDelivers.{arrives_is, entry_is, goes_on_to}
use Rattle.held_order.proofs.GoalEntries.{pair, top_is}
use Rattle.held_order.proofs.GoalReaches.{goal_reaches_all}
use Rattle.held_order.proofs.GoalTurns.{columns, goal, goal_is, goal_turns_well}
use Rattle.held_order.proofs.Safe.{grown_is_order, owners_by_lids}
use Rattle.held_order.proofs.SameGoal.{same_next, same_step}
use Rattle.held_order.proofs.StandStill.{goal_stands_still}

-- if the goal delivers, a walk leads to a switch from which the plan leads to the end port
module _ (facts : Facts) (range : AreInRange facts) (told by : List ℕ) (held plan : HeldPlan) (line : HeldLid)
    (is : IsGoalLine (cells_of facts) plan line) where
  abbrev cells : Cells
  cells = cells_of facts

  abbrev edges : List (List Edge)
  edges = edges_in (cells_of facts)

  abbrev n : ℕ
  n = length (switches (cells_of facts))

  abbrev lid : ℕ
  lid = line.lid

  abbrev orders : TwoOrders
  orders = grown_twice (edges_in (cells_of facts)) told by

  order : IsOrder cells (position_at orders.first)
  order = grown_is_order facts told

  abbrev G : HeldPlan
  G = goal facts (grown_twice (edges_in (cells_of facts)) told by) held plan line.lid

  abbrev labels : List (Option Sides)
  labels = labels_of_line (cells_of facts) (grown_twice (edges_in (cells_of facts)) told by) plan line

  ends_by_plan : (i : ℕ) → i < n → step_at cells G lid (switch_at cells i) ≡ Ends (Taken line.port)
      → step_at cells plan lid (switch_at cells i) ≡ Ends (Taken line.port)
  ends_by_plan i less h =
      let g = switch_at cells i in
      let hop = step_at cells plan lid g in
      elim (arrives line.port hop) as (λ t. arrives line.port hop ≡ t → hop ≡ Ends (Taken line.port)) [
        | true ↦ λ e. arrives_is line.port hop e
        | false ↦ λ e. absurd (never e (label_at labels i) refl)
      ] refl
    where
      never : arrives line.port (step_at cells plan lid (switch_at cells i)) ≡ false → (o : Option Sides) → label_at labels i ≡ o → ⊥
      never e None none =
          none_taken cells G lid (switch_at cells i) line.port
          (entry_is facts range orders order held plan line is i less
          ∙ ap (λ t. cond t (entry_for plan lid (switch_at cells i)) (entry_with edges orders labels (label_at labels i) i (pair cells held plan lid i))) e
          ∙ ap (λ o. entry_with edges orders labels o i (pair cells held plan lid i)) none) h
      never e (Some s) has =
          let on = goes_on_to facts range orders order held plan line is i s has e in
          let clash : To on.0 ≡ Ends (Taken line.port) = sym on.1 ∙ h in
          absurd (cc)

  abbrev between : HeldPlan
  between = tables_between (cells_of facts) (edges_in (cells_of facts)) (grown_twice (edges_in (cells_of facts)) told by) held plan

  pub goal_covers : (tables : HeldPlan) (i j : ℕ) → Leads cells tables lid i j → DeliverFrom cells between line j → DeliverFrom cells between line i
  goal_covers tables i j l delivers =
      let d = subst (λ (t : HeldPlan). DeliverFrom cells t line j) (goal_is facts orders held plan lid) delivers in
      let j_in = to_within cells tables lid l.switch j l.goes in
      let x = arrives_at facts G lid line.port d.0 j j_in d.1 in
      goal_reaches_all facts range told by held plan line is i x.last (suc x.long) x.within
      (j, wired_head facts tables lid i j l, walk_of facts G lid line.port x.long j x.last x.comes) (ends_by_plan x.last x.within x.ends)

-- steps
module _ (facts : Facts) (range : AreInRange facts) (told by : List ℕ) (plan : HeldPlan) (line : HeldLid) (tables : ℕ → HeldPlan)
    (are : AreGoalSteps facts told by plan line tables) where
  abbrev its_cells : Cells
  its_cells = cells_of facts

  abbrev its_orders : TwoOrders
  its_orders = grown_twice (edges_in (cells_of facts)) told by

  abbrev q : ℕ → ℕ
  q = position_at (grown_twice (edges_in (cells_of facts)) told by).first

  abbrev goal_at : ℕ → HeldPlan
  goal_at k = tables_between (cells_of facts) (edges_in (cells_of facts)) (grown_twice (edges_in (cells_of facts)) told by) (tables k) plan

  goal_owners : (k : ℕ) → owners_of (goal_at k) line.lid ≡ owners_of plan line.lid
  goal_owners k =
      ap (λ (t : HeldPlan). owners_of t line.lid) (goal_is facts its_orders (tables k) plan line.lid)
      ∙ owners_by_lids (goal facts its_orders (tables k) plan line.lid) plan refl line.lid

  goal_right : (k : ℕ) → AreRight its_cells q (goal_at k) line.lid
  goal_right k = (goal_turns_well facts its_orders (tables k) plan line.lid).0

  -- what holds of the tables of each step
  record Holds (k : ℕ) : Type 0 where
    owners : owners_of plan line.lid ≡ owners_of (tables k) line.lid
    right : AreRight its_cells q (tables k) line.lid
    delivering : (i g : ℕ) → slice_get (switches its_cells) i ≡ Some g → (entry_for (tables k) line.lid g ≡ 255) ⊎ DeliverFrom its_cells (tables k) line i

  holds : (k : ℕ) → Holds k
  holds zero = record { owners = are.owners; right = are.right; delivering = are.delivering }
  holds (suc k) =
      let now = holds k in
      let step = are.steps k in
      let tried = rule_is_tried its_cells q (tables k) (goal_at k) (tables (suc k)) line step in
      record {
        owners = now.owners ∙ sym step.owners;
        right = next_are_right its_cells q (tables k) (goal_at k) (tables (suc k)) line.lid now.right (goal_right k)
            (tried_is_choice its_cells q (tables k) (goal_at k) (tables (suc k)) line tried);
        delivering = next_deliver_or_drop_by_order its_cells q (tables k) (goal_at k) (tables (suc k)) line (goal_owners k ∙ now.owners) step;
      }

  line_step : (k : ℕ) → IsLineStep its_cells q (tables k) (goal_at k) line (tables (suc k))
  line_step k =
      let now = holds k in
      record {
        order = grown_is_order facts told;
        owners = goal_owners k ∙ now.owners;
        held_right = now.right;
        goal_right = goal_right k;
        is_next = rule_is_tried its_cells q (tables k) (goal_at k) (tables (suc k)) line (are.steps k);
      }

  -- the goals are the same
  same_entries : (k i g : ℕ) → slice_get (switches its_cells) i ≡ Some g → entry_for (goal_at k) line.lid g ≡ entry_for (goal_at 0) line.lid g
  same_entries zero i g there = refl
  same_entries (suc k) i g there =
      let now = holds k in
      goal_stands_still facts range its_orders (tables k) plan (tables (suc k)) line are.is_line (line_step k) now.delivering i g there
      ∙ same_entries k i g there

  within_top : (k i g : ℕ) → slice_get (switches its_cells) i ≡ Some g → line.lid ≤ top_of (goal_at k) g
  within_top k i g there =
      let top = ap (λ (t : HeldPlan). top_of t g) (goal_is facts its_orders (tables k) plan line.lid)
      ∙ top_is facts (tables k) plan (columns facts its_orders (tables k) plan line.lid) i g there in
      let low = are.is_line.within g (contains_at (switches its_cells) i g there) in
      omega (arith, top, low)

  abbrev below_top : ℕ → ℕ → Cause
  below_top g entry = cond (entry == 255) NoEntry (cond (nat_lt (port_count_of (cells_of facts) g) entry) NoPort NoLink)

  cause_is : (k i g : ℕ) → slice_get (switches its_cells) i ≡ Some g
      → cause_of its_cells (goal_at k) line.lid g ≡ below_top g (entry_for (goal_at k) line.lid g)
  cause_is k i g there =
      ap (λ t. cond t AboveTop (below_top g (entry_for (goal_at k) line.lid g))) (le-ltb (top_of (goal_at k) g) line.lid (within_top k i g there))

  same_hops : (k i g : ℕ) → slice_get (switches its_cells) i ≡ Some g → step_at its_cells (goal_at k) line.lid g ≡ step_at its_cells (goal_at 0) line.lid g
  same_hops k i g there =
      let owners = goal_owners k ∙ sym (goal_owners 0) in
      let entry = same_entries k i g there in
      let cause = cause_is k i g there ∙ ap (below_top g) entry ∙ sym (cause_is 0 i g there) in
      (λ t. by_entry (owners t) g (cause t) (row_of its_cells g) (entry t))

  steps_to_first : AreStepsByOrder its_cells q (goal_at 0) line tables
  steps_to_first = record {
    order = grown_is_order facts told;
    apart = λ i j i_in j_in wired e. p_same facts told i j i_in j_in e;
    owners = goal_owners 0 ∙ are.owners;
    held_right = are.right;
    goal_right = goal_right 0;
    covers = λ i j l d. goal_covers facts range told by (tables 0) plan line are.is_line (tables 0) i j l d;
    steps = λ k.
        same_step its_cells q (tables k) (goal_at k) (goal_at 0) line
        (λ x less. same_entries k x (switch_at its_cells x) (placed (switches its_cells) x less))
        (λ x less. same_hops k x (switch_at its_cells x) (placed (switches its_cells) x less)) (tables (suc k))
        (rule_is_tried its_cells q (tables k) (goal_at k) (tables (suc k)) line (are.steps k));
  }

  -- and the tables are right by the second order in the end
  module _ (taken : (i : ℕ) → i < length (switches its_cells) → step_at its_cells (tables 0) line.lid (switch_at its_cells i) ≡ Ends (Taken line.port)
      → DeliverFrom its_cells (goal_at 0) line i) where
    ends_right : (m : ℕ) → 1 ≤ m → 2 * length (switches its_cells) ≤ m
        → AreRight its_cells (position_at (grown_twice (edges_in (cells_of facts)) told by).second) (tables m) line.lid
    ends_right m one many =
        end_right_by_any its_cells q (goal_at 0) line tables steps_to_first
        (λ k.
        same_next its_cells q (tables k) (goal_at k) (goal_at 0) line
        (λ x less. same_entries k x (switch_at its_cells x) (placed (switches its_cells) x less))
        (λ x less. same_hops k x (switch_at its_cells x) (placed (switches its_cells) x less)) (tables (suc k)) (are.steps k)) taken
        (position_at (grown_twice (edges_in (cells_of facts)) told by).second) (goal_turns_well facts its_orders (tables 0) plan line.lid).1 m one many

pub goal_is_reached : GoalIsReached
goal_is_reached facts range told by plan line tables are i g m there d many =
    end_in_twice_as_many (cells_of facts) (position_at (grown_twice (edges_in (cells_of facts)) told by).first)
    (tables_between (cells_of facts) (edges_in (cells_of facts)) (grown_twice (edges_in (cells_of facts)) told by) (tables 0) plan) line tables
    (steps_to_first facts range told by plan line tables are) i g m there d many

pub goal_ends_right : GoalEndsRight
goal_ends_right facts range told by plan line tables are taken m one many = ends_right facts range told by plan line tables are taken m one many
