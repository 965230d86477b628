-- Stages of handed steps towards a whole plan.
use Rattle.std.proofs.Common.{◌≡◌, ◌∙◌, ◌<◌, ◌≤◌, ◌⊎◌, ◌+◌, ◌*◌, ℕ, zero, suc, List, [], ◌∷◌, Some, length, refl, sym, ap, subst, arith, inl, inr}
use Rattle.std.specs.Prelude.{max, slice_get}
use Rattle.fact_store.specs.View.{AreInRange, Facts, cells_of}
use Rattle.subnet_view.specs.declared.end_port.EndPort.{EndPort}
use Rattle.subnet_view.specs.Reading.{Cells, switches}
use Rattle.held_tables.specs.Held.{HeldPlan}
use Rattle.held_tables.specs.declared.held.HeldLid.{HeldLid}
use Rattle.held_tables.specs.Tables.{entry_for, owners_of, top_of}
use Rattle.plan_tables.proofs.HeldTables.{within_length}
use Rattle.packet_walks.specs.declared.packet_end.End.TheVariants.{Taken}
use Rattle.packet_walks.specs.declared.next_hop.NextHop.TheVariants.{To, Ends}
use Rattle.packet_walks.proofs.EntrySteps.{contains_at}
use Rattle.next_tables.specs.SwitchPositions.{AreRight, position_at, switch_at}
use Rattle.next_tables.specs.SettledRule.{step_at}
use Rattle.next_tables.specs.NextTables.{IsKept, StepRuleValue, by_order, next_at, next_top}
use Rattle.next_tables.proofs.Entries.{at_mapped}
use Rattle.next_tables.proofs.Hops.{leads_within, placed}
use Rattle.next_tables.proofs.Whole.{entry_next, top_next}
use Rattle.next_tables.specs.OrderedStepLaws.{DeliverFrom}
use Rattle.next_tables.proofs.by_order.Round.{next_deliver_or_drop_by_order}
use Rattle.two_orders.specs.Growth.{grown_by, positions_in}
use Rattle.two_orders.specs.LabelLaws.{grown_twice}
use Rattle.two_orders.specs.TwoOrders.{TwoOrders}
use Rattle.held_order.specs.Agreement.{AgreeTo, AreGrown, AreRightBy, ComeEverywhere, ComeTo, IsRightByGrown, TellsPositions, order_of_plan}
use Rattle.held_order.specs.Agreement.IsOnward.{goal}
use Rattle.held_order.specs.Between.{IsGoalBetween}
use Rattle.held_order.specs.GoalLaws.{AreGoalSteps, IsGoalLine}
use Rattle.held_order.specs.HandedStages.{HandedStepsEnd, HaveOwnLids, IsOwnLid, IsStage, IsWholePlan, StagesAreFew, StagesMakeWhole}
use Rattle.held_order.specs.Orders.{edges_in, orders_from, told_positions}
use Rattle.held_order.specs.TablesBetween.{tables_between}
use Rattle.held_order.proofs.Agreement.{begins, goals_go_further, reached_right_by_plan, told_right_by_plan}
use Rattle.held_order.proofs.Arrivals.{arrives_at, own_switch, walk_of}
use Rattle.held_order.proofs.GoalEntries.{top_is}
use Rattle.held_order.proofs.GoalReached.{goal_ends_right, goal_is_reached}
use Rattle.held_order.proofs.GoalReaches.{goal_reaches_all}
use Rattle.held_order.proofs.GoalTurns.{columns, goal_is}
use Rattle.held_order.proofs.HandedSteps.{between_owners, next_between, next_is, next_line, next_owners, none_held, none_leads, orders_are_grown, right_at}
use Rattle.held_order.proofs.HandedSteps.{right_by_first, stays, stays_at, steps_between}
use Rattle.held_order.proofs.Safe.{lids_between}
use Rattle.held_order.proofs.SameTables.{next_same}
use Rattle.held_order.proofs.WholeTables.{whole_tables_grow}

none_or_one : (es : List EndPort) (e : EndPort) → es ≡ [] → es ≡ e ∷ [] → ⊥
none_or_one es e a b = absurd (cc)

one_owner : (a b : EndPort) → a ∷ [] ≡ b ∷ [] → a ≡ b
one_owner a b e = cc

tops_stay : (t p : ℕ) → max (max t (max t p)) (max (max t (max t p)) p) ≡ max t (max t p)
tops_stay t p = grind arith

-- steps between two orders towards a whole plan, from the third tables on
module _ (facts : Facts) (range : AreInRange facts) (told by : List ℕ) (plan start : HeldPlan) (whole : IsWholePlan (cells_of facts) plan)
    (right : AreRightBy (cells_of facts) (grown_twice (edges_in (cells_of facts)) told by).first start) where
  abbrev cells : Cells
  cells = cells_of facts

  abbrev n : ℕ
  n = length (switches (cells_of facts))

  abbrev orders : TwoOrders
  orders = grown_twice (edges_in (cells_of facts)) told by

  abbrev at : ℕ → HeldPlan
  at m = steps_between facts (grown_twice (edges_in (cells_of facts)) told by) plan start m

  abbrev from_third : ℕ → HeldPlan
  from_third m = steps_between facts (grown_twice (edges_in (cells_of facts)) told by) plan start (suc (suc m))

  abbrev between : HeldPlan
  between =
      tables_between (cells_of facts) (edges_in (cells_of facts)) (grown_twice (edges_in (cells_of facts)) told by)
      (steps_between facts (grown_twice (edges_in (cells_of facts)) told by) plan start 2) plan

  module _ (line : HeldLid) (is : IsGoalLine (cells_of facts) plan line) (alone : owners_of plan line.lid ≡ line.port ∷ []) where
    kept : (m : ℕ) → IsKept (at (suc m)) plan line
    kept m = record { in_plan = alone; in_held = next_owners facts told by plan (at m) line.lid ∙ alone }

    delivering : (m i g : ℕ) → slice_get (switches cells) i ≡ Some g → (entry_for (from_third m) line.lid g ≡ 255) ⊎ DeliverFrom cells (from_third m) line i
    delivering m i g there =
        let between_then = tables_between cells (edges_in cells) orders (at (suc m)) plan in
        let owners = between_owners facts told by plan (at (suc m)) line.lid ∙ alone ∙ sym (kept m).in_held in
        next_deliver_or_drop_by_order cells (position_at orders.first) (at (suc m)) between_then (from_third m) line owners
        (next_line facts told by plan (at (suc m)) line (kept m)) i g there

    line_steps : AreGoalSteps facts told by plan line from_third
    line_steps = record {
      is_line = is;
      owners = alone ∙ sym (kept 1).in_held;
      right = right_at facts told by plan start right 2 line.lid is.some;
      delivering = delivering 0;
      steps = λ m. next_line facts told by plan (from_third m) line (kept (suc m));
    }

    -- the goal delivers from each switch from which the tables do
    goal_does : (m i : ℕ) → i < n → DeliverFrom cells (from_third m) line i → DeliverFrom cells between line i
    goal_does m i less delivers =
        let d = whole.delivers (from_third m) line (kept (suc m)) i delivers in
        let x = arrives_at facts plan line.lid line.port d.0 i less d.1 in
        goal_reaches_all facts range told by (at 2) plan line is i x.last x.long x.within (walk_of facts plan line.lid line.port x.long i x.last x.comes) x.ends

    straight : (i : ℕ) → i < n → step_at cells (at 2) line.lid (switch_at cells i) ≡ Ends (Taken line.port) → DeliverFrom cells between line i
    straight i less h = goal_does 0 i less (1, at_mapped (step_at cells (at 2) line.lid) (switches cells) i (To i) less ∙ h)

    line_right : (m : ℕ) → 1 ≤ m → 2 * n ≤ m → AreRight cells (position_at orders.second) (from_third m) line.lid
    line_right m one many = goal_ends_right facts range told by plan line from_third line_steps straight m one many

    -- in the end entries stay
    entry_stays : (m : ℕ) → 2 * n ≤ m → (i g : ℕ) → slice_get (switches cells) i ≡ Some g
        → entry_for (from_third (suc m)) line.lid g ≡ entry_for (from_third m) line.lid g
    entry_stays m many i g there =
        elim (delivering m i g there) [
          | inr d ↦ by_goal (goal_does m i less d)
          | inl none ↦ (elim (delivering (suc m) i g there) [
            | inr d ↦ by_goal (goal_does (suc m) i less d)
            | inl gone ↦ gone ∙ sym none
          ])
        ]
      where
        less : i < n
        less = within_length (switches cells) i g there

        by_goal : DeliverFrom cells between line i → entry_for (from_third (suc m)) line.lid g ≡ entry_for (from_third m) line.lid g
        by_goal d =
            (goal_is_reached facts range told by plan line from_third line_steps i g (suc m) there d (omega (arith, many))).0
            ∙ sym (goal_is_reached facts range told by plan line from_third line_steps i g m there d many).0

  all_stay : (m : ℕ) → 2 * n ≤ m → (lid i g : ℕ) → slice_get (switches cells) i ≡ Some g
      → entry_for (from_third (suc m)) lid g ≡ entry_for (from_third m) lid g
  all_stay m many zero i g there = refl
  all_stay m many (suc lid) i g there =
      elim (whole.lines (suc lid) (omega arith)) [
        | inl empty ↦
            none_held facts told by plan (from_third m) (suc lid) i g empty there
            ∙ sym (none_held facts told by plan (at (suc m)) (suc lid) i g empty there)
        | inr found ↦ entry_stays (record { lid = suc lid; port = found.0 }) found.2 found.1 m many i g there
      ]

  -- and so do the tables
  abbrev goal_from : HeldPlan → HeldPlan
  goal_from tables = tables_between (cells_of facts) (edges_in (cells_of facts)) (grown_twice (edges_in (cells_of facts)) told by) tables plan

  abbrev rule : StepRuleValue
  rule = by_order (grown_twice (edges_in (cells_of facts)) told by).first

  goal_top : (tables : HeldPlan) (i g : ℕ) → slice_get (switches cells) i ≡ Some g → next_top tables (goal_from tables) g
      ≡ max (top_of tables g) (max (top_of tables g) (top_of plan g))
  goal_top tables i g there =
      ap (max (top_of tables g))
      (ap (λ (t : HeldPlan). top_of t g) (goal_is facts orders tables plan 0) ∙ top_is facts tables plan (columns facts orders tables plan 0) i g there)

  next_entry_is : (tables : HeldPlan) (lid i g : ℕ) → slice_get (switches cells) i ≡ Some g
      → next_at cells rule tables (goal_from tables) lid g ≡ entry_for (next_between facts orders plan tables) lid g
  next_entry_is tables lid i g there =
      sym (entry_next cells rule tables (goal_from tables) g lid (contains_at (switches cells) i g there))
      ∙ ap (λ (t : HeldPlan). entry_for t lid g) (sym (next_is facts orders plan tables))

  next_top_is : (tables : HeldPlan) (i g : ℕ) → slice_get (switches cells) i ≡ Some g
      → top_of (next_between facts orders plan tables) g ≡ max (top_of tables g) (max (top_of tables g) (top_of plan g))
  next_top_is tables i g there =
      ap (λ (t : HeldPlan). top_of t g) (next_is facts orders plan tables)
      ∙ top_next cells rule tables (goal_from tables) g (contains_at (switches cells) i g there) ∙ goal_top tables i g there

  pub tables_stay : (m : ℕ) → 2 * n ≤ m → from_third (suc m) ≡ from_third m
  tables_stay m many =
      let one = from_third m in
      let other = at (suc m) in
      next_is facts orders plan one
      ∙ next_same cells rule rule one (goal_from one) other (goal_from other)
      (lids_between cells (edges_in cells) orders one plan ∙ sym (lids_between cells (edges_in cells) orders other plan))
      (λ i g there. record {
        top = goal_top one i g there
            ∙ (λ k. max (next_top_is other i g there k) (max (next_top_is other i g there k) (top_of plan g)))
            ∙ tops_stay (top_of other g) (top_of plan g) ∙ sym (goal_top other i g there);
        entries = λ lid. next_entry_is one lid i g there ∙ all_stay m many lid i g there ∙ sym (next_entry_is other lid i g there);
      }) ∙ sym (next_is facts orders plan other)

  -- the tables are right by the second order
  pub stage_right : (m : ℕ) → 2 * n ≤ m → AreRightBy cells orders.second (from_third m)
  stage_right m many lid some =
      elim (whole.lines lid some) [
        | inl empty ↦ λ i j k a b. absurd (none_leads facts told by plan (at (suc m)) lid empty i j a)
        | inr found ↦ λ i j k a b.
            (let less = leads_within cells (from_third m) lid i j a in
            line_right (record { lid = lid; port = found.0 }) found.2 found.1 m (omega (arith, less, many)) many i j k a b)
      ]

  abbrev own_port : ℕ → EndPort
  own_port j = record { node = switch_at (cells_of facts) j; port = 0 }

  -- and packets come from each switch to all others that wires join to it
  pub stage_whole : HaveOwnLids (cells_of facts) plan → (m : ℕ) → 2 * n ≤ m → ComeEverywhere cells (from_third m)
  stage_whole have m many i j k i_in j_in walk =
      let own = have j j_in in
      by_line own.0 own.1 (whole.lines own.0 own.1.some)
    where
      by_line : (lid : ℕ) (its : IsOwnLid cells plan j lid)
          → (owners_of plan lid ≡ []) ⊎ ((e : EndPort) × (owners_of plan lid ≡ e ∷ []) × IsGoalLine cells plan (record { lid = lid; port = e }))
          → (l x : ℕ) × (1 ≤ l) × ComeTo cells (from_third m) l x i j
      by_line lid its (inl empty) = absurd (none_or_one (owners_of plan lid) (own_port j) empty its.alone)
      by_line lid its (inr found) =
          let is_own : found.0 ≡ own_port j = one_owner found.0 (own_port j) (sym found.1 ∙ its.alone) in
          let line : HeldLid = record { lid = lid; port = own_port j } in
          let is : IsGoalLine cells plan line = subst (λ (x : EndPort). IsGoalLine cells plan (record { lid = lid; port = x })) is_own found.2 in
          let to_goal = goal_reaches_all facts range told by (at 2) plan line is i j k j_in walk its.takes in
          let there = placed (switches cells) i i_in in
          let d = (goal_is_reached facts range told by plan line from_third (line_steps line is its.alone) i (switch_at cells i) m there to_goal many).1 in
          let x = arrives_at facts (from_third m) lid (own_port j) d.0 i i_in d.1 in
          let last = own_switch facts (from_third m) lid x.last j x.within j_in x.ends in
          (lid, x.long, its.some, subst (λ (y : ℕ). ComeTo cells (from_third m) lid x.long i y) last x.comes)

-- a stage
module _ (facts : Facts) (range : AreInRange facts) (by : List ℕ) (plan start end : HeldPlan) (whole : IsWholePlan (cells_of facts) plan)
    (have : HaveOwnLids (cells_of facts) plan) (stage : IsStage facts by plan start end) (grown : AreGrown (cells_of facts) start by) where
  abbrev its_cells : Cells
  its_cells = cells_of facts

  some : 0 < stage.count
  some =
      elim stage.done [
        | inl many ↦ omega (arith, many)
        | inr still ↦ (let is = still.1 in omega (arith, is))
      ]

  first_told : TellsPositions its_cells (stage.tables 0) by
  first_told =
      let is : IsGoalBetween its_cells (stage.tables 0) plan by by (stage.goals 0) = stage.are.goal_is 0 some in
      record { taken = is.are.0; is_told = is.are.1; positions = told_positions is.are.0 (length (edges_in its_cells)); are = refl }

  first_grown : IsRightByGrown its_cells (stage.tables 0) first_told.positions
  first_grown = subst (λ (t : HeldPlan). AreGrown its_cells t by) (sym stage.begins) grown first_told

  abbrev its_orders : TwoOrders
  its_orders = grown_twice (edges_in (cells_of facts)) first_told.positions by

  first_right : AreRightBy its_cells its_orders.first (stage.tables 0)
  first_right = right_by_first facts (stage.tables 0) first_told.positions by first_grown

  -- the last tables
  record Last (t : HeldPlan) : Type 0 where
    steps : ℕ
    enough : 2 * length (switches its_cells) ≤ steps
    is : t ≡ steps_between facts its_orders plan (stage.tables 0) (suc (suc steps))

  made_at : (c : ℕ) → c ≤ stage.count → stage.tables c ≡ steps_between facts its_orders plan (stage.tables 0) c
  made_at c low = (stays facts by by plan stage.tables stage.goals stage.count stage.are first_told first_grown c low).0

  after_many : (c : ℕ) → c ≡ stage.count → 2 * length (switches its_cells) + 2 ≤ c → Last (stage.tables c)
  after_many zero same many = absurd (omega (arith, many))
  after_many (suc zero) same many = absurd (omega (arith, many))
  after_many (suc (suc m)) same many = record { steps = m; enough = omega (arith, many); is = made_at (suc (suc m)) (omega (arith, same)) }

  -- if the last step changes nothing, neither would any more
  where_still : (before : ℕ) → stage.count ≡ suc before → stage.tables (suc before) ≡ stage.tables before → Last (stage.tables stage.count)
  where_still before is_next same =
      let one = made_at (suc before) (omega (arith, is_next)) in
      let other = made_at before (omega (arith, is_next)) in
      let more = 2 * length (switches its_cells) in
      let still = stays_at facts first_told.positions by plan (stage.tables 0) first_right before (sym one ∙ same ∙ other) (more + 2) in
      let e : more + 2 + before ≡ suc (suc (more + before)) = omega arith in
      record {
        steps = more + before;
        enough = omega arith;
        is = ap stage.tables is_next ∙ same ∙ other ∙ sym still ∙ ap (steps_between facts its_orders plan (stage.tables 0)) e;
      }

  last : Last (stage.tables stage.count)
  last =
      elim stage.done [
        | inl many ↦ after_many stage.count refl many
        | inr still ↦ where_still still.0 still.1 still.2
      ]

  end_is : end ≡ steps_between facts its_orders plan (stage.tables 0) (suc (suc last.steps))
  end_is = sym stage.ends ∙ last.is

  pub end_comes : ComeEverywhere its_cells end
  end_comes =
      subst (λ (t : HeldPlan). ComeEverywhere its_cells t) (sym end_is)
      (stage_whole facts range first_told.positions by plan (stage.tables 0) whole first_right have last.steps last.enough)

  end_right : AreRightBy its_cells (orders_from its_cells (stage.tables 0) (edges_in its_cells) by first_told.positions).second end
  end_right =
      subst (λ (x : TwoOrders × HeldPlan). AreRightBy its_cells x.0.second x.1)
      (λ k. (sym (orders_are_grown facts (stage.tables 0) first_told.positions by first_grown) k, sym end_is k))
      (stage_right facts range first_told.positions by plan (stage.tables 0) whole first_right last.steps last.enough)

  at_begin : (k : ℕ) → AgreeTo its_cells start by k → AgreeTo its_cells (stage.tables 0) by k
  at_begin k agree = subst (λ (t : HeldPlan). AgreeTo its_cells t by k) (sym stage.begins) agree

  pub goes_further : (k : ℕ) → AgreeTo its_cells start by k → AgreeTo its_cells end by (suc k)
  goes_further k agree = goals_go_further facts (stage.tables 0) end by k (suc k) (goal first_told first_grown end_right refl) (at_begin k agree)

  pub ends_by_plan : (k : ℕ) → AgreeTo its_cells start by k → length (switches its_cells) ≤ suc (suc k)
      → AreRightBy its_cells (positions_in (order_of_plan (cells_of facts) by) (length (edges_in (cells_of facts)))) end
  ends_by_plan k agree many = reached_right_by_plan facts by (stage.tables 0) end k first_told first_grown end_right (at_begin k agree) many

pub handed_steps_end : HandedStepsEnd
handed_steps_end facts range by preferred plan tables goals count are told grown whole zero many less = absurd (omega (arith, many))
handed_steps_end facts range by preferred plan tables goals count are told grown whole (suc zero) many less = absurd (omega (arith, many))
handed_steps_end facts range by preferred plan tables goals count are told grown whole (suc (suc m)) many less =
    let right = right_by_first facts (tables 0) told.positions by grown in
    (stays facts by preferred plan tables goals count are told grown (suc (suc (suc m))) (omega (arith, less))).0
    ∙ tables_stay facts range told.positions by plan (tables 0) whole right m (omega (arith, many))
    ∙ sym (stays facts by preferred plan tables goals count are told grown (suc (suc m)) (omega (arith, less))).0

pub stages_make_whole : StagesMakeWhole
stages_make_whole facts range by plan start end whole have stage grown = end_comes facts range by plan start end whole have stage grown

-- tables under which packets get everywhere are right by the order that grows by the one that they imply
pub whole_are_grown : (facts : Facts) (tables : HeldPlan) (by : List ℕ) → ComeEverywhere (cells_of facts) tables → AreGrown (cells_of facts) tables by
whole_are_grown facts tables by comes told =
    subst (λ (p : List ℕ). IsRightByGrown (cells_of facts) tables p) (sym told.are)
    (whole_tables_grow facts tables (grown_by (edges_in (cells_of facts)) by) told.taken comes told.is_told)

module _ (facts : Facts) (range : AreInRange facts) (by : List ℕ) (plan : HeldPlan) (tables : ℕ → HeldPlan) (count : ℕ)
    (whole : IsWholePlan (cells_of facts) plan) (have : HaveOwnLids (cells_of facts) plan) (told : TellsPositions (cells_of facts) (tables 0) by)
    (grown : AreGrown (cells_of facts) (tables 0) by) (stages : (k : ℕ) → k < count → IsStage facts by plan (tables k) (tables (suc k))) where
  so_far : (k : ℕ) → k ≤ count → AgreeTo (cells_of facts) (tables k) by k × AreGrown (cells_of facts) (tables k) by
  so_far zero low = (begins facts by (tables 0) told, grown)
  so_far (suc k) low =
      let before = so_far k (omega (arith, low)) in
      let stage = stages k (omega (arith, low)) in (
        goes_further facts range by plan (tables k) (tables (suc k)) whole have stage before.1 k before.0,
        whole_are_grown facts (tables (suc k)) by (end_comes facts range by plan (tables k) (tables (suc k)) whole have stage before.1),
      )

  last_right : (c : ℕ) → c ≤ count → length (switches (cells_of facts)) ≤ suc c
      → AreRightBy (cells_of facts) (positions_in (order_of_plan (cells_of facts) by) (length (edges_in (cells_of facts)))) (tables c)
  last_right zero low many = told_right_by_plan facts by (tables 0) 0 told (so_far 0 low).0 many
  last_right (suc k) low many =
      let before = so_far k (omega (arith, low)) in
      ends_by_plan facts range by plan (tables k) (tables (suc k)) whole have (stages k (omega (arith, low))) before.1 k before.0 many

pub stages_are_few : StagesAreFew
stages_are_few facts range by plan tables count whole have told grown stages many =
    last_right facts range by plan tables count whole have told grown stages count (omega arith) many
