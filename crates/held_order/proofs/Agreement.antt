-- How far the order that tables tell agrees with the plan's.
use Rattle.std.proofs.Common.{[], ◌≡◌, ◌∙◌, ◌<◌, ◌≤◌, ℕ, zero, suc, Bool, true, false, cond, List, length, sym, ap, subst, arith, inl, inr, Some, map}
use Rattle.std.proofs.lemmas.Bool.{and_parts, cases_lt}
use Rattle.std.proofs.lemmas.List.{length-replicate}
use Rattle.std.proofs.lemmas.List.FromFn.{get_or-map-range_with_len}
use Rattle.fact_store.specs.View.{Facts, cells_of}
use Rattle.port_graph.specs.declared.edge.Edge.{Edge}
use Rattle.port_graph.specs.Heads.{LeadToVertices}
use Rattle.subnet_view.specs.Reading.{Cells, switches}
use Rattle.subnet_view.specs.Graph.{graph_of}
use Rattle.subnet_view.proofs.Graphs.{graph_law}
use Rattle.held_tables.specs.Held.{HeldPlan}
use Rattle.spread_labels.specs.KeyOrder.{before_by}
use Rattle.spread_labels.specs.Orders.{numbers_from, position_of}
use Rattle.spread_labels.proofs.ByPositions.{position_less}
use Rattle.spread_routes.proofs.Indices.{leads_below}
use Rattle.next_tables.specs.SwitchPositions.{AreRight, is_bad, is_down, is_up, position_at}
use Rattle.next_tables.proofs.Hops.{leads_within, to_within}
use Rattle.next_tables.specs.Rightness.{are_right}
use Rattle.next_tables.proofs.by_order.ToldRight.{rightness_is_told}
use Rattle.next_tables.proofs.by_order.Turns.{not_true}
use Rattle.held_order.specs.ToldOrder.{IsImpliedOrder, all_left, position_in}
use Rattle.held_order.proofs.Agreed.{told_orders_agree, told_orders_are_stable}
use Rattle.held_order.proofs.ToldOrders.{bad_is, is_le, some_order_is_told, told_orders_are_right}
use Rattle.two_orders.specs.Agreement.{AgreesUpTo, AreVertices}
use Rattle.two_orders.specs.Growth.{grown_by, key_of, number_at, positions_in}
use Rattle.two_orders.specs.LabelLaws.{grown_twice}
use Rattle.two_orders.specs.Trees.{tree}
use Rattle.two_orders.specs.TwoOrders.{TwoOrders, two_orders}
use Rattle.two_orders.proofs.Agreement.{agreement_grows, agreement_stays, grown_are_vertices, grows_again}
use Rattle.held_order.specs.Agreement.{AgreeTo, AreOnTheWay, AreRightBy, GoalsAreFew, GoalsGoFurther, IsOnward, IsRightByGrown, OrdersStay}
use Rattle.held_order.specs.Agreement.{StepsKeepAgreement}
use Rattle.held_order.specs.Agreement.{TellsPositions, order_of_plan}
use Rattle.held_order.specs.Agreement.IsOnward.{first, second, goal}
use Rattle.held_order.specs.Between.{Goal, IsGoalBetween}
use Rattle.held_order.specs.GoalLaws.{next_towards}
use Rattle.held_order.specs.Orders.{edges_in, orders_by, orders_from, told_positions}
use Rattle.held_order.proofs.Safe.{count_is, goals_are_safe, grown_most}
use Rattle.held_order.proofs.SameGoal.{made_alike}
use Rattle.held_order.proofs.ToldPositions.{told_at}

-- an order by which another one is right
module _ (cells : Cells) (p q : ℕ → ℕ)
    (same : (a b : ℕ) → a < length (switches cells) → b < length (switches cells) → p a ≡ p b → a ≡ b)
    (less : (a b : ℕ) → a < length (switches cells) → b < length (switches cells) → p a < p b → q a < q b) where
  no_later : (a b : ℕ) → a < length (switches cells) → b < length (switches cells) → p a ≤ p b → q a ≤ q b
  no_later a b a_in b_in low =
      elim (cases_lt (p a) (p b)) [
        | inl under ↦ let more = less a b a_in b_in under in omega (arith, more)
        | inr over ↦ let is = same a b a_in b_in (omega (arith, low, over)) in omega (arith, ap q is)
      ]

  right_too : (tables : HeldPlan) (lid : ℕ) → AreRight cells q tables lid → AreRight cells p tables lid
  right_too tables lid right i j k a b =
      not_true (is_bad p i j k) (λ bad. (
      let parts = and_parts (is_down p i j) (is_up p j k) bad in
      let i_in = leads_within cells tables lid i j a in
      let j_in = leads_within cells tables lid j k b in
      let k_in = to_within cells tables lid b.switch k b.goes in
      let well = right i j k a b in
      let so = bad_is (q i) (q j) (q k) (no_later i j i_in j_in (is_le (p i) (p j) parts.0)) (no_later k j k_in j_in (is_le (p k) (p j) parts.1)) in
      absurd (cc)))

module _ (facts : Facts) (by : List ℕ) where
  abbrev cells : Cells
  cells = cells_of facts

  abbrev edges : List (List Edge)
  edges = edges_in (cells_of facts)

  abbrev P : List ℕ
  P = order_of_plan (cells_of facts) by

  lead : LeadToVertices edges
  lead = leads_below (graph_of (cells_of facts)) (graph_law facts)

  of_edges : AreVertices (length edges) P
  of_edges = grown_are_vertices edges lead by

  pub are : AreVertices (length (switches cells)) P
  are = subst (λ (n : ℕ). AreVertices n P) (count_is facts) of_edges

  -- tables that are right by an order that agrees with the plan's tell one that does
  tell : (tables : HeldPlan) (positions : List ℕ) (k : ℕ) → AreRightBy cells positions tables → AgreesUpTo P (number_at positions) k
      → AgreeTo cells tables by k
  tell tables positions k right agreed = record {
    some = λ none. some_order_is_told cells tables P (position_at positions) (λ i less. are.all i less) right none;
    agrees = λ taken told. told_orders_agree cells tables P taken (position_at positions) k are told right agreed;
  }

  module _ (held : HeldPlan) (taken : List ℕ) (told : IsImpliedOrder cells held P (Some taken)) where
    abbrev positions : List ℕ
    positions = told_positions taken (length edges)

    at : ◌≡◌ {A = ℕ → ℕ} (position_at positions) (position_in taken)
    at =
        let long = length-replicate (length (switches cells)) true in
        told_at cells held P taken (all_left cells) told.0 (length edges) told.1 (omega (arith, long, count_is facts))

    module _ (k : ℕ) (agrees : AgreesUpTo P (position_in taken) k) where
      by_positions : AgreesUpTo P (number_at positions) k
      by_positions = subst (λ (q : ℕ → ℕ). AgreesUpTo P q k) (sym at) agrees

      grown_stays : AgreesUpTo P (number_at (positions_in (grown_by edges positions) (length edges))) k
      grown_stays = agreement_stays edges lead by positions k by_positions

      further : AgreesUpTo P (number_at (positions_in (grown_by (tree edges (positions_in (grown_by edges positions) (length edges))) by) (length edges)))
          (suc k)
      further = agreement_grows edges lead by (positions_in (grown_by edges positions) (length edges)) k grown_stays

      fewer : (q : ℕ → ℕ) → AgreesUpTo P q (suc k) → AgreesUpTo P q k
      fewer q h i j low = h i j (omega (arith, low))

      first_agrees : AgreesUpTo P (number_at (orders_from cells held edges by positions).first) k
      first_agrees =
          let grown = positions_in (grown_by edges positions) (length edges) in
          elim (are_right cells (position_at grown) held) as (λ b. AgreesUpTo P (number_at (cond b
          (two_orders grown (grown_by (tree edges grown) by) (length edges))
          (two_orders positions (grown_by edges positions) (length edges))).first) k) [
            | true ↦ grown_stays
            | false ↦ by_positions
          ]

      second_agrees : AgreesUpTo P (number_at (orders_from cells held edges by positions).second) k
      second_agrees =
          let grown = positions_in (grown_by edges positions) (length edges) in
          elim (are_right cells (position_at grown) held) as (λ b. AgreesUpTo P (number_at (cond b
          (two_orders grown (grown_by (tree edges grown) by) (length edges))
          (two_orders positions (grown_by edges positions) (length edges))).second) k) [
            | true ↦ fewer (number_at (positions_in (grown_by (tree edges grown) by) (length edges))) further
            | false ↦ grown_stays
          ]

      second_further : are_right cells (position_at (positions_in (grown_by edges positions) (length edges))) held ≡ true
          → AgreesUpTo P (number_at (orders_from cells held edges by positions).second) (suc k)
      second_further right =
          let grown = positions_in (grown_by edges positions) (length edges) in
          subst (λ (b : Bool). AgreesUpTo P (number_at (cond b
          (two_orders grown (grown_by (tree edges grown) by) (length edges))
          (two_orders positions (grown_by edges positions) (length edges))).second) (suc k)) (sym right) further

  -- from tables to the next ones
  onward : (held next : HeldPlan) (count later : ℕ) → IsOnward cells held next by count later → AgreeTo cells held by count
      → AgreeTo cells next by later
  onward held next count later (first told right is) agree =
      let own = agree.agrees told.taken told.is_told in
      subst (λ (k : ℕ). AgreeTo cells next by k) (sym is)
      (tell next (orders_from cells held edges by told.positions).first count right
      (subst (λ (p : List ℕ). AgreesUpTo P (number_at (orders_from cells held edges by p).first) count) (sym told.are)
      (first_agrees held told.taken told.is_told count own)))
  onward held next count later (second told right is) agree =
      let own = agree.agrees told.taken told.is_told in
      subst (λ (k : ℕ). AgreeTo cells next by k) (sym is)
      (tell next (orders_from cells held edges by told.positions).second count right
      (subst (λ (p : List ℕ). AgreesUpTo P (number_at (orders_from cells held edges by p).second) count) (sym told.are)
      (second_agrees held told.taken told.is_told count own)))
  onward held next count later (goal told grown right is) agree =
      let own = agree.agrees told.taken told.is_told in
      let by_grown = subst (λ (p : List ℕ). IsRightByGrown cells held p) told.are grown in
      subst (λ (k : ℕ). AgreeTo cells next by k) (sym is)
      (tell next (orders_from cells held edges by told.positions).second (suc count) right
      (subst (λ (p : List ℕ). AgreesUpTo P (number_at (orders_from cells held edges by p).second) (suc count)) (sym told.are)
      (second_further held told.taken told.is_told count own by_grown)))

  -- a step
  step : (held plan : HeldPlan) (g : Goal) (k : ℕ) → IsGoalBetween cells held plan by by g → AgreeTo cells held by k
      → AgreeTo cells (next_towards facts held g) by k
  step held plan g k is agree =
      let taken = is.are.0 in
      let told = is.are.1 in
      let positions = told_positions taken (length edges) in
      let own = first_agrees held taken told k (agree.agrees taken told) in
      let by_goal = subst (λ (x : TwoOrders). AgreesUpTo P (number_at x.first) k) (sym is.are.2) own in
      let agreed = subst (λ (x : Goal). AgreesUpTo P (number_at x.positions) k) (sym is.is) by_goal in
      tell (next_towards facts held g) g.positions k (goals_are_safe facts held plan by by g is).1 agreed

  -- tables that tell an order agree with the plan's on none
  pub begins : (tables : HeldPlan) → TellsPositions cells tables by → AgreeTo cells tables by 0
  begins tables told = record {
    some = λ none.
        some_order_is_told cells tables P (position_in told.taken) (λ i less. are.all i less)
        (told_orders_are_right cells tables P told.taken told.is_told).2 none;
    agrees = λ taken is i j low. absurd (omega (arith, low));
  }

  -- the positions in the plan's order
  abbrev p : ℕ → ℕ
  p = number_at (positions_in (order_of_plan (cells_of facts) by) (length (edges_in (cells_of facts))))

  p_at : (a : ℕ) → a < length (switches cells) → p a ≡ position_of P a
  p_at a less = get_or-map-range_with_len (position_of P) 0 (length edges) a a 0 (omega (arith, less, count_is facts)) (omega arith)

  p_stands : (a : ℕ) → a < length (switches cells) → (p a < length P) × (number_at P (p a) ≡ a)
  p_stands a less =
      let there = position_less P a (are.all a less) in
      (omega (arith, there.0, p_at a less), ap (number_at P) (p_at a less) ∙ there.1)

  pub p_same : (a b : ℕ) → a < length (switches cells) → b < length (switches cells) → p a ≡ p b → a ≡ b
  p_same a b a_in b_in e = sym (p_stands a a_in).1 ∙ ap (number_at P) e ∙ (p_stands b b_in).1

  -- tables that agree on all switches but one are right by the plan's order
  right_by_plan : (tables : HeldPlan) (position : ℕ → ℕ) (k : ℕ) → ((lid : ℕ) → 1 ≤ lid → AreRight cells position tables lid)
      → AgreesUpTo P position k → length (switches cells) ≤ suc k
      → AreRightBy cells (positions_in (order_of_plan (cells_of facts) by) (length (edges_in (cells_of facts)))) tables
  right_by_plan tables position k right agreed many lid some = right_too cells p position p_same less tables lid (right lid some)
    where
      less : (a b : ℕ) → a < length (switches cells) → b < length (switches cells) → p a < p b → position a < position b
      less a b a_in b_in low =
          let at_a = p_stands a a_in in
          let at_b = p_stands b b_in in
          let most = grown_most edges (before_by (map key_of by)) (length edges) [] (numbers_from 0 (length edges)) in
          let own = agreed (p a) (p b) (omega (arith, low, at_b.0, most, many, count_is facts)) low at_b.0 in
          omega (arith, own, ap position at_a.1, ap position at_b.1)

  -- by the order that they tell
  pub told_right_by_plan : (tables : HeldPlan) (k : ℕ) → TellsPositions cells tables by → AgreeTo cells tables by k → length (switches cells) ≤ suc k
      → AreRightBy cells (positions_in (order_of_plan (cells_of facts) by) (length (edges_in (cells_of facts)))) tables
  told_right_by_plan tables k told agree many =
      right_by_plan tables (position_in told.taken) k (told_orders_are_right cells tables P told.taken told.is_told).2 (agree.agrees told.taken told.is_told)
      many

  -- by the second order of a step, if they have reached its goal
  pub reached_right_by_plan : (held next : HeldPlan) (count : ℕ) (told : TellsPositions cells held by) → IsRightByGrown cells held told.positions
      → AreRightBy cells (orders_from cells held edges by told.positions).second next → AgreeTo cells held by count
      → length (switches cells) ≤ suc (suc count)
      → AreRightBy cells (positions_in (order_of_plan (cells_of facts) by) (length (edges_in (cells_of facts)))) next
  reached_right_by_plan held next count told grown right agree many =
      let own = agree.agrees told.taken told.is_told in
      let by_grown = subst (λ (p : List ℕ). IsRightByGrown cells held p) told.are grown in
      right_by_plan next (number_at (orders_from cells held edges by told.positions).second) (suc count) right
      (subst (λ (p : List ℕ). AgreesUpTo P (number_at (orders_from cells held edges by p).second) (suc count)) (sym told.are)
      (second_further held told.taken told.is_told count own by_grown)) many

pub steps_keep_agreement : StepsKeepAgreement
steps_keep_agreement facts held plan by g k is agree = step facts by held plan g k is agree

pub goals_go_further : GoalsGoFurther
goals_go_further facts held next by count later is agree = onward facts by held next count later is agree

told_of : (its : Cells) (held next : HeldPlan) (by : List ℕ) (count later : ℕ) → IsOnward its held next by count later → TellsPositions its held by
told_of its held next by count later (first told right is) = told
told_of its held next by count later (second told right is) = told
told_of its held next by count later (goal told grown right is) = told

module _ (facts : Facts) (by : List ℕ) (tables : ℕ → HeldPlan) (reached : ℕ → ℕ) (way : AreOnTheWay (cells_of facts) by tables reached) where
  agree_at : (m : ℕ) → AgreeTo (cells_of facts) (tables m) by (reached m)
  agree_at zero = subst (λ (k : ℕ). AgreeTo (cells_of facts) (tables 0) by k) (sym way.none_yet) (begins facts by (tables 0) way.told)
  agree_at (suc m) = onward facts by (tables m) (tables (suc m)) (reached m) (reached (suc m)) (way.each m) (agree_at m)

pub goals_are_few : GoalsAreFew
goals_are_few facts by tables reached way m many =
    let told = told_of (cells_of facts) (tables m) (tables (suc m)) by (reached m) (reached (suc m)) (way.each m) in
    told_right_by_plan facts by (tables m) (reached m) told (agree_at facts by tables reached way m) many

-- the orders of the next step, if the first of these is handed on
module _ (facts : Facts) (tables : HeldPlan) (told by taken : List ℕ)
    (right : AreRightBy (cells_of facts) (positions_in (grown_by (edges_in (cells_of facts)) told) (length (edges_in (cells_of facts)))) tables)
    (is_told : IsImpliedOrder (cells_of facts) tables (grown_by (edges_in (cells_of facts)) told) (Some taken)) where
  abbrev all_edges : List (List Edge)
  all_edges = edges_in (cells_of facts)

  abbrev grown : List ℕ
  grown = grown_by (edges_in (cells_of facts)) told

  right_in : (lid : ℕ) → 1 ≤ lid → AreRight (cells_of facts) (position_of grown) tables lid
  right_in lid some =
      right_too (cells_of facts) (position_of grown) (position_at (positions_in grown (length all_edges)))
      (λ a b a_in b_in e. p_same facts told a b a_in b_in (p_at facts told a a_in ∙ e ∙ sym (p_at facts told b b_in)))
      (λ a b a_in b_in low. omega (arith, low, p_at facts told a a_in, p_at facts told b b_in)) tables lid (right lid some)

  same_positions : told_positions taken (length all_edges) ≡ positions_in grown (length all_edges)
  same_positions =
      made_alike (position_in taken) (position_of grown) (length all_edges) 0
      (λ s less. told_orders_are_stable (cells_of facts) tables grown taken (are facts told) is_told right_in s (omega (arith, less, count_is facts)))

  stay : orders_from (cells_of facts) tables all_edges by (told_positions taken (length all_edges)) ≡ grown_twice all_edges told by
  stay =
      let n = length all_edges in
      let first = positions_in grown n in
      ap (λ p. orders_by (cells_of facts) tables all_edges by p (grown_by all_edges p)) same_positions
      ∙ ap (orders_by (cells_of facts) tables all_edges by first) (grows_again all_edges (lead facts told) (map key_of told))
      ∙ ap (λ b. cond b (two_orders first (grown_by (tree all_edges first) by) n) (two_orders first grown n))
      ((rightness_is_told (cells_of facts) (position_at first) tables).1 right)

pub orders_stay : OrdersStay
orders_stay facts tables told by taken right is_told = stay facts tables told by taken right is_told
