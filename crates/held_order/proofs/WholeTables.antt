-- Tables by which packets get everywhere are right by the order that grows by the one that they tell.
use Rattle.std.proofs.Common.{◌≡◌, ◌∙◌, ◌<◌, ◌≤◌, ◌&&◌, ℕ, zero, suc, true, false, not, List, length, refl, sym, ap, arith, inl, inr, Some}
use Rattle.std.specs.Prelude.{Contains, nat_lt}
use Rattle.std.proofs.lemmas.Bool.{and_parts, cases_lt}
use Rattle.std.proofs.lemmas.List.{length-replicate}
use Rattle.fact_store.specs.View.{Facts, cells_of}
use Rattle.port_graph.specs.declared.edge.Edge.{Edge}
use Rattle.port_graph.specs.Heads.{LeadToVertices, edges_at, heads}
use Rattle.port_graph.specs.Walks.{Walk}
use Rattle.port_graph.proofs.Lists.{contains_map}
use Rattle.subnet_view.specs.Reading.{Cells, switches}
use Rattle.subnet_view.specs.Graph.{graph_of}
use Rattle.subnet_view.proofs.Graphs.{graph_law}
use Rattle.held_tables.specs.Held.{HeldPlan}
use Rattle.spread_labels.specs.LabelLaws.{IsSymmetric}
use Rattle.spread_routes.proofs.Indices.{leads_below, there_and_back}
use Rattle.next_tables.specs.SwitchPositions.{AreRight, Leads, is_bad, is_down, is_up}
use Rattle.next_tables.proofs.Hops.{leads_within, to_within}
use Rattle.next_tables.proofs.by_order.ToldRight.{rightness_is_told}
use Rattle.next_tables.proofs.by_order.Turns.{not_true}
use Rattle.held_order.specs.ToldOrder.{IsImpliedOrder, all_left, position_in}
use Rattle.held_order.proofs.ToldOrders.{all_within, apart, bad_is, is_le, taken_each}
use Rattle.two_orders.specs.Agreement.{CouldGrow}
use Rattle.two_orders.specs.Growth.{grown_by, number_at, positions_in}
use Rattle.two_orders.proofs.GrownOrders.{grown_orders_stay}
use Rattle.held_order.specs.Agreement.{ComeEverywhere, ComeTo, WholeTablesGrow}
use Rattle.held_order.specs.Orders.{edges_in, told_positions}
use Rattle.held_order.proofs.Arrivals.{wired_head}
use Rattle.held_order.proofs.Safe.{count_is, told_is}
use Rattle.held_order.proofs.ToldPositions.{told_at}

goes_later : (a b c : ℕ) → a ≤ b → (not (nat_lt b a) && not (nat_lt b c)) ≡ false → b < c
goes_later a b c le well = grind arith

module _ (facts : Facts) (tables : HeldPlan) (preferred taken : List ℕ) (whole : ComeEverywhere (cells_of facts) tables)
    (told : IsImpliedOrder (cells_of facts) tables preferred (Some taken)) where
  abbrev its_cells : Cells
  its_cells = cells_of facts

  abbrev wires : List (List Edge)
  wires = edges_in (cells_of facts)

  abbrev positions : List ℕ
  positions = told_positions taken (length (edges_in (cells_of facts)))

  abbrev q : ℕ → ℕ
  q = number_at (told_positions taken (length (edges_in (cells_of facts))))

  wires_lead : LeadToVertices wires
  wires_lead = leads_below (graph_of (cells_of facts)) (graph_law facts)

  both_ways : IsSymmetric wires
  both_ways = there_and_back (graph_of (cells_of facts)) (graph_law facts)

  right_by_told : (lid : ℕ) → 1 ≤ lid → AreRight its_cells q tables lid
  right_by_told = (told_is facts tables preferred taken told).right

  in_list : (a : ℕ) → a < length wires → (q a ≡ position_in taken a) × Contains taken a
  in_list a less =
      let long = length-replicate (length (switches its_cells)) true in
      let as_told = told_at its_cells tables preferred taken (all_left its_cells) told.0 (length wires) told.1 (omega (arith, long, count_is facts)) in (
        ap (λ (f : ℕ → ℕ). f a) as_told,
        taken_each its_cells tables preferred (all_left its_cells) taken told.0 told.1 told.2 a
            (all_within (length (switches its_cells)) a (omega (arith, less, count_is facts))),
      )

  no_two : (a b : ℕ) → a < length wires → b < length wires → q a ≡ q b → a ≡ b
  no_two a b a_in b_in e =
      let one = in_list a a_in in
      let other = in_list b b_in in
      apart taken a b one.1 other.1 (sym one.0 ∙ e ∙ other.0)

  -- what went down goes on down
  stays_down : (lid n a x b : ℕ) → 1 ≤ lid → Leads its_cells tables lid a x → q a ≤ q x → ComeTo its_cells tables lid n x b → q a ≤ q b
  stays_down lid zero a x b some l low same = omega (arith, low, ap q same)
  stays_down lid (suc n) a x b some l low (y, on, rest) =
      let later = goes_later (q a) (q x) (q y) low (right_by_told lid some a x y l on) in
      let far = stays_down lid n x y b some on (omega (arith, later)) rest in
      omega (arith, low, far)

  first_step : (lid n a b : ℕ) → 1 ≤ lid → ComeTo its_cells tables lid n a b → q b < q a → (e : Edge) × Contains (edges_at wires a) e × (q e.to < q a)
  first_step lid zero a b some same low = absurd (omega (arith, low, ap q same))
  first_step lid (suc n) a b some (x, l, rest) low =
      elim (cases_lt (q x) (q a)) [
        | inl lower ↦
            let e = contains_map (λ (y : Edge). y.to) (edges_at wires a) x (wired_head facts tables lid a x l) in
            (e.0, e.1, omega (arith, lower, ap q e.2))
        | inr no_lower ↦ (let far = stays_down lid n a x b some l no_lower rest in absurd (omega (arith, far, low)))
      ]

  could_grow : CouldGrow wires q
  could_grow = record {
    apart = no_two;
    earlier = λ a b k a_in b_in walk low. (
        let way = whole a b k (omega (arith, a_in, count_is facts)) (omega (arith, b_in, count_is facts)) walk in
        first_step way.0 way.1 a b way.2 way.3 low);
  }

  abbrev p : ℕ → ℕ
  p = number_at (positions_in (grown_by (edges_in (cells_of facts)) (told_positions taken (length (edges_in (cells_of facts)))))
      (length (edges_in (cells_of facts))))

  no_earlier : (a b k : ℕ) → a < length (switches its_cells) → b < length (switches its_cells) → Walk (heads wires) b a k → p a ≤ p b → q a ≤ q b
  no_earlier a b k a_in b_in walk low =
      elim (cases_lt (q b) (q a)) [
        | inl less ↦
            let grows = grown_orders_stay wires wires_lead both_ways positions could_grow b a k (omega (arith, b_in, count_is facts))
            (omega (arith, a_in, count_is facts)) walk less in
            absurd (omega (arith, grows, low))
        | inr more ↦ more
      ]

  right_by_grown : (lid : ℕ) → 1 ≤ lid → AreRight its_cells p tables lid
  right_by_grown lid some i j k a b =
      not_true (is_bad p i j k) (λ bad. (
      let parts = and_parts (is_down p i j) (is_up p j k) bad in
      let i_in = leads_within its_cells tables lid i j a in
      let j_in = leads_within its_cells tables lid j k b in
      let k_in = to_within its_cells tables lid b.switch k b.goes in
      let back = both_ways i j (wired_head facts tables lid i j a) in
      let on = wired_head facts tables lid j k b in
      let well = right_by_told lid some i j k a b in
      let so = bad_is (q i) (q j) (q k) (no_earlier i j 1 i_in j_in (i, back, refl) (is_le (p i) (p j) parts.0))
      (no_earlier k j 1 k_in j_in (k, on, refl) (is_le (p k) (p j) parts.1)) in
      absurd (cc)))

pub whole_tables_grow : WholeTablesGrow
whole_tables_grow facts tables preferred taken whole told =
    (rightness_is_told (cells_of facts) (p facts tables preferred taken whole told) tables).1
    (right_by_grown facts tables preferred taken whole told)
