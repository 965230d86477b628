-- The next port is the least port down to a switch one nearer, or else the least port up to a switch of least cost, and is the only one.
use Rattle.std.proofs.Common.{◌≡◌, ℕ, zero, suc, List, inl, inr, refl, sym, ap, ◌∙◌, subst, arith, Bool, true, false, ◌==◌, length}
use Rattle.std.proofs.lemmas.Option.{none-some, same_Some}
use Rattle.std.proofs.lemmas.Bool.{eqb-true, eqb-false}
use Rattle.std.specs.Prelude.{Option, None, Some, MatchOption, Contains, option_map}
use Rattle.port_graph.specs.declared.edge.Edge.{Edge}
use Rattle.port_graph.specs.Slopes.{Slope, ups_at, downs_at, below, down_distance, cost, same_number, next_port}
use Rattle.port_graph.specs.Routes.{IsDownDistance, IsCost, IsPortDown, IsPortUp, IsNextPort}
use Rattle.port_graph.proofs.WalkLemmas.{shortest_is, shortest_step, shortest_zero}
use Rattle.port_graph.proofs.Lists.{found, contains_map}
use Rattle.port_graph.proofs.Costs.{port_at_target, port_where_down, port_where_up, same_at, same_from, at_no_cost}
use Rattle.subnet_view.specs.SwitchEdges.{SwitchEdges}
use Rattle.subnet_view.specs.Graph.{edges_at}
use Rattle.subnet_view.specs.GraphLaws.{IsGraph, IsSwitch}
use Rattle.subnet_view.proofs.Rising.{Rises, rises, rises_filter, find_least}
use Rattle.updown_routes.specs.Ranks.{slopes_of, is_before}
use Rattle.updown_routes.specs.RouteLaws.{NextPortLaw}
use Rattle.updown_routes.proofs.Before.{height, height_falls, height_bounded, ups_filter, downs_filter}
use Rattle.updown_routes.proofs.Ranks.{one_shortest}
use Rattle.updown_routes.proofs.LeastCosts.{up_leads, down_leads, down_distance_is, no_walk_down, at_most_by, best_up, cost_is_least, cost_is, no_port}

-- there is one next port, with no premise on the slopes ---------------------------------

module _ (slopes : List Slope) (s t p q : ℕ) where
  one_port_down : IsPortDown slopes s t p → IsPortDown slopes s t q → p ≡ q
  one_port_down i j =
      let same : i.distance ≡ j.distance = omega (arith, one_shortest (below slopes) s t (suc i.distance) (suc j.distance) i.is_distance j.is_distance) in
      let a = i.least (record { port = q; to = j.to }) j.wire (subst (λ (d : ℕ). IsDownDistance slopes j.to t d) (sym same) j.nearer) in
      let b = j.least (record { port = p; to = i.to }) i.wire (subst (λ (d : ℕ). IsDownDistance slopes i.to t d) same i.nearer) in
      omega arith

  one_port_up : IsPortUp slopes s t p → IsPortUp slopes s t q → p ≡ q
  one_port_up i j =
      let x : Edge = record { port = p; to = i.to } in
      let y : Edge = record { port = q; to = j.to } in
      let le = i.least_cost y j.its_cost j.wire j.is_cost in
      let ge = j.least_cost x i.its_cost i.wire i.is_cost in
      let same : i.its_cost ≡ j.its_cost = omega arith in
      let a = i.least y j.wire (subst (λ (c : ℕ). IsCost slopes j.to t c) (sym same) j.is_cost) in
      let b = j.least x i.wire (subst (λ (c : ℕ). IsCost slopes i.to t c) same i.is_cost) in
      omega arith

  -- there is one next port
  pub one_next_port : IsNextPort slopes s t p → IsNextPort slopes s t q → p ≡ q
  one_next_port (apart, inl i) (_, inl j) = one_port_down i j
  one_next_port (apart, inl i) (_, inr j) = absurd (j.no_walk_down (suc i.distance) i.is_distance.walk)
  one_next_port (apart, inr i) (_, inl j) = absurd (i.no_walk_down (suc j.distance) j.is_distance.walk)
  one_next_port (apart, inr i) (_, inr j) = one_port_up i j

-- what `next_port` gives ------------------------------------------------------------------

module _ (graph : List SwitchEdges) (good : IsGraph graph) where
  abbrev slopes : List Slope
  slopes = slopes_of graph

  edges_rise : (s : ℕ) → Rises (λ e. e.port) (edges_at graph s)
  edges_rise s = rises (λ (e : Edge). e.port) (edges_at graph s) (good.ports_rise s)

  ups_rise : (s : ℕ) → Rises (λ e. e.port) (ups_at slopes s)
  ups_rise s = subst (λ (es : List Edge). Rises (λ e. e.port) es) (sym (ups_filter graph graph s))
      (rises_filter (λ (e : Edge). e.port) (λ e. is_before graph e.to s) (edges_at graph s) (edges_rise s))

  downs_rise : (s : ℕ) → Rises (λ e. e.port) (downs_at slopes s)
  downs_rise s = subst (λ (es : List Edge). Rises (λ e. e.port) es) (sym (downs_filter graph graph s))
      (rises_filter (λ (e : Edge). e.port) (λ e. is_before graph s e.to) (edges_at graph s) (edges_rise s))

  -- the next port where there is a down distance
  pub down_port : (s t d : ℕ) → (s == t) ≡ false → down_distance slopes s t ≡ Some d → (p : ℕ) × (next_port slopes s t ≡ Some p) × IsPortDown slopes s t p
  down_port s t zero apart e = absurd (eqb-false s t apart (shortest_zero (below slopes) (length slopes) s t e))
  down_port s t (suc d) apart e =
      let c = shortest_step (below slopes) (length slopes) s t d e in
      let x = contains_map (λ (y : Edge). y.to) (downs_at slopes s) c.0 c.1 in
      let test : Edge → Bool = λ y. same_number (option_map suc (down_distance slopes y.to t)) (down_distance slopes s t) in
      let passes = same_at (down_distance slopes x.0.to t) (down_distance slopes s t) d (ap (λ y. down_distance slopes y t) x.2 ∙ c.2) e in
      let f = found test (downs_at slopes s) x.0 x.1 passes in
      let l = find_least (λ (y : Edge). y.port) test (downs_at slopes s) f.0 (downs_rise s) f.1 in (
        f.0.port,
        port_where_down slopes s t (suc d) apart e ∙ ap (option_map (λ (y : Edge). y.port)) f.1,
        record {
          distance = d;
          is_distance = shortest_is (below slopes) (length slopes) s t (suc d) e;
          to = f.0.to;
          wire = l.there;
          nearer = shortest_is (below slopes) (length slopes) f.0.to t d (same_from (down_distance slopes f.0.to t) (down_distance slopes s t) d l.passes e);
          least = λ y h i. l.least y h (same_at (down_distance slopes y.to t) (down_distance slopes s t) d
              (down_distance_is graph good y.to t d (good.leads_to_switch s y.to (down_leads graph good s y h)) i) e);
        },
      )

  -- the next port where there is none
  pub up_port : (s t n : ℕ) → IsSwitch graph s → (s == t) ≡ false → down_distance slopes s t ≡ None → cost slopes s t ≡ Some n
      → (p : ℕ) × (next_port slopes s t ≡ Some p) × IsPortUp slopes s t p
  up_port s t zero hs apart e k = absurd (eqb-false s t apart (at_no_cost slopes (height graph) (height_falls graph good) (height_bounded graph) s t k))
  up_port s t (suc n) hs apart e k =
      let x = best_up graph good s t n e k in
      let test : Edge → Bool = λ y. same_number (option_map suc (cost slopes y.to t)) (cost slopes s t) in
      let f = found test (ups_at slopes s) x.0 x.1 (same_at (cost slopes x.0.to t) (cost slopes s t) n x.2 k) in
      let l = find_least (λ (y : Edge). y.port) test (ups_at slopes s) f.0 (ups_rise s) f.1 in
      let leads : (y : Edge) → Contains (ups_at slopes s) y → IsSwitch graph y.to = λ y h. good.leads_to_switch s y.to (up_leads graph good s y h) in (
        f.0.port,
        port_where_up slopes s t apart e ∙ ap (option_map (λ (y : Edge). y.port)) f.1,
        record {
          no_walk_down = no_walk_down graph good s t hs e;
          to = f.0.to;
          wire = l.there;
          its_cost = n;
          is_cost = cost_is_least graph good f.0.to t n (leads f.0 l.there) (same_from (cost slopes f.0.to t) (cost slopes s t) n l.passes k);
          least_cost = λ y m h i.
              let q = at_most_by graph good s t m y e h (cost_is graph good y.to t m (leads y h) i) in
              omega (arith, q.2, same_Some q.0 (suc n) (sym q.1 ∙ k));
          least = λ y h i. l.least y h (same_at (cost slopes y.to t) (cost slopes s t) n (cost_is graph good y.to t n (leads y h) i) k);
        },
      )

  none_without_cost : (s t p : ℕ) → IsSwitch graph s → down_distance slopes s t ≡ None → cost slopes s t ≡ None → IsNextPort slopes s t p → ⊥
  none_without_cost s t p hs e k (apart, inl i) = no_walk_down graph good s t hs e (suc i.distance) i.is_distance.walk
  none_without_cost s t p hs e k (apart, inr i) =
      let x : Edge = record { port = p; to = i.to } in
      let to_switch = good.leads_to_switch s i.to (up_leads graph good s x i.wire) in
      let q = at_most_by graph good s t i.its_cost x e i.wire (cost_is graph good i.to t i.its_cost to_switch i.is_cost) in
      none-some q.0 (sym k ∙ q.1)

-- the next port is the one in words
pub next_port_law : NextPortLaw
next_port_law graph good s t hs =
    let slopes : List Slope = slopes_of graph in
    let Law : Option ℕ → Type 0 = λ o. MatchOption o ((p : ℕ) → IsNextPort slopes s t p → ⊥) (IsNextPort slopes s t) in
    elim (s == t) as (λ b. (s == t) ≡ b → Law (next_port slopes s t)) [
      | true ↦ λ same. subst Law (sym (port_at_target slopes s t same)) (λ p i. i.0 (eqb-true s t same))
      | false ↦ λ apart. (elim (down_distance slopes s t) as (λ o. down_distance slopes s t ≡ o → Law (next_port slopes s t)) [
        | Some d ↦ λ e. let r = down_port graph good s t d apart e in subst Law (sym r.1) (eqb-false s t apart, inl r.2)
        | None ↦ λ e. (elim (cost slopes s t) as (λ o. cost slopes s t ≡ o → Law (next_port slopes s t)) [
          | Some n ↦ λ k. let r = up_port graph good s t n hs apart e k in subst Law (sym r.1) (eqb-false s t apart, inr r.2)
          | None ↦ λ k. subst Law (sym (no_port graph good s t k)) (λ p i. none_without_cost graph good s t p hs e k i)
        ] refl)
      ] refl)
    ] refl
