-- The cost is the least over all climb-first routes, and between components there is none.
use Rattle.std.proofs.Common.{◌≡◌, ◌≤◌, ◌+◌, ℕ, zero, suc, List, refl, sym, ap, ◌∙◌, subst, arith, Bool, true, false, cond, ◌==◌, length}
use Rattle.std.proofs.lemmas.Option.{MatchOption-at_none, none-some, same_Some}
use Rattle.std.proofs.lemmas.Bool.{true≢false}
use Rattle.std.specs.Prelude.{Option, None, Some, MatchOption, Contains, is_some, option_map}
use Rattle.std.specs.List.{filter_map}
use Rattle.port_graph.specs.declared.edge.Edge.{Edge}
use Rattle.port_graph.specs.Walks.{Walk, HasNoWalk}
use Rattle.port_graph.specs.Slopes.{Slope, ups_at, downs_at, below, down_distance, least_of, cost, same_number, port_down, port_up, next_port}
use Rattle.port_graph.specs.Routes.{IsDownDistance, Climb, IsRoute, IsCost}
use Rattle.port_graph.proofs.WalkLemmas.{shortest_is}
use Rattle.port_graph.proofs.Lists.{contains_map, contains_filter_map, contains-from_filter_map, has_least, least_is_one, find_none}
use Rattle.port_graph.proofs.Paths.{walk_append}
use Rattle.port_graph.proofs.Costs.{none_less, not_zero}
use Rattle.subnet_view.specs.SwitchEdges.{SwitchEdges}
use Rattle.subnet_view.specs.Graph.{edges_at, neighbors}
use Rattle.subnet_view.specs.Components.{in_one_component}
use Rattle.subnet_view.specs.GraphLaws.{IsGraph, IsSwitch}
use Rattle.subnet_view.proofs.EdgeLists.{has_end}
use Rattle.subnet_view.proofs.Components.{walk_joins, joined}
use Rattle.port_graph.proofs.Costs as costs
use Rattle.updown_routes.specs.Ranks.{slopes_of}
use Rattle.updown_routes.specs.RouteLaws.{CostLaw, NoCostBetween}
use Rattle.updown_routes.proofs.Before.{height, height_falls, height_bounded, ups_are, downs_are}
use Rattle.updown_routes.proofs.ComponentCosts.{down_distance_law}
use Rattle.updown_routes.proofs.Ranks.{one_shortest}

-- there is one cost
pub one_cost : (slopes : List Slope) (s t m n : ℕ) → IsCost slopes s t m → IsCost slopes s t n → m ≡ n
one_cost slopes s t m n i j = omega (arith, i.least n j.route, j.least m i.route)

same_none : (o : Option ℕ) → same_number o None ≡ false
same_none None = refl
same_none (Some n) = refl

module _ (graph : List SwitchEdges) (good : IsGraph graph) where
  abbrev slopes : List Slope
  slopes = slopes_of graph

  -- a wire up leads to a neighbor
  pub up_leads : (s : ℕ) (e : Edge) → Contains (ups_at slopes s) e → Contains (neighbors graph s) e.to
  up_leads s e h = has_end (edges_at graph s) e (ups_are graph graph s e h).0

  -- a wire down leads to a neighbor
  pub down_leads : (s : ℕ) (e : Edge) → Contains (downs_at slopes s) e → Contains (neighbors graph s) e.to
  down_leads s e h = has_end (edges_at graph s) e (downs_are graph graph s e h).0

  -- the down distance is what the words say -----------------------------------------

  -- the down distance in words is the one that is computed
  pub down_distance_is : (s t n : ℕ) → IsSwitch graph s → IsDownDistance slopes s t n → down_distance slopes s t ≡ Some n
  down_distance_is s t n hs i =
      elim (down_distance slopes s t) as (λ o. MatchOption o (HasNoWalk (below slopes) s t) (IsDownDistance slopes s t) → o ≡ Some n) [
        | None ↦ λ m. absurd (m n i.walk)
        | Some k ↦ λ m. ap (λ (x : ℕ). Some x) (one_shortest (below slopes) s t k n m i)
      ] (down_distance_law graph good s t hs)

  -- where no walk leads down none is computed
  pub no_down_distance : (s t : ℕ) → HasNoWalk (below slopes) s t → down_distance slopes s t ≡ None
  no_down_distance s t none =
      elim (down_distance slopes s t) as (λ o. down_distance slopes s t ≡ o → o ≡ None) [
        | None ↦ λ e. refl
        | Some n ↦ λ e. absurd (none n (shortest_is (below slopes) (length slopes) s t n e).walk)
      ] refl

  -- where none is computed no walk leads down
  pub no_walk_down : (s t : ℕ) → IsSwitch graph s → down_distance slopes s t ≡ None → HasNoWalk (below slopes) s t
  no_walk_down s t hs e = MatchOption-at_none (HasNoWalk (below slopes) s t) (IsDownDistance slopes s t) e (down_distance_law graph good s t hs)

  -- costs -----------------------------------------------------------------------------

  -- where there is a down distance it is the cost
  pub cost_down : (s t d : ℕ) → down_distance slopes s t ≡ Some d → cost slopes s t ≡ Some d
  cost_down = costs.cost_down slopes (height graph) (height_falls graph good) (height_bounded graph)

  cost_up : (s t : ℕ) → down_distance slopes s t ≡ None → cost slopes s t ≡ option_map suc (least_of (filter_map (λ x. cost slopes x.to t) (ups_at slopes s)))
  cost_up = costs.cost_up slopes (height graph) (height_falls graph good) (height_bounded graph)

  -- a wire up to a switch of cost m: the cost is at most one more
  pub at_most_by : (s t m : ℕ) (e : Edge) → down_distance slopes s t ≡ None → Contains (ups_at slopes s) e → cost slopes e.to t ≡ Some m
      → (n : ℕ) × (cost slopes s t ≡ Some n) × (n ≤ suc m)
  at_most_by s t m e none h k =
      let its : List ℕ = filter_map (λ x. cost slopes x.to t) (ups_at slopes s) in
      let c = contains_filter_map (λ (x : Edge). cost slopes x.to t) (ups_at slopes s) e m h k in
      let l = has_least its m c in
      (suc l.0, cost_up s t none ∙ ap (option_map suc) l.1, omega (arith, (least_is_one its l.0 l.1).1 m c))

  -- and some wire up leads to a switch whose cost is one less
  pub best_up : (s t n : ℕ) → down_distance slopes s t ≡ None → cost slopes s t ≡ Some (suc n)
      → (e : Edge) × Contains (ups_at slopes s) e × (cost slopes e.to t ≡ Some n)
  best_up s t n none k =
      let its : List ℕ = filter_map (λ x. cost slopes x.to t) (ups_at slopes s) in
      let i = least_is_one its n (none_less (least_of its) n (sym (cost_up s t none) ∙ k)) in
      contains-from_filter_map (λ (x : Edge). cost slopes x.to t) (ups_at slopes s) n i.0

  cost_of_route : (k d s t u : ℕ) → IsSwitch graph s → Climb slopes t s u k → IsDownDistance slopes u t d → (n : ℕ) × (cost slopes s t ≡ Some n) × (n ≤ k + d)
  cost_of_route zero d s t u hs c i =
      (d, cost_down s t d (down_distance_is s t d hs (subst (λ (x : ℕ). IsDownDistance slopes x t d) (sym c) i)), omega arith)
  cost_of_route (suc k) d s t u hs (none, (e, h, c)) i =
      let r = cost_of_route k d e.to t u (good.leads_to_switch s e.to (up_leads s e h)) c i in
      let q = at_most_by s t r.0 e (no_down_distance s t none) h r.1 in
      (q.0, q.1, omega (arith, q.2, r.2))

  down_route : (s t n : ℕ) → down_distance slopes s t ≡ Some n → IsRoute slopes s t n
  down_route s t n e = (s, 0, n, refl, shortest_is (below slopes) (length slopes) s t n e, omega arith)

  route_of_cost : (n s t : ℕ) → IsSwitch graph s → cost slopes s t ≡ Some n → IsRoute slopes s t n
  route_of_cost zero s t hs k =
      elim (down_distance slopes s t) as (λ o. down_distance slopes s t ≡ o → IsRoute slopes s t 0) [
        | None ↦ λ e. absurd (not_zero (least_of (filter_map (λ x. cost slopes x.to t) (ups_at slopes s))) (sym (cost_up s t e) ∙ k))
        | Some d ↦ λ e. down_route s t 0 (e ∙ sym (cost_down s t d e) ∙ k)
      ] refl
  route_of_cost (suc n) s t hs k =
      elim (down_distance slopes s t) as (λ o. down_distance slopes s t ≡ o → IsRoute slopes s t (suc n)) [
        | None ↦ λ e.
            let x = best_up s t n e k in
            let r = route_of_cost n x.0.to t (good.leads_to_switch s x.0.to (up_leads s x.0 x.1)) x.2 in
            (r.0, suc r.1, r.2, (no_walk_down s t hs e, (x.0, x.1, r.3)), r.4, omega (arith, r.5))
        | Some d ↦ λ e. down_route s t (suc n) (e ∙ sym (cost_down s t d e) ∙ k)
      ] refl

  -- the cost that is computed is the one in words
  pub cost_is_least : (s t n : ℕ) → IsSwitch graph s → cost slopes s t ≡ Some n → IsCost slopes s t n
  cost_is_least s t n hs k =
      record {
        route = route_of_cost n s t hs k;
        least = λ m r. let c = cost_of_route r.1 r.2 s t r.0 hs r.3 r.4 in omega (arith, c.2, same_Some c.0 n (sym c.1 ∙ k), r.5);
      }

  -- the cost in words is the one that is computed
  pub cost_is : (s t n : ℕ) → IsSwitch graph s → IsCost slopes s t n → cost slopes s t ≡ Some n
  cost_is s t n hs i =
      let r = i.route in
      let c = cost_of_route r.1 r.2 s t r.0 hs r.3 r.4 in
      c.1 ∙ ap (λ (x : ℕ). Some x) (one_cost slopes s t c.0 n (cost_is_least s t c.0 hs c.1) i)

  -- a route is a walk -------------------------------------------------------------------

  climb_is_walk : (k s t u : ℕ) → Climb slopes t s u k → Walk (neighbors graph) s u k
  climb_is_walk zero s t u c = c
  climb_is_walk (suc k) s t u (none, (e, h, c)) = (e.to, up_leads s e h, climb_is_walk k e.to t u c)

  descent_is_walk : (n s t : ℕ) → Walk (below slopes) s t n → Walk (neighbors graph) s t n
  descent_is_walk zero s t e = e
  descent_is_walk (suc n) s t (c, h, w) =
      let x = contains_map (λ (e : Edge). e.to) (downs_at slopes s) c h in
      (c, subst (λ (y : ℕ). Contains (neighbors graph s) y) x.2 (down_leads s x.0 x.1), descent_is_walk n c t w)

  route_is_walk : (s t n : ℕ) → IsRoute slopes s t n → (m : ℕ) × Walk (neighbors graph) s t m
  route_is_walk s t n r = (r.1 + r.2, walk_append (neighbors graph) r.1 r.2 s r.0 t (climb_is_walk r.1 s t r.0 r.3) (descent_is_walk r.2 r.0 t r.4.walk))

  -- without a cost there is no next port
  pub no_port : (s t : ℕ) → cost slopes s t ≡ None → next_port slopes s t ≡ None
  no_port s t k =
      elim (s == t) as (λ b. cond b None (cond (is_some (down_distance slopes s t)) (port_down slopes s t) (port_up slopes s t)) ≡ None) [
        | true ↦ refl
        | false ↦ (elim (down_distance slopes s t) as
            (λ o. down_distance slopes s t ≡ o → cond (is_some o) (port_down slopes s t) (port_up slopes s t) ≡ None) [
              | None ↦ λ e.
                  let test : Edge → Bool = λ x. same_number (option_map suc (cost slopes x.to t)) (cost slopes s t) in
                  let fails : (x : Edge) → test x ≡ false = λ x. let o = option_map suc (cost slopes x.to t) in ap (same_number o) k ∙ same_none o in
                  ap (option_map (λ (x : Edge). x.port)) (find_none test (ups_at slopes s) fails)
              | Some d ↦ λ e. absurd (none-some d (sym k ∙ cost_down s t d e))
            ] refl)
      ]

  no_cost : (s t : ℕ) → IsSwitch graph s → in_one_component graph s t ≡ false → cost slopes s t ≡ None
  no_cost s t hs apart =
      elim (cost slopes s t) as (λ o. cost slopes s t ≡ o → o ≡ None) [
        | None ↦ λ e. refl
        | Some n ↦ λ e.
            let w = route_is_walk s t n (route_of_cost n s t hs e) in
            let j = walk_joins graph good w.0 s t hs w.1 in
            absurd (true≢false (sym (joined graph good s t j.0 j.1) ∙ apart))
      ] refl

-- the cost is the length of a shortest route
pub cost_law : CostLaw
cost_law graph good s t hs =
    elim (cost (slopes_of graph) s t) as
    (λ o. cost (slopes_of graph) s t ≡ o → MatchOption o ((n : ℕ) → IsRoute (slopes_of graph) s t n → ⊥) (IsCost (slopes_of graph) s t)) [
      | None ↦ λ e n r. let c = cost_of_route graph good r.1 r.2 s t r.0 hs r.3 r.4 in none-some c.0 (sym e ∙ c.1)
      | Some n ↦ λ e. cost_is_least graph good s t n hs e
    ] refl

-- between components there is none
pub no_cost_between : NoCostBetween
no_cost_between graph good s t hs apart = let none = no_cost graph good s t hs apart in (none, no_port graph good s t none)
