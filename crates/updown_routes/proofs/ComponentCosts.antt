-- In one component every switch has a cost to every other: up to the root at worst, and down from there.
use Rattle.std.proofs.Common.{◌≡◌, ◌+◌, ◌-◌, ℕ, zero, suc, List, refl, sym, ap, ◌∙◌, subst, arith, true, cond, map, length}
use Rattle.std.proofs.lemmas.Option.{none-some, same_Some}
use Rattle.std.specs.Prelude.{Option, None, Some, MatchOption, is_some, option_map, option_and_then, unwrap_or, Contains}
use Rattle.std.specs.List.{filter_map}
use Rattle.port_graph.specs.declared.edge.Edge.{Edge}
use Rattle.port_graph.specs.Walks.{has_walk, Walk, HasNoWalk}
use Rattle.port_graph.specs.Slopes.{Slope, ups_at, downs_at, below, down_distance, least_of, cost_within}
use Rattle.port_graph.specs.Routes.{IsDownDistance}
use Rattle.port_graph.proofs.Counts.{length_map}
use Rattle.port_graph.proofs.WalkLemmas.{least_found, test_from_walk, shortest_is}
use Rattle.port_graph.proofs.Lists.{contains_map, contains_filter_map, contains-from_filter_map, least_is_one, has_least}
use Rattle.port_graph.proofs.Paths.{bounded_walk, keeps_to, walk_push, has_least_from}
use Rattle.subnet_view.specs.SwitchEdges.{SwitchEdges}
use Rattle.subnet_view.specs.Graph.{edges_at, neighbors}
use Rattle.subnet_view.specs.Components.{distance, root_of}
use Rattle.subnet_view.specs.GraphLaws.{IsGraph, IsSwitch}
use Rattle.subnet_view.proofs.Components.{walk_of, same_root, rooted, prior, is_switch_before, root_before}
use Rattle.subnet_view.proofs.EdgeLists.{has_end}
use Rattle.updown_routes.specs.Ranks.{rank_of, is_before, slope_of, slopes_of}
use Rattle.updown_routes.specs.RouteLaws.{CostInComponent, DownDistanceLaw}
use Rattle.updown_routes.proofs.Before.{lesser, below_lex, downs_are, ups_have, downs_have}

module _ (graph : List SwitchEdges) (good : IsGraph graph) where
  -- the rank is the distance from the root
  pub rank_is : (s : ℕ) (r : ℕ) (n : ℕ) → root_of graph s ≡ Some r → distance graph r s ≡ Some n → rank_of graph s ≡ Some n
  rank_is s r n e k = ap (option_and_then (λ root. distance graph root s)) e ∙ k

  before_along : (u t r n : ℕ) → root_of graph u ≡ Some r → root_of graph t ≡ Some r → distance graph r u ≡ Some n → distance graph r t ≡ Some (suc n)
      → is_before graph u t ≡ true
  before_along u t r n eu et du dt =
      let ru : unwrap_or (rank_of graph u) 0 ≡ n = ap (λ o. unwrap_or o 0) (rank_is u r n eu du) in
      let rt : unwrap_or (rank_of graph t) 0 ≡ suc n = ap (λ o. unwrap_or o 0) (rank_is t r (suc n) et dt) in
      below_lex (unwrap_or (rank_of graph u) 0) u (unwrap_or (rank_of graph t) 0) t (lesser (omega arith))

  abbrev slopes : List Slope
  slopes = slopes_of graph

  -- shortest walks from the root lead down all the way
  root_goes_down : (n r t : ℕ) → IsSwitch graph t → root_of graph t ≡ Some r → distance graph r t ≡ Some n → Walk (below slopes) r t n
  root_goes_down zero r t h e d = walk_of graph good r t 0 d
  root_goes_down (suc n) r t h e d =
      let u = prior graph good r t n d in
      let eu = root_before graph good u.0 t r h u.2 e in
      let x = contains_map (λ (y : Edge). y.to) (edges_at graph u.0) t u.2 in
      let b : is_before graph u.0 x.0.to ≡ true = ap (is_before graph u.0) x.2 ∙ before_along u.0 t r n eu e u.1 d in
      let there = has_end (downs_at slopes u.0) x.0 (downs_have graph graph u.0 x.0 x.1 b) in
      walk_push (below slopes) n r u.0 t (root_goes_down n r u.0 (is_switch_before graph good u.0 t u.2) eu u.1)
      (subst (λ (y : ℕ). Contains (below slopes u.0) y) x.2 there)

  -- the root has a down distance to each of its component
  pub root_down : (n r t : ℕ) → IsSwitch graph t → root_of graph t ≡ Some r → distance graph r t ≡ Some n → (m : ℕ) × (down_distance slopes r t ≡ Some m)
  root_down n r t h e d =
      let i = least_found 0 (length graph) (has_walk (neighbors graph) r t) n d in
      has_least_from 0 (length slopes) (has_walk (below slopes) r t) n (omega arith) (omega (arith, i.bounded, length_map (slope_of graph) graph))
      (test_from_walk (below slopes) r t n (root_goes_down n r t h e d))

  -- so with as many climbs as its rank every switch has a cost
  has_cost : (k s r t d : ℕ) → down_distance slopes r t ≡ Some d → IsSwitch graph s → root_of graph s ≡ Some r → distance graph r s ≡ Some k
      → (m : ℕ) × (cost_within slopes k s t ≡ Some m)
  has_cost zero s r t d down h e k = (d, ap (λ x. down_distance slopes x t) (sym (walk_of graph good r s 0 k)) ∙ down)
  has_cost (suc n) s r t d down h e k =
      elim (down_distance slopes s t) as
      (λ o. down_distance slopes s t ≡ o
      → (m : ℕ) × (cond (is_some o) o (option_map suc (least_of (filter_map (λ x. cost_within slopes n x.to t) (ups_at slopes s)))) ≡ Some m)) [
        | Some a ↦ λ p. (a, refl)
        | None ↦ λ p.
            let u = prior graph good r s n k in
            let eu = root_before graph good u.0 s r h u.2 e in
            let x = contains_map (λ (y : Edge). y.to) (edges_at graph s) u.0 (good.both_ways u.0 s u.2) in
            let b : is_before graph x.0.to s ≡ true = ap (λ y. is_before graph y s) x.2 ∙ before_along u.0 s r n eu e u.1 k in
            let i = has_cost n u.0 r t d down (is_switch_before graph good u.0 s u.2) eu u.1 in
            let c : cost_within slopes n x.0.to t ≡ Some i.0 = ap (λ y. cost_within slopes n y t) x.2 ∙ i.1 in
            let l = has_least (filter_map (λ y. cost_within slopes n y.to t) (ups_at slopes s)) i.0
            (contains_filter_map (λ (y : Edge). cost_within slopes n y.to t) (ups_at slopes s) x.0 i.0 (ups_have graph graph s x.0 x.1 b) c) in
            (suc l.0, ap (option_map suc) l.1)
      ] refl

  -- more climbs keep a cost
  more_climbs : (k s t m : ℕ) → cost_within slopes k s t ≡ Some m → (l : ℕ) × (cost_within slopes (suc k) s t ≡ Some l)
  more_climbs zero s t m e =
      (m, ap (λ o. cond (is_some o) o (option_map suc (least_of (filter_map (λ x. cost_within slopes zero x.to t) (ups_at slopes s))))) e)
  more_climbs (suc k) s t m e =
      elim (down_distance slopes s t) as
      (λ o. cond (is_some o) o (option_map suc (least_of (filter_map (λ x. cost_within slopes k x.to t) (ups_at slopes s)))) ≡ Some m
      → (l : ℕ) × (cond (is_some o) o (option_map suc (least_of (filter_map (λ x. cost_within slopes (suc k) x.to t) (ups_at slopes s)))) ≡ Some l)) [
        | Some a ↦ λ p. (a, refl)
        | None ↦ λ p.
            let n = some_least (least_of (filter_map (λ x. cost_within slopes k x.to t) (ups_at slopes s))) m p in
            let i = least_is_one (filter_map (λ x. cost_within slopes k x.to t) (ups_at slopes s)) n.0 n.1 in
            let x = contains-from_filter_map (λ (y : Edge). cost_within slopes k y.to t) (ups_at slopes s) n.0 i.0 in
            let j = more_climbs k x.0.to t n.0 x.2 in
            let l = has_least (filter_map (λ y. cost_within slopes (suc k) y.to t) (ups_at slopes s)) j.0
            (contains_filter_map (λ (y : Edge). cost_within slopes (suc k) y.to t) (ups_at slopes s) x.0 j.0 x.1 j.1) in
            (suc l.0, ap (option_map suc) l.1)
      ] e
    where
      some_least : (o : Option ℕ) (m : ℕ) → option_map suc o ≡ Some m → (n : ℕ) × (o ≡ Some n)
      some_least None m e = absurd (cc)
      some_least (Some n) m e = (n, refl)

  climbs_more : (j k s t m : ℕ) → cost_within slopes k s t ≡ Some m → (l : ℕ) × (cost_within slopes (j + k) s t ≡ Some l)
  climbs_more zero k s t m e = (m, ap (λ n. cost_within slopes n s t) (zero_plus k) ∙ e)
    where
      zero_plus : (k : ℕ) → zero + k ≡ k
      zero_plus k = omega arith
  climbs_more (suc j) k s t m e =
      let i = climbs_more j k s t m e in
      let l = more_climbs (j + k) s t i.0 i.1 in
      (l.0, ap (λ n. cost_within slopes n s t) (suc_plus j k) ∙ l.1)
    where
      suc_plus : (j k : ℕ) → suc j + k ≡ suc (j + k)
      suc_plus j k = omega arith

-- all of a component have a cost to each other
pub cost_in_component : CostInComponent
cost_in_component graph good s t hs ht e =
    let a = rooted graph good s hs in
    let same : root_of graph t ≡ Some a.root = sym (same_root graph good s t hs ht e) ∙ a.is_root in
    let b = rooted graph good t ht in
    let to_t : distance graph a.root t ≡ Some b.rank = ap (λ r. distance graph r t) (same_Some a.root b.root (sym same ∙ b.is_root)) ∙ b.is_rank in
    let d = root_down graph good b.rank a.root t ht same to_t in
    let c = has_cost graph good a.rank s a.root t d.0 d.1 hs a.is_root a.is_rank in
    let i = least_found 0 (length graph) (has_walk (neighbors graph) a.root s) a.rank a.is_rank in
    let m = climbs_more graph good (length (slopes_of graph) - a.rank) a.rank s t c.0 c.1 in
    let sum : (length (slopes_of graph) - a.rank) + a.rank ≡ length (slopes_of graph) = omega (arith, i.bounded, length_map (slope_of graph) graph) in
    (m.0, ap (λ n. cost_within (slopes_of graph) n s t) (sym sum) ∙ m.1)

-- the down distance is the length of a shortest walk down, and none where no walk leads down there
pub down_distance_law : DownDistanceLaw
down_distance_law graph good s t hs =
    elim (down_distance (slopes_of graph) s t) as
    (λ o. down_distance (slopes_of graph) s t ≡ o → MatchOption o (HasNoWalk (below (slopes_of graph)) s t) (IsDownDistance (slopes_of graph) s t)) [
      | None ↦ λ e m w.
          let i = bounded_walk (below (slopes_of graph)) (length (map (λ (c : SwitchEdges). c.guid) graph)) (map (λ (c : SwitchEdges). c.guid) graph) m s t
          (omega arith) (keeps_to (below (slopes_of graph)) (map (λ (c : SwitchEdges). c.guid) graph) (leads_down graph good) m s t hs w) in
          let l = has_least_from 0 (length (slopes_of graph)) (has_walk (below (slopes_of graph)) s t) i.0 (omega arith)
          (omega (arith, i.1, length_map (λ (c : SwitchEdges). c.guid) graph, length_map (slope_of graph) graph))
          (test_from_walk (below (slopes_of graph)) s t i.0 i.2) in
          none-some l.0 (sym e ∙ l.1)
      | Some n ↦ λ e. shortest_is (below (slopes_of graph)) (length (slopes_of graph)) s t n e
    ] refl
  where
    leads_down : (graph : List SwitchEdges) → IsGraph graph → (x y : ℕ) → Contains (below (slopes_of graph) x) y → IsSwitch graph y
    leads_down graph good x y h =
        let e = contains_map (λ (z : Edge). z.to) (downs_at (slopes_of graph) x) y h in
        subst (λ (z : ℕ). IsSwitch graph z) e.2 (good.leads_to_switch x e.0.to (has_end (edges_at graph x) e.0 (downs_are graph graph x e.0 e.1).0))
