-- The rule is one of routing.
use Rattle.std.proofs.Common.{◌≡◌, ◌≢◌, ◌<◌, ◌≤◌, ◌%◌, ℕ, zero, suc, List, [], ◌∷◌, ◌++◌, refl, sym, ap, ◌∙◌, subst, arith, true, false, ◌==◌, map, length, get_or}
use Rattle.std.proofs.lemmas.Bool.{eqb-true}
use Rattle.std.proofs.lemmas.List.Elements.{All-from_recursion, Contains-get_or}
use Rattle.std.proofs.lemmas.List.Kept.{AllPairs-cons}
use Rattle.std.proofs.lemmas.Nat.{mod_below}
use Rattle.std.proofs.lemmas.Option.{same_Some, none-some, slice_get-get_or}
use Rattle.std.specs.Prelude.{Option, None, Some, Contains, AllPairs, option_map, unwrap_or}
use Rattle.std.specs.List.{AllByRecursion}
use Rattle.std.specs.List.Sorted.{IsStrictlyIncreasing}
use Rattle.smp_bytes.proofs.Members.{contains_none}
use Rattle.port_graph.specs.declared.edge.Edge.{Edge}
use Rattle.port_graph.proofs.Counts.{length_map}
use Rattle.spread_labels.specs.declared.label.Mark.{Mark}
use Rattle.spread_labels.specs.Labels.{marks, candidates}
use Rattle.spread_labels.specs.CandidatesByMarks.{chosen}
use Rattle.spread_labels.specs.Ways.{Climbs, Descends, Follows, CostsFall, Way, PicksCandidates, cost, channels_along}
use Rattle.spread_labels.specs.Orders.{position_of}
use Rattle.spread_labels.proofs.Steps.{candidates_in_words}
use Rattle.spread_labels.proofs.Following.{ways_in_words}
use Rattle.spread_labels.proofs.Rising.{channels_in_words}
use Rattle.spread_labels.proofs.Reach.{reached_in_words}
use Rattle.spread_labels.proofs.ByPositions.{walk_by_positions}
use Rattle.subnet_view.specs.SwitchEdges.{SwitchEdges}
use Rattle.subnet_view.specs.Graph.{guids_of}
use Rattle.subnet_view.specs.GraphLaws.{IsGraph, IsSwitch}
use Rattle.subnet_view.specs.Components.{in_one_component}
use Rattle.subnet_view.specs.Routing.{Passes, FollowsRule, Leads, stops, numbers_along}
use Rattle.spread_routes.specs.Rule.{Spreading, by_index, by_positions, order_by_keys, position, switch_there, edge_to, spread, SpreadIsRouting}
use Rattle.spread_routes.proofs.Indices.{leads_below, there_and_back, index_within, walk_between}
use Rattle.spread_routes.proofs.Names.{grows, is_grown_graph, position_within, switch_at_position, position_of_switch, switch_inside, named, is_named}

-- of some edges one has the number
chosen_there : (es : List Edge) (k : ℕ) (x : Edge) → Contains es x → (e : Edge) × (chosen es k ≡ Some e) × Contains es e
chosen_there [] k x h = absurd (contains_none x h)
chosen_there (y ∷ ys) k x h =
    let below = mod_below k (length (y ∷ ys)) (omega arith) in (
      get_or (y ∷ ys) (k % length (y ∷ ys)) y,
      slice_get-get_or (y ∷ ys) (k % length (y ∷ ys)) y below,
      Contains-get_or (y ∷ ys) (k % length (y ∷ ys)) y below,
    )

-- with costs that fall by one no switch comes twice
module _ (cost : ℕ → Option ℕ) where
  abbrev Fall : ℕ → List Edge → Type 0
  Fall n [] = Unit {0}
  Fall zero (e ∷ es) = ⊥
  Fall (suc n) (e ∷ es) = (cost e.to ≡ Some n) × Fall n es

  later_differ : (es : List Edge) (s n m : ℕ) → cost s ≡ Some n → m ≤ n → Fall m es → AllByRecursion (λ x. s ≢ x) (map (λ e. e.to) es)
  later_differ [] s n m c l w = tt
  later_differ (e ∷ es) s n zero c l w = absurd w
  later_differ (e ∷ es) s n (suc m) c l (its_cost, w) =
      ((λ k. let same : n ≡ m = same_Some n m (sym c ∙ ap cost k ∙ its_cost) in omega arith), later_differ es s n m c (omega arith) w)

  no_stop_twice : (es : List Edge) (s n : ℕ) → cost s ≡ Some n → Fall n es → AllPairs (λ a b. a ≢ b) (stops s es)
  no_stop_twice [] s n c w = λ i j d h k. absurd (omega arith)
  no_stop_twice (e ∷ es) s zero c w = absurd w
  no_stop_twice (e ∷ es) s (suc n) c (its_cost, w) =
      AllPairs-cons (λ a b. a ≢ b) s (stops e.to es)
      (All-from_recursion (λ x. s ≢ x) (stops e.to es) (later_differ (e ∷ es) s (suc n) (suc n) c (omega arith) (its_cost, w)))
      (no_stop_twice es e.to n its_cost w)

cost_of : (m : Option Mark) (n : ℕ) → option_map (λ x. x.cost) m ≡ Some n → (mark : Mark) × (m ≡ Some mark) × (mark.cost ≡ n)
cost_of None n e = absurd (none-some n e)
cost_of (Some mark) n e = (mark, refl, same_Some mark.cost n e)

module _ (graph : List SwitchEdges) (by : Spreading) (good : IsGraph graph) where
  abbrev edges : List (List Edge)
  edges = by_positions graph by.keys

  abbrev there : ℕ → ℕ
  there p = switch_there graph by.keys p

  abbrev position_at : ℕ → ℕ
  position_at g = position graph by.keys g

  abbrev called : Edge → Edge
  called e = named graph by.keys good e

  passes_down : (es : List Edge) (p q : ℕ) → Descends edges p es q → Passes graph (there p) (map called es)
  passes_down [] p q d = tt
  passes_down (e ∷ es) p q (h, l, d) = ((is_named graph by.keys good p e h).wire, passes_down es e.to q d)

  passes : (ups downs : List Edge) (p u q : ℕ) → Climbs edges p ups u → Descends edges u downs q → Passes graph (there p) (map called (ups ++ downs))
  passes [] downs p u q c d = passes_down downs p q (subst (λ (x : ℕ). Descends edges x downs q) (sym c) d)
  passes (e ∷ es) downs p u q (h, l, c) d = ((is_named graph by.keys good p e h).wire, passes es downs e.to u q c d)

  -- the positions that a way comes to are positions
  abbrev Within : List Edge → Type 0
  Within [] = Unit {0}
  Within (e ∷ es) = (e.to < length edges) × Within es

  within_down : (es : List Edge) (p q : ℕ) → Descends edges p es q → Within es
  within_down [] p q d = tt
  within_down (e ∷ es) p q (h, l, d) = ((is_named graph by.keys good p e h).to_within, within_down es e.to q d)

  within : (ups downs : List Edge) (p u q : ℕ) → Climbs edges p ups u → Descends edges u downs q → Within (ups ++ downs)
  within [] downs p u q c d = within_down downs u q d
  within (e ∷ es) downs p u q (h, l, c) d = ((is_named graph by.keys good p e h).to_within, within es downs e.to u q c d)

  numbers : (es : List Edge) (p : ℕ) → p < length edges → Within es
      → numbers_along (spread graph by).channel (there p) (map called es) ≡ channels_along (length edges) p es
  numbers [] p h w = refl
  numbers (e ∷ es) p h (l, w) =
      let here = position_of_switch graph by.keys good p h in
      let next = position_of_switch graph by.keys good e.to l in
      cc (here, next, numbers es e.to l w)

  module _ (lid t : ℕ) where
    abbrev q : ℕ
    q = position_at t

    -- the edge that is taken, and where there is none any
    abbrev pick : ℕ → ℕ → Edge
    pick l p = unwrap_or (edge_to graph by lid p q) (record { port = 0; to = 0 })

    taken_there : (p : ℕ) (m : Mark) → marks edges q p ≡ Some m → p ≢ q
        → (e : Edge) × (edge_to graph by lid p q ≡ Some e) × Contains (candidates edges q p) e
    taken_there p m is apart =
        let some = (candidates_in_words edges q p m is).some apart in
        chosen_there (candidates edges q p) (by.number lid p q (candidates edges q p)) some.0 some.1

    picks : PicksCandidates edges (λ l. q) pick
    picks l p m is apart =
        let x = taken_there p m is apart in
        subst (λ (e : Edge). Contains (candidates edges q p) e) (sym (ap (λ o. unwrap_or o (record { port = 0; to = 0 })) x.1)) x.2

    follows : (es : List Edge) (p n : ℕ) → p < length edges → cost edges q p ≡ Some n → Within es → CostsFall edges q n es → IsSwitch graph t
        → Follows (pick lid) q p es → FollowsRule (spread graph by) lid t (there p) (map called es)
    follows [] p n h c w f is same = ap there same ∙ switch_at_position graph by.keys good t is
    follows (e ∷ es) p zero h c w f is goes = absurd f
    follows (e ∷ es) p (suc n) h c (l, w) (its_cost, f) is (apart, picked, goes) =
        let m = cost_of (marks edges q p) (suc n) c in
        let x = taken_there p m.0 m.1 apart in
        let same : x.0 ≡ e = sym (ap (λ o. unwrap_or o (record { port = 0; to = 0 })) x.1) ∙ picked in
        let other : (there p == t) ≡ false =
        elim (there p == t) as (λ b. (there p == t) ≡ b → b ≡ false) [
          | true ↦ λ k. absurd (apart (sym (position_of_switch graph by.keys good p h) ∙ ap position_at (eqb-true (there p) t k)))
          | false ↦ λ k. refl
        ] refl in (
          other,
          ap (λ r. option_map (λ y. y.port) (edge_to graph by lid r q)) (position_of_switch graph by.keys good p h)
              ∙ ap (option_map (λ y. y.port)) x.1 ∙ ap (λ (y : Edge). Some y.port) same,
          follows es e.to n l its_cost w f is goes,
        )

    falls : (es : List Edge) (n : ℕ) → Within es → CostsFall edges q n es → Fall (λ g. (spread graph by).cost g t) n (map called es)
    falls [] n w f = tt
    falls (e ∷ es) zero w f = absurd f
    falls (e ∷ es) (suc n) (l, w) (its_cost, f) = (ap (cost edges q) (position_of_switch graph by.keys good e.to l) ∙ its_cost, falls es n w f)

    last_within : (es : List Edge) (p : ℕ) → p < length edges → Within es → Follows (pick lid) q p es → q < length edges
    last_within [] p h w same = subst (λ (x : ℕ). x < length edges) same h
    last_within (e ∷ es) p h (l, w) (apart, picked, goes) = last_within es e.to l w goes

    leads_there : (s n : ℕ) → IsSwitch graph s → (spread graph by).cost s t ≡ Some n → Leads graph (spread graph by) lid s t n
    leads_there s n is c =
        let p = position_at s in
        let h = position_within graph by.keys good s is in
        let m = cost_of (marks edges q p) n c in
        let way : Way edges (pick lid) q p n = subst (λ (x : ℕ). Way edges (pick lid) q p x) m.2 (ways_in_words edges (λ l. q) pick picks lid p m.0 m.1) in
        let es = way.ups ++ way.downs in
        let w : Within es = within way.ups way.downs p way.summit q way.climbs way.descends in
        let target : IsSwitch graph t = switch_inside graph by.keys good t (last_within es p h w way.follows) in
        let from : there p ≡ s = switch_at_position graph by.keys good s is in
        record {
          edges = map called es;
          by_rule = subst (λ (x : ℕ). FollowsRule (spread graph by) lid t x (map called es)) from (follows es p n h c w way.falls_by_one target way.follows);
          passes = subst (λ (x : ℕ). Passes graph x (map called es)) from (passes way.ups way.downs p way.summit q way.climbs way.descends);
          wires = length_map called es ∙ way.wires;
          no_switch_twice = no_stop_twice (λ g. (spread graph by).cost g t) (map called es) s n c (falls es n w way.falls_by_one);
          channels_rise = subst (λ (x : ℕ). IsStrictlyIncreasing (numbers_along (spread graph by).channel x (map called es))) from
              (subst (λ (xs : List ℕ). IsStrictlyIncreasing xs) (sym (numbers es p h w))
              (channels_in_words edges (is_grown_graph graph by.keys good).lead p way.summit q way.ups way.downs way.climbs way.descends));
        }

  reaches : (s t : ℕ) → IsSwitch graph s → IsSwitch graph t → in_one_component graph s t ≡ true → (n : ℕ) × ((spread graph by).cost s t ≡ Some n)
  reaches s t is it e =
      let walk = walk_between graph good s t is e in
      let placed = walk_by_positions (by_index graph) (order_by_keys graph by.keys) (leads_below graph good) (there_and_back graph good)
      (grows graph by.keys good)
      walk.0 (position_of (guids_of graph) s) (position_of (guids_of graph) t) (index_within graph good s is) walk.1 in
      let m = (reached_in_words edges (position_at t) (is_grown_graph graph by.keys good) (position_within graph by.keys good t it)).component (position_at s)
      walk.0 placed in
      (m.0.cost, ap (option_map (λ (x : Mark). x.cost)) m.1)

pub spread_is_routing : SpreadIsRouting
spread_is_routing graph by good = record {
  reaches = reaches graph by good;
  leads = λ lid s t n is c. leads_there graph by good lid t s n is c;
}
