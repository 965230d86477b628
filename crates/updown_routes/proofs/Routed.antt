-- Up/down routing is a rule of routing.
use Rattle.std.proofs.Common.{◌≡◌, ◌≢◌, ◌≤◌, ℕ, zero, suc, List, [], ◌∷◌, ◌++◌, sym, ap, ◌∙◌, subst, arith, map}
use Rattle.std.proofs.lemmas.List.Elements.{All-from_recursion}
use Rattle.std.proofs.lemmas.List.Kept.{AllPairs-cons}
use Rattle.std.proofs.lemmas.Option.{same_Some}
use Rattle.std.specs.Prelude.{Some, AllPairs}
use Rattle.std.specs.List.{AllByRecursion}
use Rattle.port_graph.specs.declared.edge.Edge.{Edge}
use Rattle.port_graph.specs.Slopes.{Slope, cost}
use Rattle.port_graph.specs.Routes.{Climbs, Descends, GoesBy, CostsFall}
use Rattle.subnet_view.specs.SwitchEdges.{SwitchEdges}
use Rattle.subnet_view.specs.Routing.{Passes, FollowsRule, stops}
use Rattle.updown_routes.specs.Ranks.{slopes_of}
use Rattle.updown_routes.specs.Updown.{updown, UpdownIsRouting}
use Rattle.updown_routes.proofs.Before.{ups_are, downs_are}
use Rattle.updown_routes.proofs.ComponentCosts.{cost_in_component}
use Rattle.updown_routes.proofs.RisingChannels.{channels_rise}
use Rattle.updown_routes.proofs.Ways.{way_law}

module _ (graph : List SwitchEdges) where
  descent_passes : (es : List Edge) (s t : ℕ) → Descends (slopes_of graph) s es t → Passes graph s es
  descent_passes [] s t d = tt
  descent_passes (e ∷ es) s t d = ((downs_are graph graph s e d.0).0, descent_passes es e.to t d.1)

  -- up and then down is along wires of the graph
  way_passes : (ups downs : List Edge) (s u t : ℕ) → Climbs (slopes_of graph) s ups u → Descends (slopes_of graph) u downs t
      → Passes graph s (ups ++ downs)
  way_passes [] downs s u t c d = descent_passes downs s t (subst (λ (x : ℕ). Descends (slopes_of graph) x downs t) (sym c) d)
  way_passes (e ∷ es) downs s u t c d = ((ups_are graph graph s e c.0).0, way_passes es downs e.to u t c.1 d)

  -- next ports are those of the rule, for every LID
  by_next_ports : (lid t : ℕ) (es : List Edge) (s : ℕ) → GoesBy (slopes_of graph) t s es → FollowsRule (updown graph) lid t s es
  by_next_ports lid t [] s goes = goes
  by_next_ports lid t (e ∷ es) s (apart, next, goes) = (apart, next, by_next_ports lid t es e.to goes)

module _ (slopes : List Slope) (t : ℕ) where
  -- a switch of greater cost is none of those that a way comes to
  later_differ : (es : List Edge) (s n m : ℕ) → cost slopes s t ≡ Some n → m ≤ n → CostsFall slopes t m es
      → AllByRecursion (λ x. s ≢ x) (map (λ e. e.to) es)
  later_differ [] s n m c l w = tt
  later_differ (e ∷ es) s n zero c l w = absurd w
  later_differ (e ∷ es) s n (suc m) c l (its_cost, w) =
      ((λ k. let same : n ≡ m = same_Some n m (sym c ∙ ap (λ y. cost slopes y t) k ∙ its_cost) in omega arith), later_differ es s n m c (omega arith) w)

  no_stop_twice : (es : List Edge) (s n : ℕ) → cost slopes s t ≡ Some n → CostsFall slopes t n es → AllPairs (λ a b. a ≢ b) (stops s es)
  no_stop_twice [] s n c w = λ i j d h k. absurd (omega arith)
  no_stop_twice (e ∷ es) s zero c w = absurd w
  no_stop_twice (e ∷ es) s (suc n) c (its_cost, w) =
      AllPairs-cons (λ a b. a ≢ b) s (stops e.to es)
      (All-from_recursion (λ x. s ≢ x) (stops e.to es) (later_differ (e ∷ es) s (suc n) (suc n) c (omega arith) (its_cost, w)))
      (no_stop_twice es e.to n its_cost w)

pub updown_is_routing : UpdownIsRouting
updown_is_routing graph good =
    record {
      reaches = cost_in_component graph good;
      leads = λ lid s t n is_switch its_cost.
          let way = way_law graph good n s t its_cost in
          let es = way.ups ++ way.downs in
          record {
            edges = es;
            by_rule = by_next_ports graph lid t es s way.goes;
            passes = way_passes graph way.ups way.downs s way.summit t way.climbs way.descends;
            wires = way.wires;
            no_switch_twice = no_stop_twice (slopes_of graph) t es s n its_cost way.falls_by_one;
            channels_rise = channels_rise graph good way.ups way.downs s way.summit t is_switch way.climbs way.descends;
          };
    }
