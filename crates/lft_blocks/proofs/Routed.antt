-- What is said of a packet's wires holds of a way between switches, with at most one wire to an adapter port before it and one after it.
use Rattle.std.proofs.Common.{◌≡◌, ◌≢◌, ◌≤◌, ℕ, suc, List, [], ◌∷◌, ◌++◌, refl, sym, ap, ◌∙◌, subst, arith, cond, not, map, length, filter}
use Rattle.std.proofs.lemmas.Bool.{and_from}
use Rattle.std.proofs.lemmas.List.Sums.{length-filter, count_by-le-length}
use Rattle.std.specs.Prelude.{Some, AllPairs}
use Rattle.std.specs.List.Sorted.{IsStrictlyIncreasing}
use Rattle.fabric_model.specs.declared.cable.NodePort.{NodePort}
use Rattle.fabric_model.specs.Fabric.{Fabric, is_switch_at}
use Rattle.fabric_model.specs.Forwarding.{Hop}
use Rattle.subnet_view.specs.Reading.{Cells}
use Rattle.port_graph.specs.declared.edge.Edge.{Edge}
use Rattle.subnet_view.specs.Graph.{graph_of}
use Rattle.subnet_view.specs.Routing.{numbers_along, Routing, FollowsRule, stops, Leads}
use Rattle.lft_blocks.specs.Arrival.{guid_at, is_between_switches, switch_hops, switches_met, last_or, IsCostAlong, IsRoutedWay}
use Rattle.lft_blocks.proofs.Courses.{Follows}

-- the ports of switches that wires lead into
abbrev pub arrival_ports : Fabric → List Hop → List NodePort
arrival_ports f hops = filter (λ p. is_switch_at f p.node) (map (λ h. h.into) hops)

-- the switches that wires lead into
abbrev pub arrivals : Fabric → List Hop → List ℕ
arrivals f hops = map (guid_at f) (arrival_ports f hops)

abbrev pub adapter_hops : Fabric → List Hop → List Hop
adapter_hops f hops = filter (λ h. not (is_between_switches f h)) hops

module _ (f : Fabric) where
  pub way_arrivals : (es : List Edge) (hops rest : List Hop) (s : ℕ) → Follows f s es hops → arrivals f rest ≡ []
      → arrivals f (hops ++ rest) ≡ map (λ e. e.to) es
  way_arrivals [] [] rest s w none = none
  way_arrivals [] (h ∷ hops) rest s w none = absurd w
  way_arrivals (e ∷ es) [] rest s w none = absurd w
  way_arrivals (e ∷ es) (h ∷ hops) rest s (out, into, from, to, w) none =
      ap (λ t. map (guid_at f) (cond t (h.into ∷ arrival_ports f (hops ++ rest)) (arrival_ports f (hops ++ rest)))) to
      ∙ ap (λ g. g ∷ arrivals f (hops ++ rest)) into
      ∙ ap (λ gs. e.to ∷ gs) (way_arrivals es hops rest e.to w none)

  pub way_switch_hops : (es : List Edge) (hops rest : List Hop) (s : ℕ) → Follows f s es hops → switch_hops f rest ≡ []
      → switch_hops f (hops ++ rest) ≡ hops
  way_switch_hops [] [] rest s w none = none
  way_switch_hops [] (h ∷ hops) rest s w none = absurd w
  way_switch_hops (e ∷ es) [] rest s w none = absurd w
  way_switch_hops (e ∷ es) (h ∷ hops) rest s (out, into, from, to, w) none =
      ap (λ t. cond t (h ∷ switch_hops f (hops ++ rest)) (switch_hops f (hops ++ rest)))
      (and_from (is_switch_at f h.out.node) (is_switch_at f h.into.node) from to)
      ∙ ap (λ hs. h ∷ hs) (way_switch_hops es hops rest e.to w none)

  pub way_adapter_hops : (es : List Edge) (hops rest : List Hop) (s : ℕ) → Follows f s es hops → adapter_hops f (hops ++ rest) ≡ adapter_hops f rest
  way_adapter_hops [] [] rest s w = refl
  way_adapter_hops [] (h ∷ hops) rest s w = absurd w
  way_adapter_hops (e ∷ es) [] rest s w = absurd w
  way_adapter_hops (e ∷ es) (h ∷ hops) rest s (out, into, from, to, w) =
      ap (λ t. cond (not t) (h ∷ adapter_hops f (hops ++ rest)) (adapter_hops f (hops ++ rest)))
      (and_from (is_switch_at f h.out.node) (is_switch_at f h.into.node) from to)
      ∙ way_adapter_hops es hops rest e.to w

  way_channels : (rule : Routing) (es : List Edge) (hops : List Hop) (s : ℕ) → Follows f s es hops
      → map (λ h. rule.channel (guid_at f h.out) (guid_at f h.into)) hops ≡ numbers_along rule.channel s es
  way_channels rule [] [] s w = refl
  way_channels rule [] (h ∷ hops) s w = absurd w
  way_channels rule (e ∷ es) [] s w = absurd w
  way_channels rule (e ∷ es) (h ∷ hops) s (out, into, from, to, w) =
      ap (λ x. rule.channel x (guid_at f h.into) ∷ map (λ y. rule.channel (guid_at f y.out) (guid_at f y.into)) hops) out
      ∙ ap (λ x. rule.channel s x ∷ map (λ y. rule.channel (guid_at f y.out) (guid_at f y.into)) hops) into
      ∙ ap (λ ns. rule.channel s e.to ∷ ns) (way_channels rule es hops e.to w)

  way_length : (es : List Edge) (hops : List Hop) (s : ℕ) → Follows f s es hops → length hops ≡ length es
  way_length [] [] s w = refl
  way_length [] (h ∷ hops) s w = absurd w
  way_length (e ∷ es) [] s w = absurd w
  way_length (e ∷ es) (h ∷ hops) s (out, into, from, to, w) = ap suc (way_length es hops e.to w)

module _ (rule : Routing) (lid t : ℕ) where
  way_end : (es : List Edge) (s : ℕ) → FollowsRule rule lid t s es → last_or s (map (λ e. e.to) es) ≡ t
  way_end [] s w = w
  way_end (e ∷ es) s (apart, next, w) = way_end es e.to w

-- wires that meet the switches of a way, and between switches are its wires
pub routed_by_way : (rule : Routing) (cells : Cells) (f : Fabric) (source : NodePort) (whole hops : List Hop) (lid s t n : ℕ)
    → rule.cost s t ≡ Some n → (way : Leads (graph_of cells) rule lid s t n) → Follows f s way.edges hops
    → switches_met f source whole ≡ stops s way.edges → switch_hops f whole ≡ hops → length (adapter_hops f whole) ≤ 2
    → IsRoutedWay rule f source whole
routed_by_way rule cells f source whole hops lid s t n its_cost way follows met between few =
    let es = way.edges in
    let as_long : length (switch_hops f whole) ≡ n = ap length between ∙ way_length f es hops s follows ∙ way.wires in
    let from_start : IsCostAlong rule (stops s es) (length (switch_hops f whole)) =
    ap (rule.cost s) (way_end rule lid t es s way.by_rule) ∙ its_cost ∙ ap (λ (m : ℕ). Some m) (sym as_long) in
    record {
      at_cost = subst (λ (xs : List ℕ). IsCostAlong rule xs (length (switch_hops f whole))) (sym met) from_start;
      no_switch_twice = subst (AllPairs (λ a b. a ≢ b)) (sym met) way.no_switch_twice;
      adapter_wires = subst (λ (m : ℕ). m ≤ 2) (length-filter (λ h. not (is_between_switches f h)) whole) few;
      channels_rise =
          subst IsStrictlyIncreasing
          (sym (ap (map (λ h. rule.channel (guid_at f h.out) (guid_at f h.into))) between ∙ way_channels f rule es hops s follows))
          way.channels_rise;
    }

-- a packet that meets no switch, over at most two wires
pub routed_past_switches : (rule : Routing) (f : Fabric) (source : NodePort) (hops : List Hop) → switches_met f source hops ≡ []
    → switch_hops f hops ≡ [] → length hops ≤ 2 → IsRoutedWay rule f source hops
routed_past_switches rule f source hops met between few =
    record {
      at_cost = subst (λ (xs : List ℕ). IsCostAlong rule xs (length (switch_hops f hops))) (sym met) tt;
      no_switch_twice = subst (AllPairs (λ a b. a ≢ b)) (sym met) (λ i j d h k. absurd (omega arith));
      adapter_wires = omega (arith, count_by-le-length (λ h. not (is_between_switches f h)) hops);
      channels_rise = subst (λ hs. IsStrictlyIncreasing (map (λ h. rule.channel (guid_at f h.out) (guid_at f h.into)) hs)) (sym between)
          (λ k h. absurd (omega arith));
    }
