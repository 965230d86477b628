-- Along a way the channel numbers rise: going up, positions fall below the size of the component; going down, positions rise above it.
use Rattle.std.proofs.Common.{◌≡◌, ◌≤◌, ◌<◌, ◌+◌, ◌-◌, ℕ, List, [], ◌∷◌, ◌++◌, refl, sym, ap, subst, arith, Bool, true, false, cond, ◌&&◌}
use Rattle.std.proofs.lemmas.Bool.{and_parts, and_from, and_right}
use Rattle.std.proofs.lemmas.List.Sums.{length-filter}
use Rattle.std.specs.Prelude.{Contains, count_by}
use Rattle.std.specs.List.Sorted.{IsStrictlyIncreasing}
use Rattle.port_graph.specs.declared.edge.Edge.{Edge}
use Rattle.port_graph.specs.Slopes.{Slope}
use Rattle.port_graph.specs.Routes.{Climbs, Descends}
use Rattle.port_graph.proofs.Counts.{filtered_le, filtered_less}
use Rattle.subnet_view.specs.SwitchEdges.{SwitchEdges}
use Rattle.subnet_view.specs.Graph.{guids_of, neighbors}
use Rattle.subnet_view.specs.GraphLaws.{IsGraph, IsSwitch}
use Rattle.subnet_view.specs.Components.{in_one_component}
use Rattle.subnet_view.specs.Routing.{numbers_along}
use Rattle.subnet_view.proofs.Components.{walk_joins, joined, component_itself, component_symm, component_trans}
use Rattle.subnet_view.proofs.Rising.{RisesFrom, risen_from}
use Rattle.updown_routes.specs.Ranks.{is_before, slopes_of}
use Rattle.updown_routes.specs.Channels.{component_size, position_of, channel_number, ChannelLaw}
use Rattle.updown_routes.proofs.Before.{before_trans, not_before_itself, ups_are, downs_are}
use Rattle.updown_routes.proofs.Ranks.{before_asymm}
use Rattle.updown_routes.proofs.LeastCosts.{up_leads, down_leads}

module _ {X : Type 0} (p q : X → Bool) (more : (x : X) → p x ≡ true → q x ≡ true) (xs : List X) where
  counted_le : count_by p xs ≤ count_by q xs
  counted_le = omega (arith, filtered_le p q more xs, length-filter p xs, length-filter q xs)

  counted_less : (x : X) → Contains xs x → p x ≡ false → q x ≡ true → count_by p xs < count_by q xs
  counted_less x h a b = omega (arith, filtered_less p q more xs x h a b, length-filter p xs, length-filter q xs)

module _ (graph : List SwitchEdges) (good : IsGraph graph) where
  abbrev slopes : List Slope
  slopes = slopes_of graph

  same_component : (a b : ℕ) → IsSwitch graph a → Contains (neighbors graph a) b → in_one_component graph a b ≡ true
  same_component a b ha s = let w = walk_joins graph good 1 a b ha (b, s, refl) in joined graph good a b w.0 w.1

  size_le : (a b : ℕ) → IsSwitch graph a → in_one_component graph a b ≡ true → component_size graph b ≤ component_size graph a
  size_le a b ha j = counted_le (in_one_component graph b) (in_one_component graph a) (λ x k. component_trans graph good a b x ha j k) (guids_of graph)

  same_size : (a b : ℕ) → IsSwitch graph a → IsSwitch graph b → in_one_component graph a b ≡ true → component_size graph a ≡ component_size graph b
  same_size a b ha hb j = omega (arith, size_le a b ha j, size_le b a hb (component_symm graph good a b hb j))

  position_below_size : (a : ℕ) → IsSwitch graph a → position_of graph a < component_size graph a
  position_below_size a ha =
      counted_less (λ x. in_one_component graph a x && is_before graph x a) (in_one_component graph a)
      (λ x k. (and_parts (in_one_component graph a x) (is_before graph x a) k).0)
      (guids_of graph) a ha (and_right (in_one_component graph a a) (is_before graph a a) (not_before_itself graph a)) (component_itself graph good a ha)

  position_less : (a b : ℕ) → IsSwitch graph a → IsSwitch graph b → in_one_component graph a b ≡ true → is_before graph b a ≡ true
      → position_of graph b < position_of graph a
  position_less a b ha hb j e =
      counted_less (λ x. in_one_component graph b x && is_before graph x b) (λ x. in_one_component graph a x && is_before graph x a)
      (λ x k. let i = and_parts (in_one_component graph b x) (is_before graph x b) k in
      and_from (in_one_component graph a x) (is_before graph x a) (component_trans graph good a b x ha j i.0) (before_trans graph x b a i.1 e))
      (guids_of graph) b hb
      (and_right (in_one_component graph b b) (is_before graph b b) (not_before_itself graph b))
      (and_from (in_one_component graph a b) (is_before graph b a) j e)

  -- a wire up, and a wire down, from a to b
  channel_up : (a b : ℕ) → is_before graph b a ≡ true → channel_number graph a b ≡ component_size graph b - position_of graph b
  channel_up a b e = ap (λ t. cond t (component_size graph b - position_of graph b) (component_size graph b + position_of graph b)) e

  channel_down : (a b : ℕ) → is_before graph a b ≡ true → channel_number graph a b ≡ component_size graph b + position_of graph b
  channel_down a b e = ap (λ t. cond t (component_size graph b - position_of graph b) (component_size graph b + position_of graph b)) (before_asymm graph a b e)

  down_rises : (es : List Edge) (m s t : ℕ) → IsSwitch graph s → m ≤ component_size graph s + position_of graph s → Descends slopes s es t
      → RisesFrom m (numbers_along (channel_number graph) s es)
  down_rises [] m s t hs l d = tt
  down_rises (e ∷ es) m s t hs l d =
      let b = (downs_are graph graph s e d.0).1 in
      let leads = down_leads graph good s e d.0 in
      let he = good.leads_to_switch s e.to leads in
      let j = same_component s e.to hs leads in
      let c = channel_down s e.to b in
      let less = position_less e.to s he hs (component_symm graph good s e.to he j) b in (
        omega (arith, c, less, same_size s e.to hs he j),
        down_rises es (channel_number graph s e.to) e.to t he (omega (arith, c)) d.1,
      )

  way_rises : (es downs : List Edge) (m s u t : ℕ) → IsSwitch graph s → m ≤ component_size graph s - position_of graph s → Climbs slopes s es u
      → Descends slopes u downs t
      → RisesFrom m (numbers_along (channel_number graph) s (es ++ downs))
  way_rises [] downs m s u t hs l c d = down_rises downs m s t hs (omega arith) (subst (λ (x : ℕ). Descends slopes x downs t) (sym c) d)
  way_rises (e ∷ es) downs m s u t hs l c d =
      let b = (ups_are graph graph s e c.0).1 in
      let leads = up_leads graph good s e c.0 in
      let he = good.leads_to_switch s e.to leads in
      let j = same_component s e.to hs leads in
      let n = channel_up s e.to b in
      let less = position_less s e.to hs he j b in (
        omega (arith, n, less, same_size s e.to hs he j, position_below_size s hs),
        way_rises es downs (channel_number graph s e.to) e.to u t he (omega (arith, n)) c.1 d,
      )

  -- up and then down
  pub channels_rise : (ups downs : List Edge) (s u t : ℕ) → IsSwitch graph s → Climbs slopes s ups u → Descends slopes u downs t
      → IsStrictlyIncreasing (numbers_along (channel_number graph) s (ups ++ downs))
  channels_rise ups downs s u t hs c d = risen_from 0 (numbers_along (channel_number graph) s (ups ++ downs)) (way_rises ups downs 0 s u t hs (omega arith) c d)

pub channel_law : ChannelLaw
channel_law graph good s t n hs w = channels_rise graph good w.ups w.downs s w.summit t hs w.climbs w.descends
