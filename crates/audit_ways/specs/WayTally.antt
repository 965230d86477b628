-- Counts of routes, and of packets by the first switch that they reach.
use Rattle.std.specs.Prelude.{◌≡◌, ◌≤◌, ◌↔◌, ◌+◌, ◌*◌, ℕ, suc, List, [], ◌∷◌, Option, count_by, length, max, nat_lt, slice_index, ◌==◌, if◌then◌else◌}
use Rattle.port_graph.specs.declared.edge.Edge.{Edge}
use Rattle.audit_ways.specs.declared.way_tally.WayTally.{WayTally}
use Rattle.audit_ways.specs.Ways.{Way, one_wire, times_on, way_from}

-- some routes, given as the sum, for all of these routes, of any number that depends on the route
abbrev pub Sum : Type 0
Sum = (Way → ℕ) → ℕ

-- 1 if `number` is above `bound`, otherwise 0
abbrev pub over : ℕ → ℕ → ℕ
over bound number = if nat_lt bound number then 1 else 0

-- `tally` counts the routes that `sum` gives, their wires and the loads of `channels` channels
pub record IsCounted (channels : ℕ) (sum : Sum) (tally : WayTally) : Type 0 where
  pub as_many : length tally.loads.items ≡ channels
  pub count : tally.hops.count ≡ sum (λ way. 1)
  pub wires : tally.hops.sum ≡ sum (λ way. way.wires)
  pub most : (bound : ℕ) → (tally.hops.most ≤ bound) ↔ (sum (λ way. over bound way.wires) ≡ 0)
  pub loads : (channel : ℕ) → slice_index tally.loads.items channel ≡ sum (times_on channel)

-- `new` is `old` with `times` added to the load of each channel for each time that the channel occurs in `channels`
pub record IsLoadedWith (old channels : List ℕ) (times : ℕ) (new : List ℕ) : Type 0 where
  pub as_many : length new ≡ length old
  pub load : (channel : ℕ) → slice_index new channel ≡ slice_index old channel
      + times * count_by (λ x. x == channel) channels

-- `new` is `old` with `way` counted `times` times more
pub record IsCountedWith (old : WayTally) (way : Way) (times : ℕ) (new : WayTally) : Type 0 where
  pub count : new.hops.count ≡ old.hops.count + times
  pub wires : new.hops.sum ≡ old.hops.sum + times * way.wires
  pub most : new.hops.most ≡ max old.hops.most way.wires
  pub loads : IsLoadedWith old.loads.items way.channels times new.loads.items

-- the sum of each weight of a list times `number` of its index
abbrev pub weighed : (ℕ → ℕ) → List ℕ → ℕ
weighed number [] = 0
weighed number (weight ∷ weights) = weight * number 0 + weighed (λ i. number (suc i)) weights

-- the sum for `direct` routes of one wire each, and for routes from switches along `edges`, for each switch as many
-- as the switch's weight
abbrev pub grouped : List (Option Edge) → List ℕ → ℕ → Sum
grouped edges weights direct number = weighed (λ i. number (way_from edges i)) weights + direct * number one_wire

-- if `old` counts the routes of some sum, `new` counts these routes and those of `more`
abbrev pub IsCountedMore : ℕ → WayTally → Sum → WayTally → Type 0
IsCountedMore channels old more new =
    (sum : Sum) → IsCounted channels sum old → IsCounted channels (λ number. sum number + more number) new
