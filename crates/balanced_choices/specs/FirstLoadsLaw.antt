-- The law of first loads: a channel carries what positions send along the ways that take it.
use Rattle.std.specs.Prelude.{◌≡◌, ◌<◌, ◌+◌, ◌-◌, ◌*◌, ◌^◌, ◌==◌, ℕ, List, length, min, slice_index, if◌then◌else◌}
use Rattle.std.specs.List.{sum_by}
use Rattle.port_graph.specs.declared.edge.Edge.{Edge}
use Rattle.port_graph.specs.Heads.{edges_at}
use Rattle.spread_labels.specs.Orders.{numbers_from}
use Rattle.balanced_choices.specs.declared.choice_rounds.Destination.{Destination}
use Rattle.balanced_choices.specs.declared.level_digit.LevelDigit.{LevelDigit}
use Rattle.balanced_choices.specs.BalancedChoices.{towards, weight_among}
use Rattle.balanced_choices.specs.Loads.{first_edge, first_loads}
use Rattle.balanced_choices.specs.Ways.{way}

-- the channels of the way of first choices from position `p` to the end with the number `number`
abbrev pub first_way : List (List Edge) → List LevelDigit → ℕ → ℕ → List ℕ
first_way ways digits number p =
    way (λ q. first_edge (edges_at ways q) (weight_among digits (edges_at ways q) q) q number) (length ways) p

-- how often channel `c` is among some channels
abbrev pub times_among : ℕ → List ℕ → ℕ
times_among c channels = sum_by (λ x. if x == c then 1 else 0) channels

-- the packets from position `p` to all ends of destination `d` whose ways take channel `c`, counted once each time
abbrev pub sent_along : List (List Edge) → List ℕ → List LevelDigit → ℕ → Destination → ℕ → ℕ
sent_along ways sent digits c d p =
    sum_by (λ k. slice_index sent p * times_among c (first_way ways digits (d.number + k) p)) (numbers_from 0 d.ends)

-- the packets from all positions to all ends of destination `d` whose ways take channel `c`
abbrev pub carried_to : List (List Edge) → List ℕ → List LevelDigit → ℕ → Destination → ℕ
carried_to graph sent digits c d =
    sum_by (sent_along (towards graph d.position) sent digits c d) (numbers_from 0 (length graph))

-- the load of a channel by first choices is the number of packets whose ways of first choices take it, but at most
-- 2^64 - 1
abbrev pub FirstLoadsLaw : Type 0
FirstLoadsLaw = (graph : List (List Edge)) (sent : List ℕ) (digits : List LevelDigit) (destinations : List Destination) (c : ℕ)
    → length sent ≡ length graph → c < 256 * length graph
    → slice_index (first_loads graph sent digits destinations) c
    ≡ min (sum_by (carried_to graph sent digits c) destinations) (2 ^ 64 - 1)
