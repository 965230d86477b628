-- The loads of channels by first choices. For each end of a destination, each position passes on its own packets and
-- those that have reached it, when all have reached it.
use Rattle.std.specs.Prelude.{ℕ, ◌+◌, ◌*◌, List, [], ◌∷◌, ◌++◌, Option, length, replicate, reverse}
use Rattle.std.specs.Prelude.{slice_get, slice_index}
use Rattle.std.specs.Option.{option_map_or}
use Rattle.port_graph.specs.declared.edge.Edge.{Edge}
use Rattle.port_graph.specs.Heads.{edges_at}
use Rattle.spread_labels.specs.Orders.{numbers_from}
use Rattle.balanced_choices.specs.declared.choice_rounds.Destination.{Destination}
use Rattle.balanced_choices.specs.declared.level_digit.LevelDigit.{LevelDigit}
use Rattle.balanced_choices.specs.declared.ways.Change.TheVariants.{Add}
use Rattle.balanced_choices.specs.Ways.{channel_by, with_changes}
use Rattle.balanced_choices.specs.BalancedChoices.{choice_among, near_first, towards, weight_among}

-- packets on their way to the ends of a destination, and the loads of channels. `had` has, for each position, how many
-- packets for each end have reached it so far, including its own. The number for end `k` of `ends` at position `p` is at
-- index `p * ends + k`
pub record Passing : Type 0 where
  pub had : List ℕ
  pub loads : List ℕ

-- the number of packets for end `k` of `ends` that have reached position `p`, including its own
abbrev pub had_at : ℕ → Passing → ℕ → ℕ → ℕ
had_at ends packets k p = slice_index packets.had (p * ends + k)

-- the packets after position `p` has passed on, by edge `e`, the packets that it had for end `k` of `ends` (`had_at`)
abbrev pub with_passed : ℕ → ℕ → ℕ → Passing → Edge → Passing
with_passed ends p k old e = record {
  had = with_changes (Add (had_at ends old k p)) old.had ((e.to * ends + k) ∷ []);
  loads = with_changes (Add (had_at ends old k p)) old.loads (channel_by p e ∷ []);
}

-- the candidate that is the first choice of position `p` towards the end with the number `number` (`choice_among`); None
-- if there are no candidates
abbrev pub first_edge : List Edge → ℕ → ℕ → ℕ → Option Edge
first_edge edges weight p number = slice_get edges (choice_among edges weight p number)

-- the packets after position `p` has passed on those that it had for some of `ends` ends, the ends of a list (`had_at`).
-- `number` is the number of end 0
abbrev pub passed_to : ℕ → List Edge → ℕ → ℕ → ℕ → Passing → List ℕ → Passing
passed_to ends edges weight p number old [] = old
passed_to ends edges weight p number old (k ∷ ks) =
    passed_to ends edges weight p number
    (option_map_or (with_passed ends p k old) (first_edge edges weight p (number + k)) old) ks

-- the packets after the positions of a list, one after another, have passed on those that they had for all of `ends`
-- ends (`had_at`)
abbrev pub passed_on : List (List Edge) → List LevelDigit → ℕ → ℕ → Passing → List ℕ → Passing
passed_on ways digits number ends old [] = old
passed_on ways digits number ends old (p ∷ ps) =
    passed_on ways digits number ends
    (passed_to ends (edges_at ways p) (weight_among digits (edges_at ways p) p) p number old (numbers_from 0 ends)) ps

-- `count` copies of each number of a list
abbrev pub repeated : ℕ → List ℕ → List ℕ
repeated count [] = []
repeated count (n ∷ ns) = replicate count n ++ repeated count ns

-- the loads, with the packets to the ends of the destination `d` added. Each position passes on packets before the
-- positions that its candidates lead to do
abbrev pub loads_with : List (List Edge) → List ℕ → List LevelDigit → List ℕ → Destination → List ℕ
loads_with ways sent digits loads d =
    (passed_on ways digits d.number d.ends (record { had = repeated d.ends sent; loads = loads })
    (reverse (near_first ways))).loads

-- the loads with the packets to all ends of the destinations added
abbrev pub loads_with_all : List (List Edge) → List ℕ → List LevelDigit → List ℕ → List Destination → List ℕ
loads_with_all graph sent digits loads [] = loads
loads_with_all graph sent digits loads (d ∷ ds) =
    loads_with_all graph sent digits (loads_with (towards graph d.position) sent digits loads d) ds

-- the loads of channels if all packets to all ends take first choices
unfoldable pub first_loads : List (List Edge) → List ℕ → List LevelDigit → List Destination → List ℕ
first_loads graph sent digits destinations =
    loads_with_all graph sent digits (replicate (256 * length graph) 0) destinations
