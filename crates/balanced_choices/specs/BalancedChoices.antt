-- Choices among candidates that balance the loads of channels. Packets go to ends (adapters), each of which is at a
-- position. For each end, each position chooses one of its candidates.
use Rattle.std.specs.Prelude.{ℕ, zero, suc, ◌+◌, ◌*◌, ◌%◌, Bool, not, List, [], ◌-◌, ◌/◌, ◌^◌, min, nat_le, nat_lt, if◌then◌else◌}
use Rattle.std.specs.Prelude.{◌∷◌, ◌++◌, filter, length, map, replicate, reverse, slice_index, slice_index_or, slice_set, take}
use Rattle.std.specs.List.{list_any}
use Rattle.port_graph.specs.declared.edge.Edge.{Edge}
use Rattle.port_graph.specs.Heads.{edges_at}
use Rattle.spread_labels.specs.Level.{greatest}
use Rattle.spread_labels.specs.Labels.{candidates, leads_up}
use Rattle.spread_labels.specs.Orders.{numbers_from}
use Rattle.balanced_choices.specs.declared.ways.Change.TheVariants.{Add, Remove}
use Rattle.balanced_choices.specs.declared.choice_rounds.Destination.{Destination}
use Rattle.balanced_choices.specs.declared.level_digit.LevelDigit.{LevelDigit}
use Rattle.balanced_choices.specs.Ways.{lightest, way_from, with_changes}

-- for one end, the number of the candidate that each position chooses; and, for all ends together, the loads of
-- channels
pub record Chosen : Type 0 where
  pub choices : List ℕ
  pub loads : List ℕ

-- `old` after position `p` has chosen the candidate with the number `k`. The packets that `p` sends are added to the
-- loads of the channels on their way
abbrev pub with_choice : List (List Edge) → List ℕ → Chosen → ℕ → ℕ → Chosen
with_choice ways sent old p k =
    let choices = slice_set old.choices p k in
    record {
      choices = choices;
      loads = with_changes (Add (slice_index sent p)) old.loads (way_from ways choices p);
    }

-- the choices after the positions of a list have chosen, one after another, as `choice` says
abbrev pub choose_each : (Chosen → ℕ → ℕ) → List (List Edge) → List ℕ → Chosen → List ℕ → Chosen
choose_each choice ways sent old [] = old
choose_each choice ways sent old (p ∷ ps) =
    choose_each choice ways sent (with_choice ways sent old p (choice old p)) ps

-- whether any candidate of position `p` leads up
abbrev pub is_below : List (List Edge) → ℕ → Bool
is_below ways p = leads_up p (edges_at ways p)

-- all positions: first those without a candidate that leads up, from the last to the first, and then the others, from
-- the first to the last. If `ways` are the candidates towards a target, each position comes after the positions that
-- its candidates lead to
abbrev pub near_first : List (List Edge) → List ℕ
near_first ways =
    filter (λ p. not (is_below ways p)) (reverse (numbers_from 0 (length ways)))
    ++ filter (is_below ways) (numbers_from 0 (length ways))

-- `n` modulo the given count; 0 if the count is 0
abbrev pub in_turn : ℕ → ℕ → ℕ
in_turn zero n = 0
in_turn (suc count) n = n % suc count

-- `n` divided by the given weight, rounded down; `n` itself if the weight is 0
abbrev pub digits_from : ℕ → ℕ → ℕ
digits_from zero n = n
digits_from (suc w) n = n / suc w

-- the level and the digit weight of position `p`; level 0 and weight 1 if there is no such position
abbrev pub digit_at : List LevelDigit → ℕ → LevelDigit
digit_at digits p = slice_index_or digits p (record { level = 0; weight = 1 })

-- whether any of `edges`, the candidates of position `p`, leads to a position of a higher level
abbrev pub leads_higher : List LevelDigit → List Edge → ℕ → Bool
leads_higher digits edges p = list_any (λ e. nat_lt (digit_at digits p).level (digit_at digits e.to).level) edges

-- the weight of the digit by which position `p` takes first choices among `edges`: its digit weight if any of them
-- leads to a higher level; otherwise 1, so that the whole number counts
abbrev pub weight_among : List LevelDigit → List Edge → ℕ → ℕ
weight_among digits edges p = if leads_higher digits edges p then (digit_at digits p).weight else 1

-- the number of the candidate among `edges` that is the first choice of position `p` towards the end with the number
-- `number`: `number` divided by `weight`, rounded down, plus `p`, modulo the number of candidates. If there are more than
-- 256 candidates, only the first 256 count; 0 if there are no candidates
abbrev pub choice_among : List Edge → ℕ → ℕ → ℕ → ℕ
choice_among edges weight p number = in_turn (length (take 256 edges)) (digits_from weight number + p)

-- the number of the candidate that is the first choice of position `p` towards the end with the number `number`, by the
-- weight of the digit of `p` (`weight_among`)
abbrev pub first_choice : List (List Edge) → List LevelDigit → ℕ → ℕ → ℕ
first_choice ways digits number p =
    choice_among (edges_at ways p) (weight_among digits (edges_at ways p) p) p number

-- the first choices of the positions of `order` towards the end with the number `number`; and the loads, with the
-- packets to that end added
abbrev pub first_choices : List (List Edge) → List ℕ → List LevelDigit → List ℕ → ℕ → Chosen → Chosen
first_choices ways sent digits order number old =
    choose_each (λ now p. first_choice ways digits number p) ways sent old order

-- `loads` without the packets that the positions of a list send by the given choices
abbrev pub without_packets : List (List Edge) → List ℕ → List ℕ → List ℕ → List ℕ → List ℕ
without_packets ways sent choices loads [] = loads
without_packets ways sent choices loads (p ∷ ps) =
    without_packets ways sent choices (with_changes (Remove (slice_index sent p)) loads (way_from ways choices p)) ps

-- new choices for an end. The packets to that end are taken off the loads. Then each position of `order`, one after
-- another, chooses the candidate of least peak
abbrev pub new_choices : List (List Edge) → List ℕ → List ℕ → Chosen → Chosen
new_choices ways sent order old =
    choose_each (λ now p. lightest ways now.choices now.loads p) ways sent
    (record {
      choices = old.choices;
      loads = without_packets ways sent old.choices old.loads (numbers_from 0 (length ways));
    })
    order

-- the choices for the end with the number `number` in a round: first choices in round 0, and new choices in later
-- rounds
abbrev pub choices_in : ℕ → List (List Edge) → List ℕ → List LevelDigit → List ℕ → ℕ → Chosen → Chosen
choices_in zero ways sent digits order number old = first_choices ways sent digits order number old
choices_in (suc round) ways sent digits order number old = new_choices ways sent order old

-- for each end, the number of the candidate that each position chooses; and the loads of channels
pub record Balance : Type 0 where
  pub choices : List (List ℕ)
  pub loads : List ℕ

-- the balance after choices for `end` are made in a round. `first` is the first end at the position of `end`, and has
-- the number `number`
abbrev pub with_end : ℕ → List (List Edge) → List ℕ → List LevelDigit → List ℕ → ℕ → ℕ → Balance → ℕ → Balance
with_end round ways sent digits order number first old end =
    let before : Chosen = record { choices = slice_index_or old.choices end []; loads = old.loads } in
    let own = choices_in round ways sent digits order (number + (end - first)) before in
    record { choices = slice_set old.choices end own.choices; loads = own.loads }

-- the balance after choices for each end of a list are made in a round. All these ends are at one position; `first` is
-- the first end there, and has the number `number`
abbrev pub with_ends : ℕ → List (List Edge) → List ℕ → List LevelDigit → List ℕ → ℕ → ℕ → Balance → List ℕ → Balance
with_ends round ways sent digits order number first old [] = old
with_ends round ways sent digits order number first old (end ∷ ends) =
    with_ends round ways sent digits order number first (with_end round ways sent digits order number first old end) ends

-- the candidates of each position towards position `t`
abbrev pub towards : List (List Edge) → ℕ → List (List Edge)
towards graph t = map (candidates graph t) (numbers_from 0 (length graph))

-- the balance after choices for all ends of the destinations are made in a round. The first of these ends has the index
-- `end`
abbrev pub with_all : ℕ → List (List Edge) → List ℕ → List LevelDigit → Balance → ℕ → List Destination → Balance
with_all round graph sent digits old end [] = old
with_all round graph sent digits old end (d ∷ ds) =
    let ways = towards graph d.position in
    with_all round graph sent digits
    (with_ends round ways sent digits (near_first ways) d.number end old (numbers_from end d.ends))
    (end + d.ends) ds

-- `n` plus the number of ends of all destinations
abbrev pub ends_of : ℕ → List Destination → ℕ
ends_of n [] = n
ends_of n (d ∷ ds) = ends_of (n + d.ends) ds

-- `n` plus the sum of some numbers, but at most 2^64 - 1
abbrev pub sum_from : ℕ → List ℕ → ℕ
sum_from n [] = n
sum_from n (x ∷ xs) = sum_from (min (n + x) (2 ^ 64 - 1)) xs

-- the mean of `count` numbers whose sum is `sum`, rounded down; 0 if `count` is 0
abbrev pub mean : ℕ → ℕ → ℕ
mean sum zero = 0
mean sum (suc count) = sum / suc count

-- the mean load of the channels of a graph, rounded down; 0 if the graph has no channels. If the sum of the loads is
-- over 2^64 - 1, it counts as 2^64 - 1
abbrev pub mean_load : List (List Edge) → List ℕ → ℕ
mean_load graph loads = mean (sum_from 0 loads) (sum_from 0 (map length graph))

-- whether no load exceeds the mean load by more than an eighth of it. The mean and the eighth are rounded down
abbrev pub are_even : List (List Edge) → List ℕ → Bool
are_even graph loads = nat_le (greatest 0 loads - mean_load graph loads) (mean_load graph loads / 8)

-- the balance before the first round: all choices and all loads are 0
abbrev pub at_first : List (List Edge) → List Destination → Balance
at_first graph destinations =
    record {
      choices = replicate (ends_of 0 destinations) (replicate (length graph) 0);
      loads = replicate (256 * length graph) 0;
    }

-- the balances after the rounds that are made of at most `most` rounds, the first of which has the number `round`.
-- `old` is the balance before them. Each round begins from the balance of the round before it; once loads are even, no
-- more rounds are made
abbrev pub later_rounds :
    ℕ → ℕ → List (List Edge) → List ℕ → List LevelDigit → List Destination → Balance → List Balance
later_rounds zero round graph sent digits destinations old = []
later_rounds (suc most) round graph sent digits destinations old =
    if are_even graph old.loads then []
    else (
    let new = with_all round graph sent digits old 0 destinations in
    new ∷ later_rounds most (suc round) graph sent digits destinations new
    )

-- the choices of the lightest balance: of the choices `best`, by which the greatest load is `least`, and those of some
-- balances, the first by which the greatest load is least
abbrev pub lightest_choices : List (List ℕ) → ℕ → List Balance → List (List ℕ)
lightest_choices best least [] = best
lightest_choices best least (b ∷ bs) =
    if nat_lt (greatest 0 b.loads) least then lightest_choices b.choices (greatest 0 b.loads) bs
    else lightest_choices best least bs

-- the balance after first choices
abbrev pub after_first : List (List Edge) → List ℕ → List LevelDigit → List Destination → Balance
after_first graph sent digits destinations = with_all 0 graph sent digits (at_first graph destinations) 0 destinations

-- the balanced choices for each end: those of the first choices and of at most two rounds of new choices, made while
-- loads are not even, by which the greatest load is least; of equals, the first
unfoldable pub balanced_choices : List (List Edge) → List ℕ → List LevelDigit → List Destination → List (List ℕ)
balanced_choices graph sent digits destinations =
    let first = after_first graph sent digits destinations in
    lightest_choices first.choices (greatest 0 first.loads) (later_rounds 2 1 graph sent digits destinations first)
