-- The candidates by which packets leave switches if loads are balanced. For each adapter, each switch takes one
-- candidate. The LIDs at a switch share the choices for its adapters.
use Rattle.std.specs.Prelude.{ℕ, ◌+◌, ◌*◌, ◌==◌, List, [], map, slice_index, slice_index_or, sum_by, take, if◌then◌else◌}
use Rattle.std.specs.Prelude.{Option, None, Some}
use Rattle.port_graph.specs.declared.edge.Edge.{Edge}
use Rattle.spread_labels.specs.Leaves.{leaf_vertices}
use Rattle.spread_labels.specs.Level.{greatest}
use Rattle.balanced_choices.specs.BalancedChoices.{are_even, balanced_choices, digits_from, in_turn}
use Rattle.balanced_choices.specs.Loads.{first_loads}
use Rattle.balanced_choices.specs.declared.choice_rounds.Destination.{Destination}
use Rattle.balanced_choices.specs.declared.level_digit.LevelDigit.{LevelDigit}

-- how candidates towards adapters are chosen. First choices follow from the leaf number and the number of adapters of
-- each position. `counted` is None if first choices stand. Otherwise it has, for each adapter, the number of the
-- candidate that each position takes
pub record AdapterChoices : Type 0 where
  pub leaf_numbers : List ℕ
  pub adapters : List ℕ
  pub counted : Option (List (List ℕ))

-- the number of adapters at positions before `q`. It is the number of the first adapter at `q` in `counted`
abbrev pub first_at : List ℕ → ℕ → ℕ
first_at adapters q = sum_by (λ n. n) (take q adapters)

-- the number, in `counted`, of an adapter at position `q`: the one whose choices a LID with the number `lid` takes.
-- `first_at` if `q` has no adapters
abbrev pub adapter_of : List ℕ → ℕ → ℕ → ℕ
adapter_of adapters lid q = first_at adapters q + in_turn (slice_index adapters q) lid

-- the number, for first choices, of the first adapter at position `q`: the leaf number of `q` times the greatest number
-- of adapters at any position
abbrev pub first_number : List ℕ → List ℕ → ℕ → ℕ
first_number leaf_numbers adapters q = slice_index leaf_numbers q * greatest 0 adapters

-- the number, for first choices, of the adapter at position `q` whose choices a LID with the number `lid` takes. If `q`
-- has no adapters, it is the `first_number` of `q`
abbrev pub end_number : AdapterChoices → ℕ → ℕ → ℕ
end_number by lid q = first_number by.leaf_numbers by.adapters q + in_turn (slice_index by.adapters q) lid

-- the number by which the candidate at position `p` towards position `q` is chosen, for a LID with the number `lid`.
-- For first choices, it is the adapter's number divided by `weight`, rounded down, plus `p`. For counted choices, it is
-- the choice of `p` for the adapter, or 0 if `q` has no adapters
abbrev pub choice_with : Option (List (List ℕ)) → AdapterChoices → ℕ → ℕ → ℕ → ℕ → ℕ
choice_with None by weight lid p q = digits_from weight (end_number by lid q) + p
choice_with (Some choices) by weight lid p q =
    if slice_index by.adapters q == 0 then 0
    else slice_index (slice_index_or choices (adapter_of by.adapters lid q) []) p

-- the number by which the candidate at position `p` towards position `q` is chosen, for a LID with the number `lid`.
-- `weight` is the weight of the digit that counts for first choices
abbrev pub choice_towards : AdapterChoices → ℕ → ℕ → ℕ → ℕ → ℕ
choice_towards by weight lid p q = choice_with by.counted by weight lid p q

-- position `q` as a destination of packets: its ends are its adapters, numbered for first choices
abbrev pub destination : List ℕ → List ℕ → ℕ → Destination
destination leaf_numbers adapters q = record {
  position = q;
  ends = slice_index adapters q;
  number = first_number leaf_numbers adapters q;
}

-- the positions that have adapters, as destinations of packets, in ascending order of position
abbrev pub destinations : List ℕ → List ℕ → List Destination
destinations leaf_numbers adapters = map (destination leaf_numbers adapters) (leaf_vertices adapters)

-- the balanced choices, or None if the loads under first choices are even. Each adapter sends one packet to each
-- adapter
abbrev pub counted_if_uneven : List (List Edge) → List ℕ → List LevelDigit → List Destination → Option (List (List ℕ))
counted_if_uneven graph adapters digits ds =
    if are_even graph (first_loads graph adapters digits ds) then None
    else Some (balanced_choices graph adapters digits ds)

-- how candidates towards adapters are chosen in a graph by positions, with the level and the digit weight, the leaf
-- number and the number of adapters of each position
unfoldable pub adapter_choices : List (List Edge) → List LevelDigit → List ℕ → List ℕ → AdapterChoices
adapter_choices graph digits leaf_numbers adapters = record {
  leaf_numbers = leaf_numbers;
  adapters = adapters;
  counted = counted_if_uneven graph adapters digits (destinations leaf_numbers adapters);
}
