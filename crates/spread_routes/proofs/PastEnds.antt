-- What is found at an index past the last one, and sums that stop.
use Rattle.std.proofs.Common.{◌≡◌, ◌<◌, ◌≤◌, ◌+◌, ℕ, List, [], min, inl, inr, sym, ap, ◌∙◌, arith, length}
use Rattle.std.proofs.lemmas.Bool.{cases_lt}
use Rattle.std.proofs.lemmas.List.{get_or_past}
use Rattle.std.proofs.lemmas.List.Elements.{All-map}
use Rattle.std.specs.Prelude.{All, slice_index_or}
use Rattle.balanced_choices.specs.declared.choice_rounds.Destination.{Destination}
use Rattle.spread_labels.specs.Leaves.{leaf_vertices}
use Rattle.spread_labels.proofs.LeafVertices.{leaves_within}
use Rattle.spread_routes.specs.AdapterChoices.{destination, destinations}

least : (n m : ℕ) → n < m → min n m ≡ n
least n m h = omega arith

most : (n m : ℕ) → m ≤ n → min n m ≡ m
most n m h = omega arith

pub there_or_past : (xs : List (List ℕ)) (n m : ℕ) → length xs ≤ m → slice_index_or xs (min n m) [] ≡ slice_index_or xs n []
there_or_past xs n m long =
    elim (cases_lt n m) [
      | inl less ↦ ap (λ k. slice_index_or xs k []) (least n m less)
      | inr past ↦ get_or_past xs (min n m) [] (omega (arith, long, most n m past)) ∙ sym (get_or_past xs n [] (omega (arith, long)))
    ]

-- a sum that stops at m, and goes on
pub stopped : (a b m : ℕ) → min (min a m + b) m ≡ min (a + b) m
stopped a b m = grind arith

-- the destinations are positions
pub all_destinations : (leaf_numbers adapters : List ℕ) → All (λ (d : Destination). d.position < length adapters) (destinations leaf_numbers adapters)
all_destinations leaf_numbers adapters =
    All-map (λ (d : Destination). d.position < length adapters) (destination leaf_numbers adapters) (leaf_vertices adapters) (leaves_within adapters)
