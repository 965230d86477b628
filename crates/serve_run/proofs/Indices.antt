-- The indices below a count, as a list.
use Rattle.std.proofs.Common.{◌≡◌, ◌∙◌, ℕ, ◌+◌, ◌<◌, ◌≤◌, Some, length, ap, arith}
use Rattle.std.specs.Prelude.{slice_get}
use Rattle.std.specs.List.{range_with_len}
use Rattle.std.proofs.lemmas.Option.{slice_get-get_or}
use Rattle.std.proofs.lemmas.List.FromFn.{get_or-range_with_len, length-range_with_len}

pub index_there : (count i : ℕ) → i < count → slice_get (range_with_len 0 count) i ≡ Some i
index_there count i h =
    let zero_more : 0 + i ≡ i = omega arith in
    slice_get-get_or (range_with_len 0 count) i 0 (omega (arith, length-range_with_len 0 count)) ∙ ap (λ x. Some x) (get_or-range_with_len 0 count i 0 h ∙ zero_more)

pub all_indices : (count i : ℕ) → count ≤ i → length (range_with_len 0 count) ≤ i
all_indices count i h = omega (arith, length-range_with_len 0 count)
