-- Switches by index, in ascending order of rank.
use Rattle.std.specs.Prelude.{◌≡◌, ◌<◌, ℕ, Bool, true, List, map, EachIndex, length, Contains, Option, None, ◌==◌, ◌&&◌, ◌||◌, nat_lt, unwrap_or, slice_index, slice_index_or}
use Rattle.std.specs.List.{enumerate_from}
use Rattle.std.specs.Option.{option_or}

-- whether index `a` has a lesser rank than index `b`, or an equal rank and `a` is less than `b`; a missing rank counts
-- as 0
abbrev pub goes_before : List (Option ℕ) → ℕ → ℕ → Bool
goes_before ranks a b = let ra = unwrap_or (slice_index_or ranks a None) 0 in let rb =
    unwrap_or (slice_index_or ranks b None) 0 in nat_lt ra rb || (ra == rb && nat_lt a b)

-- for each index of `ranks`, in ascending order, the pair of its rank and the index; a missing rank counts as 0
abbrev pub ranked : List (Option ℕ) → List (ℕ × ℕ)
ranked ranks = map (λ x. (unwrap_or x.1 0, x.0)) (enumerate_from 0 ranks)

-- each index of `new` has the value in `ranks`, if there is one, and otherwise the value in `distances`; None if
-- neither has one
abbrev pub FillsIn : List (Option ℕ) → List (Option ℕ) → List (Option ℕ) → Type 0
FillsIn ranks distances new =
    EachIndex new (λ k. slice_index_or new k None
    ≡ option_or (slice_index_or ranks k None) (slice_index_or distances k None))

-- `order` has each index of `ranks` once, in ascending order of rank and then of index. A missing rank counts as 0
pub record IsOrder (ranks : List (Option ℕ)) (order : List ℕ) : Type 0 where
  pub all : length order ≡ length ranks
  pub each : (i : ℕ) → i < length ranks → Contains order i
  pub within : (p : ℕ) → p < length order → slice_index order p < length ranks
  pub rises : (p q : ℕ) → p < q → q < length order → goes_before ranks (slice_index order p) (slice_index order q)
      ≡ true

-- `positions` has for each index its position in `order`
pub record ArePositions (order positions : List ℕ) : Type 0 where
  pub all : length positions ≡ length order
  pub position : (p : ℕ) → p < length order → slice_index positions (slice_index order p) ≡ p
