-- How many keys a binary search in a store compares, and how many comparisons a walk through two stores at once
-- makes.
use Rattle.std.specs.Prelude.{◌≡◌, ℕ, zero, suc, ◌+◌, ◌<◌, ◌≤◌, ◌^◌, List, [], ◌∷◌, length, slice_get, Some}
use Rattle.std.specs.declared.cmp.Ordering.{Ordering}
use Rattle.std.specs.declared.cmp.Ordering.TheVariants.{Less, Equal, Greater}
use Rattle.fact_join.specs.declared.cell.Cell.{Cell}
use Rattle.reply_facts.specs.declared.key.Key.{Key}
use Rattle.reply_facts.specs.declared.value.Value.{Value}
use Rattle.reply_facts.specs.Key.{key_cmp}

-- a search: -----------------------------------------------------------------------

-- a search for `key` that has compared the keys `compared`, latest first, is left with the indices from `low` up to,
-- but not including, `high`. Each compared key was at an index that was left at that time. If it was less than `key`,
-- the indices after it were left; if it was greater, the indices before it
pub data Leaves (key : Key) (cells : List (Key × Cell Value)) : List Key → ℕ → ℕ → Type 0 where
  all : Leaves key cells [] 0 (length cells)
  later : (compared : List Key) (low high index : ℕ) (e : Key × Cell Value) → Leaves key cells compared low high → low
      ≤ index → index < high
      → slice_get cells index ≡ Some e → key_cmp e.0 key ≡ Less → Leaves key cells (e.0 ∷ compared) (index + 1) high
  earlier : (compared : List Key) (low high index : ℕ) (e : Key × Cell Value) → Leaves key cells compared low high → low
      ≤ index → index < high
      → slice_get cells index ≡ Some e → key_cmp e.0 key ≡ Greater → Leaves key cells (e.0 ∷ compared) low index

-- `compared` are the keys that a search for `key` compares, latest first. The search ends if no index is left, or if it
-- compares an equal key at an index that is left
pub data IsSearch (key : Key) (cells : List (Key × Cell Value)) : List Key → Type 0 where
  without : (compared : List Key) (low high : ℕ) → Leaves key cells compared low high → high ≤ low
      → IsSearch key cells compared
  with_key : (compared : List Key) (low high index : ℕ) (e : Key × Cell Value) → Leaves key cells compared low high
      → low ≤ index → index < high
      → slice_get cells index ≡ Some e → key_cmp e.0 key ≡ Equal → IsSearch key cells (e.0 ∷ compared)

-- a search for `key` in `cells` compares `steps` keys
pub record CountsSearch (key : Key) (cells : List (Key × Cell Value)) (steps : ℕ) : Type 0 where
  pub compared : List Key
  pub is_search : IsSearch key cells compared
  pub counted : steps ≡ length compared

-- `n` has at least `digits` binary digits; 0 has none
abbrev pub HasDigits : ℕ → ℕ → Type 0
HasDigits n zero = Unit {0}
HasDigits n (suc digits) = 2 ^ digits ≤ n

-- a search of `n` indices that has made `steps` comparisons may make `left` more. `n` has at least `steps + left`
-- binary digits. `left` comparisons suffice for `most` indices, and `most` is 2^left - 1
pub record IsBudget (n steps most : ℕ) : Type 0 where
  pub left : ℕ
  pub digits : HasDigits n (steps + left)
  pub full : most + 1 ≡ 2 ^ left

-- a walk through two lists at once: ------------------------------------------------

-- `less`, `equal` or `greater`, whichever belongs to the ordering
abbrev pub by_order : Ordering → ℕ → ℕ → ℕ → ℕ
by_order Less less equal greater = less
by_order Equal less equal greater = equal
by_order Greater less equal greater = greater

-- how many comparisons a walk through two lists makes, starting at the cell `x` of the first list; 0 if the second
-- list is empty. The key of `x` is compared with the next key of the second list. The lesser key is passed, or both
-- if they are equal. `after` counts the comparisons after `x` is passed
abbrev pub compared_at : Key × Cell Value → (List (Key × Cell Value) → ℕ) → List (Key × Cell Value) → ℕ
compared_at x after [] = 0
compared_at x after (y ∷ t) = 1 + by_order (key_cmp x.0 y.0) (after (y ∷ t)) (after t) (compared_at x after t)

-- how many comparisons a walk through two lists at once makes: the next keys of both lists are compared until one
-- list ends
abbrev pub compared_by_walk : List (Key × Cell Value) → List (Key × Cell Value) → ℕ
compared_by_walk [] t = 0
compared_by_walk (x ∷ s) t = compared_at x (compared_by_walk s) t
