-- The floor of a set of facts: the least generation that is not forgotten. Cells of lower generations are dropped.
use Rattle.std.proofs.Common.{◌≡◌, ℕ, Bool, true, false, List, [], ◌∷◌, ◌&&◌, cond, refl, sym, subst, arith}
use Rattle.std.proofs.lemmas.Bool.{le-leb}
use Rattle.std.specs.Prelude.{T, nat_le, max, filter, Option, None, Some, if◌then◌else◌}
use Rattle.std.specs.List.{list_all}
use Rattle.std.specs.FinMap.{entries, entries_sorted, from_sorted, entries-from_sorted}
use Rattle.std.specs.FinMap.Entries.{below_all, is_sorted}
use Rattle.fact_join.specs.declared.cell.Cell.{Cell}
use Rattle.fact_join.specs.Cell.{generation_of}
use Rattle.reply_facts.specs.declared.key.Key.{Key}
use Rattle.reply_facts.specs.declared.value.Value.{Value}
use Rattle.reply_facts.specs.Key.{key_cmp}
use Rattle.fact_store.specs.Seen.{CellMap}

-- whether the cell `c` is at `floor` or above it; generations begin at 1, and 0 counts as 1
abbrev pub is_kept : ℕ → Cell Value → Bool
is_kept floor c = nat_le floor (max 1 (generation_of c))

-- the sightings whose cells are at `floor` or above it, in the order of `sightings`
abbrev pub kept : ℕ → List (Key × Cell Value) → List (Key × Cell Value)
kept floor sightings = filter (λ s. is_kept floor s.1) sightings

-- the cell, if there is one and it is at `floor` or above it; otherwise None
abbrev pub kept_there : ℕ → Option (Cell Value) → Option (Cell Value)
kept_there floor None = None
kept_there floor (Some c) = if is_kept floor c then Some c else None

-- whether `floor` is at least 1, and no cell of `found` is below it
abbrev pub has_floor : ℕ → CellMap → Bool
has_floor floor found = nat_le 1 floor && list_all (λ e. is_kept floor e.1) (entries found)

-- the map `found` without its cells below `floor`
abbrev pub dropped : ℕ → CellMap → CellMap
dropped floor found = from_sorted (kept floor (entries found))

-- dropping leaves no cell below the floor: ---------------------------------------------

-- if both tests hold, their conjunction does
both_true : (a b : Bool) → T a → T b → T (a && b)
both_true true b g h = h
both_true false b g h = absurd g

-- if a conjunction holds, its first test holds
first_true : (a b : Bool) → T (a && b) → T a
first_true true b h = tt
first_true false b h = absurd h

-- if a conjunction holds, its second test holds
second_true : (a b : Bool) → T (a && b) → T b
second_true true b h = h
second_true false b h = absurd h

-- if the key `k` comes before all keys of `es`, it comes before all keys that are kept at `floor`
below_kept : (floor : ℕ) (k : Key) (es : List (Key × Cell Value)) → T (below_all key_cmp k es)
    → T (below_all key_cmp k (kept floor es))
below_kept floor k [] h = tt
below_kept floor k (e ∷ es) h =
    let rest = below_kept floor k es (second_true _ _ h) in
    elim (is_kept floor e.1) as (λ b. T (below_all key_cmp k (cond b (e ∷ kept floor es) (kept floor es))))
    [ true ↦ both_true _ _ (first_true _ _ h) rest | false ↦ rest ]

-- if the keys of `es` rise, those that are kept at `floor` rise
pub rising_kept : (floor : ℕ) (es : List (Key × Cell Value)) → T (is_sorted key_cmp es)
    → T (is_sorted key_cmp (kept floor es))
rising_kept floor [] h = tt
rising_kept floor (e ∷ es) h =
    let rest = rising_kept floor es (second_true _ _ h) in
    elim (is_kept floor e.1) as (λ b. T (is_sorted key_cmp (cond b (e ∷ kept floor es) (kept floor es)))) [
      | true ↦ both_true _ _ (below_kept floor e.0 es (first_true _ _ h)) rest
      | false ↦ rest
    ]

-- if a map is dropped to `floor`, its entries are those that are kept at `floor`
pub entries-dropped : (floor : ℕ) (found : CellMap) → entries (dropped floor found) ≡ kept floor (entries found)
entries-dropped floor found =
    entries-from_sorted key_cmp (kept floor (entries found)) (rising_kept floor (entries found) (entries_sorted found))

-- each entry that is kept at `floor` passes `is_kept`
pub all_kept : (floor : ℕ) (es : List (Key × Cell Value)) → T (list_all (λ e. is_kept floor e.1) (kept floor es))
all_kept floor [] = tt
all_kept floor (e ∷ es) =
    let rest = all_kept floor es in
    elim (is_kept floor e.1) as (λ b. is_kept floor e.1 ≡ b
    → T (list_all (λ x. is_kept floor x.1) (cond b (e ∷ kept floor es) (kept floor es)))) [
      | true ↦ λ p. both_true _ _ (subst T (sym p) tt) rest
      | false ↦ λ p. rest
    ] refl

-- the greater of a floor and 1 is at least 1
at_least_one : (floor : ℕ) → T (nat_le 1 (max 1 floor))
at_least_one floor = subst T (sym (le-leb 1 (max 1 floor) (omega arith))) tt

-- let a floor be the greater of `floor` and 1. The map `found` without the cells below it has that floor (`has_floor`)
pub dropped_has_floor : (floor : ℕ) (found : CellMap) → T (has_floor (max 1 floor) (dropped (max 1 floor) found))
dropped_has_floor floor found =
    both_true _ _ (at_least_one floor)
    (subst (λ (es : List (Key × Cell Value)). T (list_all (λ e. is_kept (max 1 floor) e.1) es))
    (sym (entries-dropped (max 1 floor) found)) (all_kept (max 1 floor) (entries found)))
