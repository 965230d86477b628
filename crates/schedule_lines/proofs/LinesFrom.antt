-- Lines that are printed one after the other: the first, and those that are left.
use Rattle.std.proofs.Common.{◌≡◌, ◌∙◌, [], ◌∷◌, ◌++◌, map, ℕ, suc, ◌+◌, ◌/◌, ◌<◌, ◌≤◌, List, Some, length, get_or, drop, add-one, refl, sym, ap, arith}
use Rattle.std.specs.Prelude.{slice_get}
use Rattle.std.specs.List.{flat_map}
use Rattle.std.proofs.lemmas.Option.{get_or_from_slice_get, slice_get-get_or, slice_get_read, slice_get_within}
use Rattle.std.proofs.lemmas.List.FromFn.{get_or-range_with_len, length-range_with_len}
use Rattle.std.proofs.Math.Seq.{drop-cons}
use Rattle.std.proofs.Math.ListN.{drop_of_length-le}
use Rattle.schedule_lines.specs.Outcome.{Outcome, and_then, quiet, shows}
use Rattle.schedule_lines.specs.Tables.{blocks_to}

-- the lines from an index on
abbrev pub lines_from : {X : Type 0} → (X → List ℕ) → List X → ℕ → Outcome (Unit {0})
lines_from line xs i = shows (flat_map line (drop i xs)) tt

pub lines_next : {X : Type 0} (line : X → List ℕ) (xs : List X) (i : ℕ) (x : X) → slice_get xs i ≡ Some x
    → lines_from line xs i ≡ and_then (shows (line x) tt) (λ u. lines_from line xs (i + 1))
lines_next line xs i x there =
    let at : drop i xs ≡ x ∷ drop (i + 1) xs = drop-cons xs i x (slice_get_within xs i x there)
    ∙ ap (λ y. y ∷ drop (suc i) xs) (get_or_from_slice_get xs i x x there) ∙ ap (λ n. x ∷ drop n xs) (sym (add-one i)) in
    ap (λ ys. shows (flat_map line ys) tt) at

pub lines_at : {X : Type 0} (line : X → List ℕ) (xs : List X) (i : ℕ) (x : X) → i < length xs → x ≡ get_or xs i x
    → lines_from line xs i ≡ and_then (shows (line x) tt) (λ u. lines_from line xs (i + 1))
lines_at line xs i x h e = lines_next line xs i x (slice_get_read xs (length xs) i x refl h e)

pub lines_none : {X : Type 0} (line : X → List ℕ) (xs : List X) (i : ℕ) → length xs ≤ i → lines_from line xs i ≡ quiet tt
lines_none line xs i h = ap (λ ys. shows (flat_map line ys) tt) (drop_of_length-le xs h)

-- blocks of tables -------------------------------------------------------------------------------------------------

pub block_there : (top b : ℕ) → b < top / 64 + 1 → slice_get (blocks_to top) b ≡ Some b
block_there top b h =
    let n = top / 64 + 1 in
    let zero_more : 0 + b ≡ b = omega arith in
    slice_get-get_or (blocks_to top) b 0 (omega (arith, length-range_with_len 0 n)) ∙ ap (λ x. Some x) (get_or-range_with_len 0 n b 0 h ∙ zero_more)

pub blocks_many : (top b : ℕ) → top / 64 + 1 ≤ b → length (blocks_to top) ≤ b
blocks_many top b h = omega (arith, length-range_with_len 0 (top / 64 + 1))

-- lines of what a function tells
pub flat_map_map : {X Y A : Type 0} (f : Y → List A) (g : X → Y) (xs : List X) → flat_map (λ x. f (g x)) xs ≡ flat_map f (map g xs)
flat_map_map f g [] = refl
flat_map_map f g (x ∷ xs) = ap (λ t. f (g x) ++ t) (flat_map_map f g xs)
