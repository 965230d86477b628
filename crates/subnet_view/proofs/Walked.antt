-- Items of a list by index.
use Rattle.std.proofs.Common.{◌≡◌, ◌<◌, ◌≤◌, ◌+◌, ◌++◌, ℕ, List, [], ◌∷◌, map, refl, sym, ap, ◌∙◌, Bor, drop, length, get_or, add-one}
use Rattle.std.proofs.lemmas.Option.{slice_get_past, slice_get-get_or}
use Rattle.std.proofs.lemmas.List.{append_assoc, append-nil}
use Rattle.std.proofs.Math.ListN.{drop_of_length-le}
use Rattle.std.proofs.Math.Seq.{drop-cons}
use Rattle.std.specs.Prelude.{Contains, Option, None, Some, slice_get}
use Rattle.std.specs.Option.{option_copied}
use Rattle.std.specs.Slice.{IsItemAt}
use Rattle.smp_bytes.proofs.Members.{contains_here, contains_later}

-- the rest begins with the element at the index
pub next_item : {X : Type 0} (xs : List X) (i : ℕ) (x : X) → i < length xs → x ≡ get_or xs i x → drop i xs ≡ x ∷ drop (i + 1) xs
next_item xs i x h e = drop-cons xs i x h ∙ (λ j. sym e j ∷ drop (sym (add-one i) j) xs)

-- what was made of the items so far, with what is made of those to come, is made of all
abbrev pub IsMapped : {X Y : Type 0} → (X → Y) → List X → List Y → ℕ → Type 0
IsMapped f xs done i = done ++ map f (drop i xs) ≡ map f xs

-- one more item
pub mapped_more : {X Y : Type 0} (f : X → Y) (xs : List X) (done : List Y) (i : ℕ) (x : X) → i < length xs → x ≡ get_or xs i x → IsMapped f xs done i
    → IsMapped f xs (done ++ f x ∷ []) (i + 1)
mapped_more f xs done i x h is e =
    append_assoc done (f x ∷ []) (map f (drop (i + 1) xs)) ∙ sym (ap (λ ys. done ++ map f ys) (next_item xs i x h is)) ∙ e

-- after the last item all is made
pub mapped_all : {X Y : Type 0} (f : X → Y) (xs : List X) (done : List Y) (i : ℕ) → length xs ≤ i → IsMapped f xs done i → done ≡ map f xs
mapped_all f xs done i h e = sym (append-nil done) ∙ sym (ap (λ ys. done ++ map f ys) (drop_of_length-le xs h)) ∙ e

-- what is copied is the item at the index
pub copied_item : {X : Type 0} (xs : List X) (i : ℕ) (o : Option (Bor X)) → IsItemAt xs i o → option_copied o ≡ slice_get xs i
copied_item xs i None h = sym (slice_get_past xs i h.3)
copied_item {X} xs i (Some x) h = sym (slice_get-get_or xs i x.now h.3.0 ∙ ap (λ (y : X). Some y) (sym (h.3.1 x.now)))

-- a map is that of another function that gives the same
pub map_same : {X Y : Type 0} (f g : X → Y) (xs : List X) → ((x : X) → Contains xs x → f x ≡ g x) → map f xs ≡ map g xs
map_same f g [] h = refl
map_same f g (x ∷ xs) h = let first = h x (contains_here x xs) in let rest = map_same f g xs (λ y k. h y (contains_later x y xs k)) in λ i. first i ∷ rest i
