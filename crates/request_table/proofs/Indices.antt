-- An item's index in an ordered list, and what is found there.
use Rattle.std.proofs.Common.{◌≡◌, ℕ, zero, suc, ◌<◌, Bool, true, false, List, [], ◌∷◌, ◌++◌, append-nil}
use Rattle.std.proofs.Common.{refl, arith, sym, ◌∙◌, subst}
use Rattle.std.specs.Prelude.{Option, Some, None, find, slice_get, if◌then◌else◌}
use Rattle.std.specs.List.{AllByRecursion}
use Rattle.std.proofs.lemmas.Bool.{cond-true, cond-false}
use Rattle.request_table.specs.Order.{AreOrdered, IsIndex}

pub some_is : {T : Type 0} (a b : T) → Some a ≡ Some b → a ≡ b
some_is a b e = cc

-- lists by recursion -------------------------------------------------------------------------

pub all_at : {T : Type 0} (P : T → Type 0) (xs : List T) (i : ℕ) (x : T) → AllByRecursion P xs → slice_get xs i ≡ Some x → P x
all_at P [] i x all at = absurd (cc)
all_at P (y ∷ ys) zero x all at = subst P (some_is y x at) all.0
all_at P (y ∷ ys) (suc i) x all at = all_at P ys i x all.1 at

pub all_map : {T : Type 0} (P Q : T → Type 0) → ((x : T) → P x → Q x) → (xs : List T) → AllByRecursion P xs → AllByRecursion Q xs
all_map P Q f [] all = tt
all_map P Q f (x ∷ xs) all = (f x all.0, all_map P Q f xs all.1)

-- an earlier one is related to a later one
pub ordered_at : {T : Type 0} (R : T → T → Type 0) (xs : List T) (i j : ℕ) (x y : T) → AreOrdered R xs → i < j → slice_get xs i ≡ Some x → slice_get xs j
    ≡ Some y → R x y
ordered_at R [] i j x y ordered lt at later = absurd (cc)
ordered_at R (z ∷ zs) i zero x y ordered lt at later = absurd (omega arith)
ordered_at {T} R (z ∷ zs) zero (suc j) x y ordered lt at later = subst (λ (w : T). R w y) (some_is z x at) (all_at (R z) zs j y ordered.0 later)
ordered_at R (z ∷ zs) (suc i) (suc j) x y ordered lt at later = ordered_at R zs i j x y ordered.1 (omega arith) at later

pub none_found : {T : Type 0} (p : T → Bool) (xs : List T) → AllByRecursion (λ x. p x ≡ false) xs → find p xs ≡ None
none_found p [] all = refl
none_found p (x ∷ xs) all = cond-false _ _ _ all.0 ∙ none_found p xs all.1

-- an index -----------------------------------------------------------------------------------

-- of a longer list's index, that in its tail
pub index_tail : {T : Type 0} (test : T → Bool) (x : T) (xs : List T) (i : ℕ) → IsIndex test (x ∷ xs) (suc i) → IsIndex test xs i
index_tail test x xs i p =
    record {
      within = omega (arith, p.within);
      parts = (λ k d l h. p.parts.0 (suc k) d (omega arith) (omega (arith, h)), λ k d l h. p.parts.1 (suc k) d (omega (arith, l)) (omega (arith, h)));
    }

pub index_head : {T : Type 0} (test : T → Bool) (x : T) (xs : List T) (i : ℕ) → IsIndex test (x ∷ xs) (suc i) → test x ≡ true
index_head test x xs i p = p.parts.0 0 x (omega arith) (omega arith)

pub index_here : {T : Type 0} (test : T → Bool) (x : T) (xs : List T) → IsIndex test (x ∷ xs) 0 → test x ≡ false
index_here test x xs p = p.parts.1 0 x (omega arith) (omega arith)

-- the item if it passes
abbrev pub if_passes : {T : Type 0} → (T → Bool) → Option T → Option T
if_passes p None = None
if_passes p (Some x) = if p x then Some x else None

-- What passes the one test is found at the index of the other: before it nothing passes, and behind one that does not pass
-- there nothing does. The list may go on behind what is looked through.
pub found_in_first : {T : Type 0} (R : T → T → Type 0) (test p : T → Bool) → ((x : T) → test x ≡ true → p x ≡ false)
    → ((x y : T) → test x ≡ false → p x ≡ false → R x y → p y ≡ false) → (xs ys : List T) (i : ℕ) → AreOrdered R xs → IsIndex test (xs ++ ys) i → find p xs
    ≡ if_passes p (slice_get xs i)
found_in_first R test p before behind [] ys i ordered index = refl
found_in_first R test p before behind (x ∷ xs) ys zero ordered index = by (p x) refl
  where
    by : (b : Bool) → p x ≡ b → find p (x ∷ xs) ≡ if_passes p (Some x)
    by true e = cond-true _ _ _ e ∙ sym (cond-true _ _ _ e)
    by false e =
        cond-false _ _ _ e
        ∙ none_found p xs (all_map (R x) (λ y. p y ≡ false) (λ y r. behind x y (index_here test x (xs ++ ys) index) e r) xs ordered.0)
        ∙ sym (cond-false _ _ _ e)
found_in_first R test p before behind (x ∷ xs) ys (suc i) ordered index =
    cond-false _ _ _ (before x (index_head test x (xs ++ ys) i index))
    ∙ found_in_first R test p before behind xs ys i ordered.1 (index_tail test x (xs ++ ys) i index)

pub found_at_index : {T : Type 0} (R : T → T → Type 0) (test p : T → Bool) → ((x : T) → test x ≡ true → p x ≡ false)
    → ((x y : T) → test x ≡ false → p x ≡ false → R x y → p y ≡ false) → (xs : List T) (i : ℕ) → AreOrdered R xs → IsIndex test xs i → find p xs
    ≡ if_passes p (slice_get xs i)
found_at_index R test p before behind xs i ordered index =
    found_in_first R test p before behind xs [] i ordered (subst (λ l. IsIndex test l i) (sym (append-nil xs)) index)
