-- Walks that have reached their ends, or go on.
use Rattle.std.proofs.Common.{◌≡◌, ℕ, zero, suc, ◌+◌, ◌<◌, ◌≤◌, true, false, cond, List, [], ◌∷◌, length, refl, sym, ap, ◌∙◌, arith, inl, inr}
use Rattle.std.specs.Prelude.{map, count_by, slice_index_or}
use Rattle.std.proofs.lemmas.Bool.{cases_lt}
use Rattle.std.proofs.lemmas.List.Sums.{sum_by-cons}
use Rattle.packet_walks.specs.declared.packet_end.End.{End}
use Rattle.packet_walks.specs.declared.next_hop.NextHop.{NextHop}
use Rattle.packet_walks.specs.declared.next_hop.NextHop.TheVariants.{To, Ends}
use Rattle.packet_walks.specs.EndsBySwitch.{onward, after, IsEndOf, is_to, end_of, HaveEnded, AreAfter}

-- steps in turn
pub after_add : (m n : ℕ) (steps : List NextHop) (s : NextHop) → after (m + n) steps s ≡ after n steps (after m steps s)
after_add zero n steps s = let e : 0 + n ≡ n = omega arith in ap (λ k. after k steps s) e
after_add (suc m) n steps s =
    let e : suc m + n ≡ suc (m + n) = omega arith in
    ap (λ k. after k steps s) e ∙ after_add m n steps (onward steps s)

pub after_ended : (n : ℕ) (steps : List NextHop) (e : End) → after n steps (Ends e) ≡ Ends e
after_ended zero steps e = refl
after_ended (suc n) steps e = after_ended n steps e

-- the element at an index of a list, and of the mapped list
pub within : (f : NextHop → NextHop) (xs : List NextHop) (i : ℕ) (d : NextHop) → i < length xs → slice_index_or (map f xs) i d ≡ f (slice_index_or xs i d)
within f [] i d h = absurd (omega arith)
within f (x ∷ xs) zero d h = refl
within f (x ∷ xs) (suc i) d h = within f xs i d (omega arith)

pub past : (xs : List NextHop) (i : ℕ) (d : NextHop) → length xs ≤ i → slice_index_or xs i d ≡ d
past [] i d h = refl
past (x ∷ xs) zero d h = absurd (omega arith)
past (x ∷ xs) (suc i) d h = past xs i d (omega arith)

pub long : (f : NextHop → NextHop) (xs : List NextHop) → length (map f xs) ≡ length xs
long f [] = refl
long f (x ∷ xs) = ap suc (long f xs)

-- counting those that have not ended
abbrev pub one : NextHop → ℕ
one (To i) = 1
one (Ends e) = 0

pub one_is : (x : NextHop) → one x ≡ cond (is_to x) 1 0
one_is (To i) = refl
one_is (Ends e) = refl

pub one_most : (x : NextHop) → one x ≤ 1
one_most (To i) = omega arith
one_most (Ends e) = omega arith

abbrev pub tos : List NextHop → ℕ
tos [] = 0
tos (x ∷ xs) = one x + tos xs

pub tos_count : (xs : List NextHop) → tos xs ≡ count_by is_to xs
tos_count [] = refl
tos_count (x ∷ xs) =
    ap (λ n. one x + n) (tos_count xs) ∙ ap (λ n. n + count_by is_to xs) (one_is x) ∙ sym (sum_by-cons (λ (y : NextHop). cond (is_to y) 1 0) x xs)

-- a walk that has ended stays so
pub stays_ended : (jumps : List NextHop) (x : NextHop) → is_to (onward jumps x) ≡ true → is_to x ≡ true
stays_ended jumps (To i) h = refl
stays_ended jumps (Ends e) h = cc

pub head_less : (x y : NextHop) → (is_to y ≡ true → is_to x ≡ true) → one y ≤ one x
head_less (To i) y h = one_most y
head_less (Ends e) (To j) h = let over : false ≡ true = h refl in cc
head_less (Ends e) (Ends k) h = omega arith

pub tos_less : (f : NextHop → NextHop) (xs : List NextHop) → ((x : NextHop) → is_to (f x) ≡ true → is_to x ≡ true) → tos (map f xs) ≤ tos xs
tos_less f [] h = omega arith
tos_less f (x ∷ xs) h = omega (arith, head_less x (f x) (h x), tos_less f xs h)

pub head_same : (x y : NextHop) → one y ≡ one x → is_to x ≡ true → is_to y ≡ true
head_same x (To j) e h = refl
head_same (To i) (Ends k) e h = absurd (omega arith)
head_same (Ends m) (Ends k) e h = cc

-- if the number of walks that have not ended stays, these are the same walks
pub same_left : (f : NextHop → NextHop) (xs : List NextHop) (i : ℕ) (d : NextHop) → ((x : NextHop) → is_to (f x) ≡ true → is_to x ≡ true) → tos (map f xs)
    ≡ tos xs
    → i < length xs → is_to (slice_index_or xs i d) ≡ true → is_to (f (slice_index_or xs i d)) ≡ true
same_left f [] i d h e less on = absurd (omega arith)
same_left f (x ∷ xs) zero d h e less on = head_same x (f x) (omega (arith, e, head_less x (f x) (h x), tos_less f xs h)) on
same_left f (x ∷ xs) (suc i) d h e less on = same_left f xs i d h (omega (arith, e, head_less x (f x) (h x), tos_less f xs h)) (omega arith) on

pub none_left : (xs : List NextHop) (i : ℕ) (d : NextHop) → tos xs ≡ 0 → i < length xs → is_to (slice_index_or xs i d) ≡ true → ⊥
none_left [] i d e less on = absurd (omega arith)
none_left (To j ∷ xs) zero d e less on = omega (arith, e)
none_left (Ends k ∷ xs) zero d e less on = cc
none_left (x ∷ xs) (suc i) d e less on = none_left xs i d (omega (arith, e)) (omega arith) on

-- walks that go on --------------------------------------------------------------------

-- a walk that has not ended after some steps has not ended before
pub earlier : (m n : ℕ) (steps : List NextHop) (s : NextHop) → is_to (after (m + n) steps s) ≡ true → is_to (after m steps s) ≡ true
earlier m n steps s h =
    elim (after m steps s) as (λ r. after m steps s ≡ r → is_to r ≡ true) [
      | To i ↦ λ e. refl
      | Ends x ↦ λ e. let over : is_to (after (m + n) steps s) ≡ false = ap is_to (after_add m n steps s ∙ ap (after n steps) e ∙ after_ended n steps x) in cc
    ] refl

-- walks that go on do so from the next switch too
abbrev pub GoOn : List NextHop → List NextHop → Type 0
GoOn steps jumps = (s : NextHop) → is_to (onward jumps s) ≡ true → is_to (onward jumps (onward steps s)) ≡ true

to_itself : (steps jumps : List NextHop) (i : ℕ) → length jumps ≡ length steps → length jumps ≤ i → onward steps (To i) ≡ To i
to_itself steps jumps i e h = past steps i (To i) (omega (arith, e))

pub over_none : (steps jumps : List NextHop) → length jumps ≡ length steps → tos jumps ≡ 0 → GoOn steps jumps
over_none steps jumps as_many e (Ends x) h = cc
over_none steps jumps as_many e (To i) h =
    elim (cases_lt i (length jumps)) [
      | inl less ↦ absurd (none_left jumps i (To i) e less h)
      | inr more ↦ ap (λ r. is_to (onward jumps r)) (to_itself steps jumps i as_many more) ∙ h
    ]

for_ever : (steps jumps : List NextHop) → GoOn steps jumps → (n : ℕ) (s : NextHop) → is_to (onward jumps s) ≡ true → (i : ℕ) × (after n steps s ≡ To i)
for_ever steps jumps on zero (To i) h = (i, refl)
for_ever steps jumps on zero (Ends x) h = absurd (cc)
for_ever steps jumps on (suc n) s h = for_ever steps jumps on n (onward steps s) (on s h)

pub have_ended : (steps jumps : List NextHop) (m : ℕ) → AreAfter steps jumps m → GoOn steps jumps → HaveEnded steps jumps
have_ended steps jumps m are on = record {
  as_many = are.as_many;
  ended = λ s. (elim (onward jumps s) as (λ r. onward jumps s ≡ r → IsEndOf steps s (end_of r)) [
    | To i ↦ λ e. λ n. for_ever steps jumps on n s (ap is_to e)
    | Ends x ↦ λ e. (m, sym (are.onward_is s) ∙ e)
  ] refl);
}
