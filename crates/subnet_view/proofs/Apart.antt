-- Lists without duplicates: they split in one way at an element, and a map of them tells their elements apart.
use Rattle.std.proofs.Common.{◌≡◌, List, [], ◌∷◌, ◌++◌, ◌⊎◌, inl, inr, refl, sym, ap, ◌∙◌, Bool, true, false, cond, map}
use Rattle.std.proofs.lemmas.List.Elements.{Contains-append_right}
use Rattle.std.specs.Prelude.{Contains, Some}
use Rattle.std.specs.List.{find}
use Rattle.subnet_view.proofs.Members.{contains_here, contains_later, contains_cases, contains_none, contains_as, contains_first, contains_in}

abbrev pub Apart : {X : Type 0} → List X → Type 0
Apart [] = Unit {0}
Apart (x ∷ xs) = (Contains xs x → ⊥) × Apart xs

module _ {X : Type 0} where
  pub contains_at : (before after : List X) (x : X) → Contains (before ++ x ∷ after) x
  contains_at before after x = Contains-append_right before (x ∷ after) x (contains_here x after)

  pub split_at : (xs : List X) (x : X) → Contains xs x → (before : List X) × (after : List X) × (xs ≡ before ++ x ∷ after)
  split_at [] x h = absurd (contains_none x h)
  split_at (y ∷ xs) x h =
      elim (contains_cases y x xs h) [
        | inl e ↦ ([], xs, ap (λ z. z ∷ xs) e)
        | inr k ↦ let i = split_at xs x k in (y ∷ i.0, i.1, ap (λ zs. y ∷ zs) i.2)
      ]

  -- there is one split at an element
  pub split_once : (a b c d : List X) (x : X) → Apart (a ++ x ∷ b) → a ++ x ∷ b ≡ c ++ x ∷ d → a ≡ c
  split_once [] b [] d x h e = refl
  split_once [] b (y ∷ c) d x h e =
      let t : b ≡ c ++ x ∷ d = cc in
      absurd (h.0 (contains_in x (sym t) (contains_at c d x)))
  split_once (y ∷ a) b [] d x h e =
      let t : x ≡ y = cc in
      absurd (h.0 (contains_as (a ++ x ∷ b) t (contains_at a b x)))
  split_once (y ∷ a) b (z ∷ c) d x h e =
      let s : y ≡ z = cc in
      let t : a ++ x ∷ b ≡ c ++ x ∷ d = cc in
      cc (split_once a b c d x h.1 t)

  pub before_apart : (before after : List X) (x : X) → Apart (before ++ x ∷ after) → Contains before x → ⊥
  before_apart [] after x a h = contains_none x h
  before_apart (y ∷ before) after x a h =
      elim (contains_cases y x before h) [
        | inl e ↦ a.0 (contains_as (before ++ x ∷ after) (sym e) (contains_at before after x))
        | inr k ↦ before_apart before after x a.1 k
      ]

  -- what `find` finds is there and passes
  pub found_there : (p : X → Bool) (xs : List X) (x : X) → find p xs ≡ Some x → Contains xs x × (p x ≡ true)
  found_there p [] x e = absurd (cc)
  found_there p (y ∷ xs) x e =
      elim (p y) as (λ t. p y ≡ t → cond t (Some y) (find p xs) ≡ Some x → Contains (y ∷ xs) x × (p x ≡ true)) [
        | true ↦ λ q k. let i : y ≡ x = cc in (contains_first xs i, ap p (sym i) ∙ q)
        | false ↦ λ q k. let i = found_there p xs x k in (contains_later y x xs i.0, i.1)
      ] refl e

  -- the only one that passes is found
  pub find_only : (p : X → Bool) (xs : List X) (x : X) → Contains xs x → p x ≡ true → ((y : X) → Contains xs y → p y ≡ true → y ≡ x) → find p xs ≡ Some x
  find_only p [] x h e only = absurd (contains_none x h)
  find_only p (y ∷ xs) x h e only =
      elim (p y) as (λ t. p y ≡ t → cond t (Some y) (find p xs) ≡ Some x) [
        | true ↦ λ q. ap (λ (z : X). Some z) (only y (contains_here y xs) q)
        | false ↦ λ q. (elim (contains_cases y x xs h) [
          | inl i ↦ absurd (cc (ap p i))
          | inr k ↦ find_only p xs x k e (λ z l. only z (contains_later y z xs l))
        ])
      ] refl

module _ {X Y : Type 0} (f : X → Y) where
  pub contains_map : (xs : List X) (x : X) → Contains xs x → Contains (map f xs) (f x)
  contains_map [] x h = absurd (contains_none x h)
  contains_map (y ∷ xs) x h =
      elim (contains_cases y x xs h) [
        | inl e ↦ contains_first (map f xs) (ap f e)
        | inr k ↦ contains_later (f y) (f x) (map f xs) (contains_map xs x k)
      ]

  pub contains-from_map : (xs : List X) (y : Y) → Contains (map f xs) y → (x : X) × Contains xs x × (f x ≡ y)
  contains-from_map [] y h = absurd (contains_none y h)
  contains-from_map (x ∷ xs) y h =
      elim (contains_cases (f x) y (map f xs) h) [
        | inl e ↦ (x, contains_here x xs, e)
        | inr k ↦ let i = contains-from_map xs y k in (i.0, contains_later x i.0 xs i.1, i.2)
      ]

  -- f tells the elements apart
  pub same_from_apart : (xs : List X) (x y : X) → Apart (map f xs) → Contains xs x → Contains xs y → f x ≡ f y → x ≡ y
  same_from_apart [] x y a h k e = absurd (contains_none x h)
  same_from_apart (z ∷ xs) x y a h k e =
      elim (contains_cases z x xs h) [
        | inl i ↦ (elim (contains_cases z y xs k) [
          | inl j ↦ sym i ∙ j
          | inr l ↦ absurd (a.0 (contains_as (map f xs) (sym e ∙ ap f (sym i)) (contains_map xs y l)))
        ])
        | inr l ↦ (elim (contains_cases z y xs k) [
          | inl j ↦ absurd (a.0 (contains_as (map f xs) (e ∙ ap f (sym j)) (contains_map xs x l)))
          | inr m ↦ same_from_apart xs x y a.1 l m e
        ])
      ]

  -- lists that f makes the same are the same where the second has the elements of the first
  pub same_from_members : (xs ys : List X) → map f xs ≡ map f ys → Apart (map f ys) → ((x : X) → Contains xs x → Contains ys x) → xs ≡ ys
  same_from_members [] [] e a has = refl
  same_from_members [] (y ∷ ys) e a has = absurd (cc)
  same_from_members (x ∷ xs) [] e a has = absurd (cc)
  same_from_members (x ∷ xs) (y ∷ ys) e a has =
      let first : f x ≡ f y = cc in
      let rest : map f xs ≡ map f ys = cc in
      let same = same_from_apart (y ∷ ys) x y a (has x (contains_here x xs)) (contains_here y ys) first in
      let later = same_from_members xs ys rest a.1 (λ z h. past z h (contains_cases y z ys (has z (contains_later x z xs h))) rest) in
      λ i. same i ∷ later i
    where
      past : (z : X) → Contains xs z → (y ≡ z) ⊎ Contains ys z → map f xs ≡ map f ys → Contains ys z
      past z h (inl e) rest = absurd (a.0 (contains_as (map f ys) (ap f (sym e)) (contains_in (f z) rest (contains_map xs z h))))
      past z h (inr k) rest = k

-- what a map tells apart is apart
pub apart-from_map : {X Y : Type 0} (f : X → Y) (xs : List X) → Apart (map f xs) → Apart xs
apart-from_map f [] a = tt
apart-from_map f (x ∷ xs) a = (λ h. a.0 (contains_map f xs x h), apart-from_map f xs a.1)
