-- The lists of followers of each channel, with one follower more.
use Rattle.std.proofs.Common.{◌≡◌, ◌<◌, ℕ, zero, suc, true, List, [], ◌∷◌, ◌++◌, length, replicate, refl, sym, ap, ◌∙◌, subst, arith, inl, inr, ◌⊎◌, slice_set}
use Rattle.std.specs.Prelude.{Contains, map, slice_index_or, ◌==◌}
use Rattle.std.specs.List.{list_any}
use Rattle.std.proofs.lemmas.Bool.{eqb-true, eq-eqb, cases_lt}
use Rattle.smp_bytes.proofs.Members.{contains_here, contains_later, contains_cases, contains_none}
use Rattle.audit_channels.specs.ChannelOrders.{AreWith, Follows, LeadToChannels, IsWith}
use Rattle.audit_channels.proofs.Passing.{found, list_any_true}

blank : (n i : ℕ) → slice_index_or (replicate {A = List ℕ} n []) i [] ≡ []
blank zero i = refl
blank (suc n) zero = refl
blank (suc n) (suc i) = blank n i

pub none_follows : (n : ℕ) → LeadToChannels (replicate n [])
none_follows n c next h = absurd (contains_none next (subst (λ (xs : List ℕ). Contains xs next) (blank n c) h))

-- a list with one more behind
behind : (xs : List ℕ) (y x : ℕ) → Contains (xs ++ y ∷ []) x → Contains xs x ⊎ (x ≡ y)
behind [] y x h = elim (contains_cases y x [] h) [ inl e ↦ inr (sym e) | inr l ↦ absurd (contains_none x l) ]
behind (z ∷ xs) y x h =
    elim (contains_cases z x (xs ++ y ∷ []) h) [
      | inl e ↦ inl (subst (λ (w : ℕ). Contains (z ∷ xs) w) e (contains_here z xs))
      | inr l ↦ (elim (behind xs y x l) [ inl m ↦ inl (contains_later z x xs m) | inr e ↦ inr e ])
    ]

before : (xs : List ℕ) (y x : ℕ) → Contains xs x → Contains (xs ++ y ∷ []) x
before [] y x h = absurd (contains_none x h)
before (z ∷ xs) y x h =
    elim (contains_cases z x xs h) [
      | inl e ↦ subst (λ (w : ℕ). Contains (z ∷ xs ++ y ∷ []) w) e (contains_here z (xs ++ y ∷ []))
      | inr l ↦ contains_later z x (xs ++ y ∷ []) (before xs y x l)
    ]

last : (xs : List ℕ) (y : ℕ) → Contains (xs ++ y ∷ []) y
last [] y = contains_here y []
last (z ∷ xs) y = contains_later z y (xs ++ y ∷ []) (last xs y)

-- a channel behind others
pub with_behind : (xs : List ℕ) (y : ℕ) → AreWith xs y (xs ++ y ∷ [])
with_behind xs y c = (behind xs y c, back)
  where
    back : Contains xs c ⊎ (c ≡ y) → Contains (xs ++ y ∷ []) c
    back (inl h) = before xs y c h
    back (inr e) = subst (λ (x : ℕ). Contains (xs ++ y ∷ []) x) (sym e) (last xs y)

-- a channel that is there already
with_there : (xs : List ℕ) (y : ℕ) → Contains xs y → AreWith xs y xs
with_there xs y there c = ((λ h. inl h), back)
  where
    back : Contains xs c ⊎ (c ≡ y) → Contains xs c
    back (inl h) = h
    back (inr e) = subst (λ (x : ℕ). Contains xs x) (sym e) there

pub with_found : (xs : List ℕ) (y : ℕ) → list_any (λ c. y == c) xs ≡ true → AreWith xs y xs
with_found xs y e =
    let f = found (λ c. y == c) xs e in
    let same : y ≡ f.x = eqb-true y f.x f.passes in with_there xs y (subst (λ (x : ℕ). Contains xs x) (sym same) f.there)

-- a channel that was found, or came, is found then
pub any_with : (old : List ℕ) (channel : ℕ) (new : List ℕ) → AreWith old channel new → (c : ℕ)
    → (list_any (λ x. c == x) old ≡ true) ⊎ (c ≡ channel) → list_any (λ x. c == x) new ≡ true
any_with old channel new with_it c (inl e) =
    let f = found (λ x. c == x) old e in list_any_true (λ x. c == x) new f.x ((with_it f.x).1 (inl f.there)) f.passes
any_with old channel new with_it c (inr e) = list_any_true (λ x. c == x) new c ((with_it c).1 (inr e)) (eq-eqb c c refl)

module _ {V : Type 0} (items : V → List ℕ) where
  long : (vs : List V) (i : ℕ) (v : V) → length (map items (slice_set vs i v)) ≡ length (map items vs)
  long [] i v = refl
  long (u ∷ vs) zero v = refl
  long (u ∷ vs) (suc i) v = ap suc (long vs i v)

  at_it : (vs : List V) (i : ℕ) (v : V) → i < length (map items vs) → slice_index_or (map items (slice_set vs i v)) i [] ≡ items v
  at_it [] i v h = absurd (omega arith)
  at_it (u ∷ vs) zero v h = refl
  at_it (u ∷ vs) (suc i) v h = at_it vs i v (omega arith)

  elsewhere : (vs : List V) (i k : ℕ) (v : V) → (k ≡ i → ⊥) → slice_index_or (map items (slice_set vs i v)) k [] ≡ slice_index_or (map items vs) k []
  elsewhere [] i k v h = refl
  elsewhere (u ∷ vs) zero zero v h = absurd (h refl)
  elsewhere (u ∷ vs) zero (suc k) v h = refl
  elsewhere (u ∷ vs) (suc i) zero v h = refl
  elsewhere (u ∷ vs) (suc i) (suc k) v h = elsewhere vs i k v (λ e. h (ap suc e))

  -- with one more that follows a channel
  pub is_with : (vs : List V) (channel next : ℕ) (v : V) → channel < length (map items vs)
      → AreWith (slice_index_or (map items vs) channel []) next (items v) → IsWith (map items vs) channel next (map items (slice_set vs channel v))
  is_with vs channel next v less with_it = record { as_many = long vs channel v; follows = λ a b. (there a b, back a b) }
    where
      here : (a : ℕ) → a ≡ channel → slice_index_or (map items (slice_set vs channel v)) a [] ≡ items v
      here a same = ap (λ (k : ℕ). slice_index_or (map items (slice_set vs channel v)) k []) same ∙ at_it vs channel v less

      was : (a : ℕ) → a ≡ channel → slice_index_or (map items vs) a [] ≡ slice_index_or (map items vs) channel []
      was a same = ap (λ (k : ℕ). slice_index_or (map items vs) k []) same

      either : (a : ℕ) → (a ≡ channel) ⊎ (a ≡ channel → ⊥)
      either a = elim (cases_lt a channel) [
        | inl l ↦ inr (λ same. omega arith)
        | inr m ↦ (elim (cases_lt channel a) [ inl l ↦ inr (λ same. omega arith) | inr n ↦ inl (omega arith) ])
      ]

      there : (a b : ℕ) → Follows (map items (slice_set vs channel v)) a b → Follows (map items vs) a b ⊎ ((a ≡ channel) × (b ≡ next))
      there a b h =
          elim (either a) [
            | inl same ↦ (elim ((with_it b).0 (subst (λ (xs : List ℕ). Contains xs b) (here a same) h)) [
              | inl old ↦ inl (subst (λ (xs : List ℕ). Contains xs b) (sym (was a same)) old)
              | inr new ↦ inr (same, new)
            ])
            | inr apart ↦ inl (subst (λ (xs : List ℕ). Contains xs b) (elsewhere vs channel a v apart) h)
          ]

      back : (a b : ℕ) → Follows (map items vs) a b ⊎ ((a ≡ channel) × (b ≡ next)) → Follows (map items (slice_set vs channel v)) a b
      back a b (inl old) =
          elim (either a) [
            | inl same ↦ subst (λ (xs : List ℕ). Contains xs b) (sym (here a same))
                ((with_it b).1 (inl (subst (λ (xs : List ℕ). Contains xs b) (was a same) old)))
            | inr apart ↦ subst (λ (xs : List ℕ). Contains xs b) (sym (elsewhere vs channel a v apart)) old
          ]
      back a b (inr new) = subst (λ (xs : List ℕ). Contains xs b) (sym (here a new.0)) ((with_it b).1 (inr new.1))

-- whatever follows is still a channel
pub leads_with : (old : List (List ℕ)) (channel next : ℕ) (new : List (List ℕ)) → LeadToChannels old → next < length old
    → IsWith old channel next new → LeadToChannels new
leads_with old channel next new leads less h c d f =
    let as_many = h.as_many in
    elim ((h.follows c d).0 f) [
      | inl was ↦ let within = leads c d was in omega arith
      | inr is ↦ let same = is.1 in omega arith
    ]

-- what stands at an index
pub at_item : {V : Type 0} (items : V → List ℕ) (vs : List V) (i : ℕ) (v : V) → i < length (map items vs) → v ≡ slice_index_or vs i v
    → items v ≡ slice_index_or (map items vs) i []
at_item items [] i v h e = absurd (omega arith)
at_item items (u ∷ vs) zero v h e = ap items e
at_item items (u ∷ vs) (suc i) v h e = at_item items vs i v (omega arith) e

-- the same put there again
pub same_there : {V : Type 0} (items : V → List ℕ) (vs : List V) (i : ℕ) (v : V) → i < length (map items vs) → items v ≡ slice_index_or (map items vs) i []
    → map items (slice_set vs i v) ≡ map items vs
same_there items [] i v h e = absurd (omega arith)
same_there items (u ∷ vs) zero v h e = ap (λ x. x ∷ map items vs) e
same_there items (u ∷ vs) (suc i) v h e = ap (λ x. items u ∷ x) (same_there items vs i v (omega arith) e)
