-- Numbers that rise, such as those that count up: the least that passes a test, and how many there are.
use Rattle.std.proofs.Common.{◌≡◌, ◌<◌, ◌≤◌, ◌+◌, ℕ, zero, suc, List, [], ◌∷◌, ◌++◌, ◌⊎◌, inl, inr, refl, sym, ap, ◌∙◌}
use Rattle.std.proofs.Common.{arith, Bool, true, false, cond, ◌==◌, length}
use Rattle.std.proofs.lemmas.Bool.{eqb-true, eqb-false}
use Rattle.std.proofs.lemmas.List.{length-append}
use Rattle.std.proofs.lemmas.List.Elements.{Contains-append_cases, Contains-append_left, Contains-append_right}
use Rattle.std.specs.Prelude.{Contains, None, Some, filter}
use Rattle.std.specs.List.{find}
use Rattle.lid_assign.specs.Lids.{count_up}
use Rattle.subnet_view.proofs.Apart.{Apart, split_at}
use Rattle.subnet_view.proofs.Members.{contains_here, contains_later, contains_cases, contains_none, contains-from_filter, contains_as, contains_in, contains_first}

abbrev pub Rising : List ℕ → Type 0
Rising [] = Unit {0}
Rising (n ∷ ns) = ((m : ℕ) → Contains ns m → n < m) × Rising ns

pub apart-from_rising : (ns : List ℕ) → Rising ns → Apart ns
apart-from_rising [] r = tt
apart-from_rising (n ∷ ns) r = (λ h. absurd (omega (arith, r.0 n h)), apart-from_rising ns r.1)

pub rising-filter : (p : ℕ → Bool) (ns : List ℕ) → Rising ns → Rising (filter p ns)
rising-filter p [] r = tt
rising-filter p (n ∷ ns) r =
    elim (p n) as (λ t. Rising (cond t (n ∷ filter p ns) (filter p ns))) [
      | true ↦ (λ m h. r.0 m (contains-from_filter p ns m h).0, rising-filter p ns r.1)
      | false ↦ rising-filter p ns r.1
    ]

pub within-count_up : (start n m : ℕ) → Contains (count_up start n) m → (start ≤ m) × (m < start + n)
within-count_up start zero m h = absurd (contains_none m h)
within-count_up start (suc n) m h =
    elim (contains_cases start m (count_up (suc start) n) h) [
      | inl e ↦ (omega arith, omega arith)
      | inr k ↦ let i = within-count_up (suc start) n m k in (omega arith, omega arith)
    ]

pub contains-count_up : (start n m : ℕ) → start ≤ m → m < start + n → Contains (count_up start n) m
contains-count_up start zero m h k = absurd (omega arith)
contains-count_up start (suc n) m h k =
    elim (start == m) as (λ t. (start == m) ≡ t → Contains (start ∷ count_up (suc start) n) m) [
      | true ↦ λ e. contains_first (count_up (suc start) n) (eqb-true start m e)
      | false ↦ λ e. contains_later start m (count_up (suc start) n) (contains-count_up (suc start) n m (omega (arith, eqb-false start m e)) (omega arith))
    ] refl

pub rising-count_up : (start n : ℕ) → Rising (count_up start n)
rising-count_up start zero = tt
rising-count_up start (suc n) = (λ m h. (within-count_up (suc start) n m h).0, rising-count_up (suc start) n)

pub length-count_up : (start n : ℕ) → length (count_up start n) ≡ n
length-count_up start zero = refl
length-count_up start (suc n) = ap suc (length-count_up (suc start) n)

-- tests that agree on a list keep the same of it
pub filter_same : (p q : ℕ → Bool) (ns : List ℕ) → ((n : ℕ) → Contains ns n → p n ≡ q n) → filter p ns ≡ filter q ns
filter_same p q [] h = refl
filter_same p q (n ∷ ns) h = cc (h n (contains_here n ns), filter_same p q ns (λ m k. h m (contains_later n m ns k)))

-- the least that passes ------------------------------------------------------------------

-- the number passes, and none of those before it
pub record IsLeastOf (p : ℕ → Bool) (start n : ℕ) : Type 0 where
  pub passes : p n ≡ true
  pub from_start : start ≤ n
  pub none_before : (m : ℕ) → start ≤ m → m < n → p m ≡ false

module _ (p : ℕ → Bool) where
  pub least_is_found : (start k n : ℕ) → n < start + k → IsLeastOf p start n → find p (count_up start k) ≡ Some n
  least_is_found start zero n h l = absurd (omega (arith, l.from_start))
  least_is_found start (suc k) n h l =
      elim (p start) as (λ t. p start ≡ t → cond t (Some start) (find p (count_up (suc start) k)) ≡ Some n) [
        | true ↦ λ e. (elim (start == n) as (λ t. (start == n) ≡ t → Some start ≡ Some n) [
          | true ↦ λ s. ap (λ m. Some m) (eqb-true start n s)
          | false ↦ λ s. let f = l.none_before start (omega arith) (omega (arith, eqb-false start n s, l.from_start)) in absurd (cc)
        ] refl)
        | false ↦ λ e. (elim (start == n) as (λ t. (start == n) ≡ t → find p (count_up (suc start) k) ≡ Some n) [
          | true ↦ λ s. let f = l.passes in let i = eqb-true start n s in let g : p start ≡ true = ap p i ∙ f in absurd (cc)
          | false ↦ λ s. least_is_found (suc start) k n (omega arith) (record {
            passes = l.passes;
            from_start = omega (arith, eqb-false start n s, l.from_start);
            none_before = λ m a b. l.none_before m (omega arith) b;
          })
        ] refl)
      ] refl

  pub found_is_least : (start k n : ℕ) → find p (count_up start k) ≡ Some n → IsLeastOf p start n × (n < start + k)
  found_is_least start zero n e = absurd (cc)
  found_is_least start (suc k) n e =
      elim (p start) as (λ t. p start ≡ t → cond t (Some start) (find p (count_up (suc start) k)) ≡ Some n → IsLeastOf p start n × (n < start + suc k)) [
        | true ↦ λ q f.
            let i : start ≡ n = cc in (
              record { passes = ap p (sym i) ∙ q; from_start = omega arith; none_before = λ m a b. absurd (omega arith) },
              omega arith,
            )
        | false ↦ λ q f.
            let l = found_is_least (suc start) k n f in (
              record {
                passes = l.0.passes;
                from_start = omega (arith, l.0.from_start);
                none_before = λ m a b. (elim (start == m) as (λ t. (start == m) ≡ t → p m ≡ false) [
                  | true ↦ λ s. ap p (sym (eqb-true start m s)) ∙ q
                  | false ↦ λ s. l.0.none_before m (omega (arith, eqb-false start m s)) b
                ] refl);
              },
              omega (arith, l.1),
            )
      ] refl e

  pub none_is_found : (start k : ℕ) → ((m : ℕ) → start ≤ m → m < start + k → p m ≡ false) → find p (count_up start k) ≡ None
  none_is_found start zero h = refl
  none_is_found start (suc k) h =
      ap (λ t. cond t (Some start) (find p (count_up (suc start) k))) (h start (omega arith) (omega arith))
      ∙ none_is_found (suc start) k (λ m a b. h m (omega arith) (omega arith))

  pub found_none : (start k : ℕ) → find p (count_up start k) ≡ None → (m : ℕ) → start ≤ m → m < start + k → p m ≡ false
  found_none start zero e m a b = absurd (omega arith)
  found_none start (suc k) e m a b =
      elim (p start) as (λ t. p start ≡ t → cond t (Some start) (find p (count_up (suc start) k)) ≡ None → p m ≡ false) [
        | true ↦ λ q f. absurd (cc)
        | false ↦ λ q f. (elim (start == m) as (λ t. (start == m) ≡ t → p m ≡ false) [
          | true ↦ λ s. ap p (sym (eqb-true start m s)) ∙ q
          | false ↦ λ s. found_none (suc start) k f m (omega (arith, eqb-false start m s)) (omega arith)
        ] refl)
      ] refl e

-- how many ---------------------------------------------------------------------------

-- different numbers that are all in a list are no more than it has
pub no_more_than : (xs ys : List ℕ) → Apart xs → ((n : ℕ) → Contains xs n → Contains ys n) → length xs ≤ length ys
no_more_than [] ys a h = omega arith
no_more_than (x ∷ xs) ys a h =
    let s = split_at ys x (h x (contains_here x xs)) in
    let fewer = no_more_than xs (s.0 ++ s.1) a.1 (λ n k. past n k (Contains-append_cases s.0 (x ∷ s.1) n (contains_in n s.2 (h n (contains_later x n xs k)))))
    in
    omega (arith, fewer, length-append s.0 s.1, ap length s.2, length-append s.0 (x ∷ s.1))
  where
    past : (n : ℕ) → Contains xs n → Contains (split_at ys x (h x (contains_here x xs))).0 n ⊎ Contains (x ∷ (split_at ys x (h x (contains_here x xs))).1) n
        → Contains ((split_at ys x (h x (contains_here x xs))).0 ++ (split_at ys x (h x (contains_here x xs))).1) n
    past n k (inl m) = Contains-append_left (split_at ys x (h x (contains_here x xs))).0 (split_at ys x (h x (contains_here x xs))).1 n m
    past n k (inr m) =
        elim (contains_cases x n (split_at ys x (h x (contains_here x xs))).1 m) [
          | inl e ↦ absurd (a.0 (contains_as xs (sym e) k))
          | inr l ↦ Contains-append_right (split_at ys x (h x (contains_here x xs))).0 (split_at ys x (h x (contains_here x xs))).1 n l
        ]
