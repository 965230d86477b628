-- Walks and the shortest of them.
use Rattle.std.proofs.Common.{◌≡◌, ◌≤◌, ◌<◌, ◌+◌, ℕ, zero, suc, List, [], ◌∷◌, ◌⊎◌, inl, inr, refl, sym, ap, ◌∙◌, arith, Bool, true, false, cond, ◌==◌, ◌||◌}
use Rattle.std.proofs.lemmas.Option.{same_Some}
use Rattle.std.proofs.lemmas.Bool.{eqb-true, eq-eqb}
use Rattle.std.proofs.lemmas.Bool.Decides.{nat_tests}
use Rattle.std.specs.Prelude.{Some, Contains}
use Rattle.std.specs.List.{list_any}
use Rattle.smp_bytes.proofs.Members.{contains_here, contains_later, contains_cases, contains_none}
use Rattle.port_graph.specs.Walks.{has_walk, least_from, shortest, Walk, IsShortest}

module _ {X : Type 0} where
  pub list_any_found : (p : X → Bool) (xs : List X) → list_any p xs ≡ true → (x : X) × Contains xs x × (p x ≡ true)
  list_any_found p [] e = absurd (cc)
  list_any_found p (x ∷ xs) e =
      elim (p x) as (λ t. p x ≡ t → (t || list_any p xs) ≡ true → (y : X) × Contains (x ∷ xs) y × (p y ≡ true)) [
        | true ↦ λ q r. (x, contains_here x xs, q)
        | false ↦ λ q r. let i = list_any_found p xs r in (i.0, contains_later x i.0 xs i.1, i.2)
      ] refl e

  pub list_any_at : (p : X → Bool) (xs : List X) (x : X) → Contains xs x → p x ≡ true → list_any p xs ≡ true
  list_any_at p [] x h e = absurd (contains_none x h)
  list_any_at p (y ∷ xs) x h e =
      elim (p y) as (λ t. p y ≡ t → (t || list_any p xs) ≡ true) [
        | true ↦ λ q. refl
        | false ↦ λ q. (elim (contains_cases y x xs h) [
          | inl i ↦ absurd (cc (ap p i))
          | inr k ↦ list_any_at p xs x k e
        ])
      ] refl

pub walk_from_test : (next : ℕ → List ℕ) (a b n : ℕ) → has_walk next a b n ≡ true → Walk next a b n
walk_from_test next a b zero e = eqb-true a b e
walk_from_test next a b (suc n) e = let c = list_any_found (λ x. has_walk next x b n) (next a) e in (c.0, c.1, walk_from_test next c.0 b n c.2)

pub test_from_walk : (next : ℕ → List ℕ) (a b n : ℕ) → Walk next a b n → has_walk next a b n ≡ true
test_from_walk next a b zero e = eq-eqb a b e
test_from_walk next a b (suc n) (c, h, w) = list_any_at (λ x. has_walk next x b n) (next a) c h (test_from_walk next c b n w)

-- the least number from n on that passes, below the bound
pub record IsLeast (n bound : ℕ) (test : ℕ → Bool) (r : ℕ) : Type 0 where
  pub from : n ≤ r
  pub bounded : r < n + bound
  pub passes : test r ≡ true
  pub least : (m : ℕ) → n ≤ m → m < r → test m ≡ false

eq_or_more : (n m : ℕ) → n ≤ m → (n ≡ m) ⊎ (suc n ≤ m)
eq_or_more n m h =
    elim (n == m) as (λ t. (n == m) ≡ t → (n ≡ m) ⊎ (suc n ≤ m)) [
      | true ↦ λ p. inl (eqb-true n m p)
      | false ↦ λ p. inr (grind (arith, nat_tests))
    ] refl

pub least_found : (n bound : ℕ) (test : ℕ → Bool) (r : ℕ) → least_from n bound test ≡ Some r → IsLeast n bound test r
least_found n zero test r e = absurd (cc)
least_found n (suc bound) test r e =
    elim (test n) as (λ t. test n ≡ t → cond t (Some n) (least_from (suc n) bound test) ≡ Some r → IsLeast n (suc bound) test r) [
      | true ↦ λ p q.
          let k : n ≡ r = same_Some n r q in
          record { from = omega arith; bounded = omega arith; passes = ap test (sym k) ∙ p; least = λ m h l. absurd (omega arith) }
      | false ↦ λ p q. let i = least_found (suc n) bound test r q in
          record {
            from = omega (arith, i.from);
            bounded = omega (arith, i.bounded);
            passes = i.passes;
            least = λ m h l. (elim (eq_or_more n m h) [ inl k ↦ ap test (sym k) ∙ p | inr k ↦ i.least m k l ]);
          }
    ] refl e

pub least_is : (n bound : ℕ) (test : ℕ → Bool) (r : ℕ) → IsLeast n bound test r → least_from n bound test ≡ Some r
least_is n zero test r i = absurd (omega (arith, i.from, i.bounded))
least_is n (suc bound) test r i =
    elim (test n) as (λ t. test n ≡ t → cond t (Some n) (least_from (suc n) bound test) ≡ Some r) [
      | true ↦ λ p. (elim (eq_or_more n r i.from) [
        | inl k ↦ ap Some k
        | inr k ↦ absurd (cc (i.least n (omega arith) (omega arith)))
      ])
      | false ↦ λ p. (elim (eq_or_more n r i.from) [
        | inl k ↦ absurd (cc (i.passes, ap test k))
        | inr k ↦ least_is (suc n) bound test r
            (record { from = k; bounded = omega (arith, i.bounded); passes = i.passes; least = λ m h l. i.least m (omega arith) l })
      ])
    ] refl

-- the shortest walk, once there is one below the bound, is the shortest of all
pub shortest_is : (next : ℕ → List ℕ) (bound a b n : ℕ) → shortest next bound a b ≡ Some n → IsShortest next a b n
shortest_is next bound a b n e =
    let i = least_found 0 bound (has_walk next a b) n e in
    record {
      walk = walk_from_test next a b n i.passes;
      least = λ m w. (elim (has_walk next a b m) as (λ t. has_walk next a b m ≡ t → n ≤ m) [
        | true ↦ λ p. not_less n m (λ l. cc (i.least m (omega arith) l))
        | false ↦ λ p. absurd (cc (test_from_walk next a b m w))
      ] refl);
    }
  where
    not_less : (n m : ℕ) → (m < n → ⊥) → n ≤ m
    not_less n m h = grind arith

-- one step along a shortest walk leads one nearer
pub shortest_step : (next : ℕ → List ℕ) (bound s t d : ℕ) → shortest next bound s t ≡ Some (suc d)
    → (c : ℕ) × Contains (next s) c × (shortest next bound c t ≡ Some d)
shortest_step next bound s t d e =
    let i = least_found 0 bound (has_walk next s t) (suc d) e in
    let c = list_any_found (λ x. has_walk next x t d) (next s) i.passes in (
      c.0,
      c.1,
      least_is 0 bound (has_walk next c.0 t) d
          (record {
            from = omega arith;
            bounded = omega (arith, i.bounded);
            passes = c.2;
            least = λ m h l. (elim (has_walk next c.0 t m) as (λ t'. has_walk next c.0 t m ≡ t' → t' ≡ false) [
              | true ↦ λ p. absurd (cc (list_any_at (λ x. has_walk next x t m) (next s) c.0 c.1 p, i.least (suc m) (omega arith) (omega arith)))
              | false ↦ λ p. refl
            ] refl);
          }),
    )

-- no step leads more than one nearer
pub shortest_no_shortcut : (next : ℕ → List ℕ) (bound s c t n d : ℕ) → shortest next bound s t ≡ Some n → Contains (next s) c
    → shortest next bound c t ≡ Some d → n ≤ suc d
shortest_no_shortcut next bound s c t n d e h k = (shortest_is next bound s t n e).least (suc d) (c, h, (shortest_is next bound c t d k).walk)

pub shortest_zero : (next : ℕ → List ℕ) (bound s t : ℕ) → shortest next bound s t ≡ Some 0 → s ≡ t
shortest_zero next bound s t e = (shortest_is next bound s t 0 e).walk
