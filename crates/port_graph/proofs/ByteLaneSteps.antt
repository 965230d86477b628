-- What lanes say of a vertex, edge by edge and vertex by vertex.
use Rattle.std.proofs.Common.{◌≡◌, ◌≤◌, ◌<◌, ◌+◌, ℕ, zero, suc, List, [], ◌∷◌, ◌⊎◌, inl, inr, refl, sym, ap, ap₂, ◌∙◌, subst, arith, Bool, true, false, cond, ◌==◌, ◌||◌, length, min}
use Rattle.std.proofs.lemmas.Bool.{cases_lt, cases_eq, eqb-true, eq-eqb}
use Rattle.std.proofs.lemmas.Bool.Decides.{nat_tests}
use Rattle.std.proofs.lemmas.List.{get_or-set_same, get_or-set_other}
use Rattle.std.proofs.lemmas.Option.{none-some, same_Some}
use Rattle.std.specs.Prelude.{Option, None, Some, option_map, nat_lt, slice_index, slice_set}
use Rattle.std.specs.List.{filter_map, find}
use Rattle.port_graph.specs.declared.edge.Edge.{Edge}
use Rattle.port_graph.specs.Slopes.{least_of, same_number, lesser_of}
use Rattle.port_graph.specs.ByteLanes.{number_in, port_in, IsOneMore, nearer, nearest_from, nearest_by}
use Rattle.port_graph.proofs.CostSteps.{least_more, least_all}
use Rattle.port_graph.proofs.Lists.{find_none}

-- a number below 255 is known, and no other is
pub known : (x : ℕ) → x < 255 → number_in x ≡ Some x
known x h = ap (λ (b : Bool). cond b (Some x) None) (test x h)
  where
    test : (x : ℕ) → x < 255 → nat_lt x 255 ≡ true
    test x h = grind (arith, nat_tests)

pub unknown_from : (x : ℕ) → 255 ≤ x → number_in x ≡ None
unknown_from x h = ap (λ (b : Bool). cond b (Some x) None) (test x h)
  where
    test : (x : ℕ) → 255 ≤ x → nat_lt x 255 ≡ false
    test x h = grind (arith, nat_tests)

-- what is known is the number, and below 255
pub known_is : (x n : ℕ) → number_in x ≡ Some n → (x ≡ n) × (x < 255)
known_is x n e =
    elim (cases_lt x 255) [
      | inl l ↦ (same_Some x n (sym (known x l) ∙ e), l)
      | inr m ↦ absurd (none-some n (sym (unknown_from x m) ∙ e))
    ]

-- one more fits, but for 254
pub one_more_fits : (x y : ℕ) → (x == 254) ≡ false → y ≡ min (x + 1) 255 → IsOneMore x y
one_more_fits x y other e =
    elim (cases_lt x 255) [
      | inl l ↦ let below : x < 254 = apart x l other in
          let is : y ≡ suc x = omega arith in
          ap number_in is ∙ known (suc x) (omega arith) ∙ sym (ap (option_map suc) (known x l))
      | inr m ↦ unknown_from y (omega arith) ∙ sym (ap (option_map suc) (unknown_from x m))
    ]
  where
    apart : (x : ℕ) → x < 255 → (x == 254) ≡ false → x < 254
    apart x l other = grind (arith, nat_tests)

-- one more lane
pub one_more_lane : (xs more : List ℕ) (lane v : ℕ) (great : Bool) → lane < length more → v ≡ min (slice_index xs lane + 1) 255
    → (great ≡ false → (k : ℕ) → k < lane → IsOneMore (slice_index xs k) (slice_index more k)) → (great || (slice_index xs lane == 254)) ≡ false
    → (k : ℕ) → k < lane + 1 → IsOneMore (slice_index xs k) (slice_index (slice_set more lane v) k)
one_more_lane xs more lane v true h is so_far fits k below = absurd (cc)
one_more_lane xs more lane v false h is so_far fits k below =
    elim (cases_eq k lane) [
      | inl same ↦ subst (λ (j : ℕ). IsOneMore (slice_index xs j) (slice_index (slice_set more lane v) j)) (sym same)
          (one_more_fits (slice_index xs lane) (slice_index (slice_set more lane v) lane) fits (get_or-set_same more lane v 0 h ∙ is))
      | inr other ↦ subst (λ (y : ℕ). IsOneMore (slice_index xs k) y) (sym (get_or-set_other more lane k v 0 other)) (so_far refl k (less k lane below other))
    ]
  where
    less : (k lane : ℕ) → k < lane + 1 → (k ≡ lane → ⊥) → k < lane
    less k lane below other = grind arith

-- one of the lanes up to this one is too great
pub too_great_lane : (xs : List ℕ) (lane : ℕ) (great : Bool) → (great ≡ true → (k : ℕ) × (k < lane) × (slice_index xs k ≡ 254))
    → (great || (slice_index xs lane == 254)) ≡ true → (k : ℕ) × (k < lane + 1) × (slice_index xs k ≡ 254)
too_great_lane xs lane true so_far e = let found = so_far refl in (found.0, omega (arith, found.1), found.2)
too_great_lane xs lane false so_far e = (lane, omega arith, eqb-true (slice_index xs lane) 254 e)

-- edge by edge ------------------------------------------------------------------------------

-- the lesser of two numbers in a lane
lesser_in : (b x port its_port : ℕ) → b ≤ 255 → number_in (nearer (b, port) x its_port).0 ≡ lesser_of (number_in b) (number_in x)
lesser_in b x port its_port h =
    elim (cases_lt x b) [
      | inl l ↦ ap number_in (ap (λ (t : Bool). (cond {A = ℕ × ℕ} t (x, its_port) (b, port)).0) (is_less x b l)) ∙ known x (omega arith)
          ∙ sym (ap (lesser_of (number_in b)) (known x (omega arith)) ∙ with_less (number_in b) refl l)
      | inr m ↦ ap number_in (ap (λ (t : Bool). (cond {A = ℕ × ℕ} t (x, its_port) (b, port)).0) (is_not x b m)) ∙ sym (not_less m)
    ]
  where
    is_less : (x b : ℕ) → x < b → nat_lt x b ≡ true
    is_less x b l = grind (arith, nat_tests)

    is_not : (x b : ℕ) → b ≤ x → nat_lt x b ≡ false
    is_not x b l = grind (arith, nat_tests)

    with_less : (o : Option ℕ) → number_in b ≡ o → x < b → lesser_of o (Some x) ≡ Some x
    with_less None e l = refl
    with_less (Some n) e l = let k = (known_is b n e).0 in let is : min n x ≡ x = omega arith in ap (λ (m : ℕ). Some m) is

    not_less : b ≤ x → lesser_of (number_in b) (number_in x) ≡ number_in b
    not_less m =
        elim (cases_lt x 255) [
          | inl l ↦ let is : min b x ≡ b = omega arith in
              ap₂ lesser_of (known b (omega arith)) (known x l) ∙ ap (λ (n : ℕ). Some n) is ∙ sym (known b (omega arith))
          | inr k ↦ ap (lesser_of (number_in b)) (unknown_from x k) ∙ least_all (number_in b)
        ]

module _ (x : ℕ → ℕ) where
  -- what was found stays, or a lesser number was found, and the first port that leads to it
  abbrev pub Found : ℕ → ℕ → List Edge → ℕ × ℕ → Type 0
  Found b port edges r = (r ≡ (b, port)) ⊎ ((r.0 < b) × (option_map (λ e. e.port) (find (λ e. x e.to == r.0) edges) ≡ Some r.1))

  found_first : (b port : ℕ) (edges : List Edge) → Found b port edges (nearest_from x (b, port) edges)
  found_first b port [] = inl refl
  found_first b port (e ∷ edges) =
      elim (cases_lt (x e.to) b) [
        | inl l ↦
            let r = nearest_from x (x e.to, e.port) edges in
            let Is : ℕ × ℕ → Type 0 = λ s. Found b port (e ∷ edges) (nearest_from x s edges) in
            subst Is (sym (ap (λ (t : Bool). cond t (x e.to, e.port) (b, port)) (is_less (x e.to) b l)))
            (elim (found_first (x e.to) e.port edges) [
              | inl same ↦ inr (
                subst (λ (s : ℕ × ℕ). s.0 < b) (sym same) l,
                subst (λ (s : ℕ × ℕ). option_map (λ y. y.port) (find (λ y. x y.to == s.0) (e ∷ edges)) ≡ Some s.1) (sym same)
                    (ap (λ (t : Bool). option_map (λ y. y.port) (cond t (Some e) (find (λ y. x y.to == x e.to) edges))) (eq-eqb (x e.to) (x e.to) refl)),
              )
              | inr less ↦ inr (
                omega (arith, less.0),
                ap (λ (t : Bool). option_map (λ y. y.port) (cond t (Some e) (find (λ y. x y.to == r.0) edges))) (are_apart (x e.to) r.0 less.0) ∙ less.1,
              )
            ])
        | inr m ↦
            let r = nearest_from x (b, port) edges in
            let Is : ℕ × ℕ → Type 0 = λ s. Found b port (e ∷ edges) (nearest_from x s edges) in
            subst Is (sym (ap (λ (t : Bool). cond t (x e.to, e.port) (b, port)) (is_not (x e.to) b m)))
            (elim (found_first b port edges) [
              | inl same ↦ inl same
              | inr less ↦ inr (
                less.0,
                ap (λ (t : Bool). option_map (λ y. y.port) (cond t (Some e) (find (λ y. x y.to == r.0) edges))) (are_apart (x e.to) r.0 (omega (arith, less.0)))
                    ∙ less.1,
              )
            ])
      ]
    where
      is_less : (y b : ℕ) → y < b → nat_lt y b ≡ true
      is_less y b l = grind (arith, nat_tests)

      is_not : (y b : ℕ) → b ≤ y → nat_lt y b ≡ false
      is_not y b l = grind (arith, nat_tests)

      are_apart : (y r : ℕ) → r < y → (y == r) ≡ false
      are_apart y r l = grind (arith, nat_tests)

  -- the number is the least
  least_from : (b port : ℕ) (edges : List Edge) → b ≤ 255
      → number_in (nearest_from x (b, port) edges).0 ≡ lesser_of (number_in b) (least_of (filter_map (λ e. number_in (x e.to)) edges))
  least_from b port [] h = sym (least_all (number_in b))
  least_from b port (e ∷ edges) h =
      let s = nearer (b, port) (x e.to) e.port in
      least_from s.0 s.1 edges (at_most h)
      ∙ ap (λ o. lesser_of o (least_of (filter_map (λ y. number_in (x y.to)) edges))) (lesser_in b (x e.to) port e.port h)
      ∙ least_more (number_in b) (number_in (x e.to)) (filter_map (λ y. number_in (x y.to)) edges)
    where
      at_most : b ≤ 255 → (nearer (b, port) (x e.to) e.port).0 ≤ 255
      at_most h = elim (nat_lt (x e.to) b) as (λ t. nat_lt (x e.to) b ≡ t → (cond {A = ℕ × ℕ} t (x e.to, e.port) (b, port)).0 ≤ 255) [
        | true ↦ λ q. grind (arith, nat_tests)
        | false ↦ λ q. h
      ] refl

  pub least_is : (edges : List Edge) → number_in (nearest_by x edges).0 ≡ least_of (filter_map (λ e. number_in (x e.to)) edges)
  least_is edges = least_from 255 0 edges (omega arith)

  -- the port beside a number is that of the first edge to a vertex whose number is one less
  pub port_is : (edges : List Edge) (y : ℕ) → ((n : ℕ) → number_in y ≡ Some (suc n) → number_in (nearest_by x edges).0 ≡ Some n)
      → port_in y (nearest_by x edges).1 ≡ option_map (λ e. e.port) (find (λ e. same_number (option_map suc (number_in (x e.to))) (number_in y)) edges)
  port_is edges y one_more =
      let r = nearest_by x edges in
      elim (number_in y) as (λ o. number_in y ≡ o → port_in y r.1
      ≡ option_map (λ e. e.port) (find (λ e. same_number (option_map suc (number_in (x e.to))) o) edges)) [
        | None ↦ λ e. none_beside y r.1 (not_known y e)
            ∙ sym (ap (option_map (λ e. e.port))
            (find_none (λ e. same_number (option_map suc (number_in (x e.to))) None) edges (λ e. with_none (option_map suc (number_in (x e.to))))))
        | Some zero ↦ λ e. none_at_zero y r.1 (known_is y 0 e).0
            ∙ sym (ap (option_map (λ e. e.port)) (find_none (λ e. same_number (option_map suc (number_in (x e.to))) (Some 0)) edges
            (λ e. not_zero (number_in (x e.to)))))
        | Some (suc n) ↦ λ e.
            let least = known_is r.0 n (one_more n e) in
            let is = known_is y (suc n) e in
            beside y r.1 (omega (arith, is.0)) is.1
            ∙ (elim (found_first 255 0 edges) [
              | inl same ↦ let top : r.0 ≡ 255 = ap (λ (s : ℕ × ℕ). s.0) same in absurd (omega (arith, least.1))
              | inr less ↦ sym less.1
                  ∙ ap (option_map (λ e. e.port)) (find_alike (λ e. x e.to == r.0) (λ e. same_number (option_map suc (number_in (x e.to))) (Some (suc n))) edges
                  (λ e. same_test (x e.to) r.0 n least.0 least.1))
            ])
      ] refl
    where
      not_known : (y : ℕ) → number_in y ≡ None → 255 ≤ y
      not_known y e = elim (cases_lt y 255) [ inl l ↦ absurd (none-some y (sym e ∙ known y l)) | inr m ↦ m ]

      none_beside : (y p : ℕ) → 255 ≤ y → port_in y p ≡ None
      none_beside y p m = grind (arith, nat_tests)

      none_at_zero : (y p : ℕ) → y ≡ 0 → port_in y p ≡ None
      none_at_zero y p m = grind (arith, nat_tests)

      beside : (y p : ℕ) → 0 < y → y < 255 → port_in y p ≡ Some p
      beside y p h k = grind (arith, nat_tests)

      with_none : (o : Option ℕ) → same_number o None ≡ false
      with_none None = refl
      with_none (Some n) = refl

      not_zero : (o : Option ℕ) → same_number (option_map suc o) (Some 0) ≡ false
      not_zero None = refl
      not_zero (Some n) =
          elim (suc n == 0) as (λ t. (suc n == 0) ≡ t → t ≡ false) [ true ↦ λ q. absurd (omega (arith, eqb-true (suc n) 0 q)) | false ↦ λ q. refl ] refl

      find_alike : (p q : Edge → Bool) (xs : List Edge) → ((e : Edge) → p e ≡ q e) → find p xs ≡ find q xs
      find_alike p q [] h = refl
      find_alike p q (e ∷ xs) h = ap₂ (λ (t : Bool) (o : Option Edge). cond t (Some e) o) (h e) (find_alike p q xs h)

      same_test : (z m n : ℕ) → m ≡ n → m < 255 → (z == m) ≡ same_number (option_map suc (number_in z)) (Some (suc n))
      same_test z m n same below =
          elim (cases_lt z 255) [
            | inl l ↦ same_sucs z m n same ∙ sym (ap (λ o. same_number (option_map suc o) (Some (suc n))) (known z l))
            | inr k ↦ are_apart z m (omega arith) ∙ sym (ap (λ o. same_number (option_map suc o) (Some (suc n))) (unknown_from z k))
          ]
        where
          same_sucs : (z m n : ℕ) → m ≡ n → (z == m) ≡ (suc z == suc n)
          same_sucs z m n e = grind (arith, nat_tests)

          are_apart : (y r : ℕ) → r < y → (y == r) ≡ false
          are_apart y r l = grind (arith, nat_tests)
