-- What is sorted by rank and index is an order of the indices.
use Rattle.std.proofs.Common.{◌≡◌, ◌≢◌, ◌<◌, ◌+◌, ℕ, List, inl, inr, refl, sym, ap, ap₂, ◌∙◌, subst, arith, true, false, cond, ◌==◌, map, length, get_or}
use Rattle.std.proofs.lemmas.Bool.{lt-ltb, eq-eqb, ltb-true, eqb-true, false_from_ne_true, true≢false, cases_order}
use Rattle.std.proofs.lemmas.Bool.Decides.{Decides-eqb}
use Rattle.std.proofs.lemmas.Cmp.{then_total, on_total, nat_cmp_total}
use Rattle.std.proofs.lemmas.List.{get_or-map, ext_get_or}
use Rattle.std.proofs.lemmas.List.Elements.{Contains-get_or}
use Rattle.std.proofs.lemmas.List.FromFn.{length-enumerate_from, get_or-enumerate_from, length-range_with_len, get_or-range_with_len}
use Rattle.std.proofs.lemmas.List.Sorted.{IsPermutation-map, IsPermutation-sym, Contains-permutation, length_permutation, ranks_by, sorted_far}
use Rattle.std.proofs.lemmas.Map.Keys.{IsDistinct-IsPermutation}
use Rattle.std.proofs.lemmas.Map.Made.{AllPairs-from_IsDistinct, IsDistinct-from_AllPairs}
use Rattle.std.specs.Prelude.{Option, None, Contains, nat_lt, nat_eq, unwrap_or, slice_index}
use Rattle.std.specs.Cmp.{IsTotalOrder}
use Rattle.std.specs.List.{AllPairs, enumerate_from, range_with_len}
use Rattle.std.specs.List.Sorted.{IsPermutation, IsSorted}
use Rattle.std.specs.Slice.Sort.{NamesEachOnce}
use Rattle.std.specs.declared.cmp.Ordering.{Ordering}
use Rattle.std.specs.declared.cmp.Ordering.TheVariants.{Less, Equal, Greater}
use Rattle.std.specs.Ordering.{is_lt, nat_cmp, ordering_then}
use Rattle.port_graph.proofs.Counts.{length_map}
use Rattle.updown_routes.specs.Order.{goes_before, ranked, IsOrder}
use Rattle.updown_routes.proofs.Before.{lex, LexBelow, lesser, tied, lex_below, below_lex, never_below}
use Rattle.updown_routes.proofs.Ranks.{lex_total}

-- the order of pairs
abbrev pub pair_cmp : ℕ × ℕ → ℕ × ℕ → Ordering
pair_cmp x y = ordering_then (nat_cmp x.0 y.0) (nat_cmp x.1 y.1)

-- the order of pairs is total
pub pair_total : IsTotalOrder pair_cmp
pair_total = then_total (on_total (λ (x : ℕ × ℕ). x.0) nat_cmp_total) (on_total (λ (x : ℕ × ℕ). x.1) nat_cmp_total)

is_less : (a b : ℕ) → a < b → nat_cmp a b ≡ Less
is_less a b h = ap (λ t. cond t Less (cond (a == b) Equal Greater)) (lt-ltb a b h)

is_equal : (a b : ℕ) → a ≡ b → nat_cmp a b ≡ Equal
is_equal a b e =
    ap₂ (λ t s. cond t Less (cond s Equal Greater)) (false_from_ne_true (nat_lt a b) (λ t. omega (arith, ltb-true a b t))) (eq-eqb a b e)

-- what is below is less
less_pair : (r a s b : ℕ) → LexBelow r a s b → is_lt (pair_cmp (r, a) (s, b)) ≡ true
less_pair r a s b (lesser h) = ap (λ o. is_lt (ordering_then o (nat_cmp a b))) (is_less r s h)
less_pair r a s b (tied e h) = ap₂ (λ o p. is_lt (ordering_then o p)) (is_equal r s e) (is_less a b h)

module _ (ranks : List (Option ℕ)) where
  abbrev rank : ℕ → ℕ
  rank i = unwrap_or (get_or ranks i None) 0

  ranked_long : length (ranked ranks) ≡ length ranks
  ranked_long = length_map (λ (x : ℕ × Option ℕ). (unwrap_or x.1 0, x.0)) (enumerate_from 0 ranks) ∙ length-enumerate_from 0 ranks

  ranked_at : (i : ℕ) (d : ℕ × ℕ) → i < length ranks → get_or (ranked ranks) i d ≡ (rank i, i)
  ranked_at i d h =
      let nothing : ℕ × Option ℕ = (0, None) in
      let long = length-enumerate_from 0 ranks in
      let plus : 0 + i ≡ i = omega arith in
      get_or-map (λ (x : ℕ × Option ℕ). (unwrap_or x.1 0, x.0)) (enumerate_from 0 ranks) i nothing d (omega arith)
      ∙ ap (λ (x : ℕ × Option ℕ). (unwrap_or x.1 0, x.0)) (get_or-enumerate_from 0 ranks i nothing h) ∙ ap (λ (k : ℕ). (rank i, k)) plus

  -- each is its index, after the rank at that index
  ranked_by_index : (x : ℕ × ℕ) → Contains (ranked ranks) x → (x.1 < length ranks) × (x.0 ≡ rank x.1)
  ranked_by_index x h =
      let l : h.0 < length ranks = omega (arith, h.1, ranked_long) in
      let e : (rank h.0, h.0) ≡ x = sym (ranked_at h.0 x l) ∙ h.2 in
      let i : h.0 ≡ x.1 = ap (λ (y : ℕ × ℕ). y.1) e in
      (omega arith, sym (ap (λ (y : ℕ × ℕ). y.0) e) ∙ ap rank i)

  ranked_indices : map (λ x. x.1) (ranked ranks) ≡ range_with_len 0 (length ranks)
  ranked_indices =
      let long = length_map (λ (x : ℕ × ℕ). x.1) (ranked ranks) in
      ext_get_or 0 (map (λ x. x.1) (ranked ranks)) (range_with_len 0 (length ranks)) (long ∙ ranked_long ∙ sym (length-range_with_len 0 (length ranks)))
      (λ i h. let l : i < length ranks = omega (arith, ranked_long) in
      get_or-map (λ (x : ℕ × ℕ). x.1) (ranked ranks) i (0, 0) 0 (omega arith) ∙ ap (λ (x : ℕ × ℕ). x.1) (ranked_at i (0, 0) l)
      ∙ sym (get_or-range_with_len 0 (length ranks) i 0 l ∙ omega arith))

  module _ (sorted : List (ℕ × ℕ)) (moved : IsPermutation (ranked ranks) sorted) (rises : IsSorted pair_cmp sorted) where
    abbrev order : List ℕ
    order = map (λ x. x.1) sorted

    order_long : length order ≡ length ranks
    order_long = length_map (λ (x : ℕ × ℕ). x.1) sorted ∙ length_permutation (ranked ranks) sorted moved ∙ ranked_long

    indices_moved : IsPermutation (range_with_len 0 (length ranks)) order
    indices_moved = subst (λ (xs : List ℕ). IsPermutation xs order) ranked_indices (IsPermutation-map (λ (x : ℕ × ℕ). x.1) (ranked ranks) sorted moved)

    range_apart : AllPairs (λ a b. a ≢ b) (range_with_len 0 (length ranks))
    range_apart i j d h k e =
        let n = length ranks in
        let m = length-range_with_len 0 n in
        omega (arith, e, get_or-range_with_len 0 n i d (omega (arith, k)), get_or-range_with_len 0 n j d (omega (arith, k)))

    same_test : (a b : ℕ) → nat_eq a b ≡ nat_eq b a
    same_test a b =
        elim (nat_eq b a) as (λ t. nat_eq b a ≡ t → nat_eq a b ≡ t) [
          | true ↦ λ e. eq-eqb a b (sym (eqb-true b a e))
          | false ↦ λ e. false_from_ne_true (nat_eq a b) (λ t. true≢false (sym (eq-eqb b a (sym (eqb-true a b t))) ∙ e))
        ] refl

    -- no index stands twice
    order_apart : AllPairs (λ a b. a ≢ b) order
    order_apart = AllPairs-from_IsDistinct {eq = nat_eq} Decides-eqb order
        (IsDistinct-IsPermutation nat_eq same_test (range_with_len 0 (length ranks)) order indices_moved
        (IsDistinct-from_AllPairs {eq = nat_eq} Decides-eqb (range_with_len 0 (length ranks)) range_apart))

    at_position : (p : ℕ) → p < length order → (get_or sorted p (0, 0)).1 ≡ get_or order p 0
    at_position p h = sym (get_or-map (λ (x : ℕ × ℕ). x.1) sorted p (0, 0) 0 (omega (arith, length_map (λ (x : ℕ × ℕ). x.1) sorted)))

    stands : (p : ℕ) → p < length order → ((get_or sorted p (0, 0)).1 < length ranks) × ((get_or sorted p (0, 0)).0 ≡ rank (get_or sorted p (0, 0)).1)
    stands p h = ranked_by_index (get_or sorted p (0, 0))
        (Contains-permutation sorted (ranked ranks) (get_or sorted p (0, 0)) (IsPermutation-sym (ranked ranks) sorted moved)
        (Contains-get_or sorted p (0, 0) (omega (arith, length_map (λ (x : ℕ × ℕ). x.1) sorted))))

    goes_on : (p q : ℕ) → p < q → q < length order → goes_before ranks (get_or order p 0) (get_or order q 0) ≡ true
    goes_on p q h k =
        let x = get_or sorted p (0, 0) in
        let y = get_or sorted q (0, 0) in
        let l : p < length order = omega arith in
        let not_less = sorted_far (λ a b. is_lt (pair_cmp a b)) (ranks_by pair_total (λ (a : ℕ × ℕ). a)) sorted rises p q (0, 0) (omega arith)
        (omega (arith, length_map (λ (a : ℕ × ℕ). a.1) sorted)) in
        let a : x.0 ≡ rank (get_or order p 0) = (stands p l).1 ∙ ap rank (at_position p l) in
        let b : y.0 ≡ rank (get_or order q 0) = (stands q k).1 ∙ ap rank (at_position q k) in
        let apart : x.1 ≡ y.1 → ⊥ = λ e. order_apart p q 0 h k (sym (at_position p l) ∙ e ∙ at_position q k) in
        elim (lex_total x.0 x.1 y.0 y.1 apart) [
          | inl below ↦
              (λ i. lex (sym a i) (sym (at_position p l) i) (sym b i) (sym (at_position q k) i)) ∙ below_lex x.0 x.1 y.0 y.1 below
          | inr below ↦ absurd (true≢false (sym (less_pair y.0 y.1 x.0 x.1 below) ∙ not_less))
        ]

    is_order : IsOrder ranks order
    is_order =
        record {
          all = order_long;
          each = λ i h. Contains-permutation (range_with_len 0 (length ranks)) order i indices_moved
              (i, omega (arith, length-range_with_len 0 (length ranks)), get_or-range_with_len 0 (length ranks) i i h ∙ omega arith);
          within = λ p h. omega (arith, (stands p h).0, at_position p h);
          rises = goes_on;
        }

  -- what is sorted by rank and index is an order
  pub sorted_is_order : (sorted : List (ℕ × ℕ)) (order : List ℕ) → IsPermutation (ranked ranks) sorted → IsSorted pair_cmp sorted → order
      ≡ map (λ x. x.1) sorted → IsOrder ranks order
  sorted_is_order sorted order moved rises e = subst (IsOrder ranks) (sym e) (is_order sorted moved rises)

-- nothing goes before itself
before_itself : (ranks : List (Option ℕ)) (a : ℕ) → goes_before ranks a a ≡ true → ⊥
before_itself ranks a h = let r = unwrap_or (get_or ranks a None) 0 in never_below r a (lex_below r a r a h)

-- an order has each index once
pub names_each_once : (ranks : List (Option ℕ)) (order : List ℕ) → IsOrder ranks order → NamesEachOnce (length order) order
names_each_once ranks order is =
    record {
      within = λ p h. omega (arith, is.within p h, is.all);
      apart = λ p q h k e. (elim (cases_order p q) [
        | inl same ↦ same
        | inr (inl l) ↦ absurd (before_itself ranks (slice_index order q) (ap (λ (x : ℕ). goes_before ranks x (slice_index order q)) (sym e)
            ∙ is.rises p q l k))
        | inr (inr l) ↦ absurd (before_itself ranks (slice_index order p) (ap (λ (x : ℕ). goes_before ranks x (slice_index order p)) e ∙ is.rises q p l h))
      ]);
    }
