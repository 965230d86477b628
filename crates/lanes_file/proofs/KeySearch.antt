-- What a search by key finds in a list whose keys rise.
use Rattle.std.proofs.Common.{◌≡◌, ℕ, zero, suc, ◌+◌, ◌<◌, ◌==◌, ◌&&◌, Bool, true, false, List, [], ◌∷◌, get_or, length, inl, inr, refl, sym, ap, subst, ◌∙◌}
use Rattle.std.proofs.Common.{arith}
use Rattle.std.specs.Prelude.{None, Some, map, find}
use Rattle.std.specs.Result.{result_ok}
use Rattle.std.specs.Cmp.{IsTotalOrder, both_tied, unsigned_tied}
use Rattle.std.specs.FinMap.{nat_cmp-IsAntisymmetric}
use Rattle.std.specs.List.{AllByRecursion}
use Rattle.std.specs.List.Sorted.{IsBinarySearchResult, IsNonDecreasingBy, IsSearchInRange, IsStrictlySortedBy}
use Rattle.std.specs.Ordering.{is_eq, is_lt, ordering_index, ordering_reverse}
use Rattle.std.specs.declared.cmp.Ordering.TheVariants.{Less, Equal}
use Rattle.std.specs.declared.result.Result.{Result}
use Rattle.std.specs.declared.result.Result.TheVariants.{Ok, Err}
use Rattle.std.proofs.lemmas.Bool.{cases_lt}
use Rattle.std.proofs.lemmas.Cmp.{nat_cmp_total, on_total, then_total}
use Rattle.std.proofs.lemmas.List.Sorted.{searchable_from_sorted}
use Rattle.std.proofs.lemmas.Map.Lookups.{exact_pairs}
use Rattle.smp_bytes.proofs.NodePorts.{node_port_exact, node_port_total}
use Rattle.lanes_file.specs.Keys.{Key, key_cmp, map_key, block_key}
use Rattle.lanes_file.specs.Lanes.{is_block, is_map}
use Rattle.lanes_file.specs.declared.lanes.LaneMap.{LaneMap}
use Rattle.lanes_file.specs.declared.lanes.LevelBlock.{LevelBlock}

pub key_total : IsTotalOrder key_cmp
key_total = then_total (on_total (λ (k : Key). k.0) node_port_total) (on_total (λ (k : Key). k.1) nat_cmp_total)

-- keys that tie are the same
same_key : (a b : Key) → key_cmp a b ≡ Equal → a ≡ b
same_key = exact_pairs _ _ node_port_exact nat_cmp-IsAntisymmetric

and_assoc : (a b c : Bool) → (a && b && c) ≡ ((a && b) && c)
and_assoc true b c = refl
and_assoc false b c = refl

-- the tests of definitions are those of the search
pub tied_key : (a b : Key) → (a.0.0 == b.0.0 && a.0.1 == b.0.1 && a.1 == b.1) ≡ is_eq (key_cmp a b)
tied_key a b =
    and_assoc (a.0.0 == b.0.0) (a.0.1 == b.0.1) (a.1 == b.1)
    ∙ both_tied _ _ _ _ (both_tied _ _ _ _ (sym (unsigned_tied a.0.0 b.0.0)) (sym (unsigned_tied a.0.1 b.0.1))) (sym (unsigned_tied a.1 b.1))

pub tied_map : (node into out : ℕ) (map : LaneMap) → is_map node into out map ≡ is_eq (key_cmp (map_key map) ((node, into), out))
tied_map node into out map = tied_key (map_key map) ((node, into), out)

pub tied_block : (node port number : ℕ) (block : LevelBlock) → is_block node port number block ≡ is_eq (key_cmp (block_key block) ((node, port), number))
tied_block node port number block = tied_key (block_key block) ((node, port), number)

module _ {X : Type 0} (key : X → Key) where
  at : (P : Key → Type 0) (xs : List X) (i : ℕ) (d : X) → AllByRecursion P (map key xs) → i < length xs → P (key (get_or xs i d))
  at P [] i d h within = absurd (omega arith)
  at P (x ∷ xs) zero d h within = h.0
  at P (x ∷ xs) (suc i) d h within = at P xs i d h.1 (omega arith)

  sorted : (xs : List X) → IsStrictlySortedBy key_cmp (map key xs) → (i : ℕ) (d : X) → suc i < length xs
      → key_cmp (key (get_or xs i d)) (key (get_or xs (suc i) d)) ≡ Less
  unfolding IsStrictlySortedBy
  sorted [] h i d within = absurd (omega arith)
  sorted (x ∷ xs) h zero d within = at (λ k. key_cmp (key x) k ≡ Less) xs 0 d h.0 (omega arith)
  sorted (x ∷ xs) h (suc i) d within = sorted xs h.1 i d (omega arith)

  -- so a search by key can be trusted
  searchable : (xs : List X) (k : Key) → IsStrictlySortedBy key_cmp (map key xs) → IsNonDecreasingBy (λ x. ordering_index (key_cmp (key x) k)) xs
  searchable xs k h = searchable_from_sorted key_total key xs k (λ i d from within.
      let next : suc i ≡ i + 1 = omega arith in
      ap is_lt (ap (λ n. key_cmp (key (get_or xs n d)) (key (get_or xs i d))) (sym next)
      ∙ key_total.antisymm (key (get_or xs (suc i) d)) (key (get_or xs i d)) ∙ ap ordering_reverse (sorted xs h i d (omega arith))))

  module _ (k : Key) (test : X → Bool) (is : (x : X) → test x ≡ is_eq (key_cmp (key x) k)) where
    found_at : (xs : List X) (i : ℕ) (d : X) → IsStrictlySortedBy key_cmp (map key xs) → i < length xs → key_cmp (key (get_or xs i d)) k ≡ Equal
        → Some (get_or xs i d) ≡ find test xs
    unfolding IsStrictlySortedBy
    found_at [] i d h within e = absurd (omega arith)
    found_at (x ∷ xs) zero d h within e = let passes : test x ≡ true = is x ∙ ap is_eq e in rw passes refl
    found_at (x ∷ xs) (suc i) d h within e =
        let below : key_cmp (key x) (key (get_or xs i d)) ≡ Less = at (λ k. key_cmp (key x) k ≡ Less) xs i d h.0 (omega arith) in
        let fails : test x ≡ false = is x ∙ ap (λ k. is_eq (key_cmp (key x) k)) (sym (same_key _ _ e)) ∙ ap is_eq below in
        rw fails (found_at xs i d h.1 (omega arith) e)

    nothing_found : (xs : List X) → ((i : ℕ) (d : X) → i < length xs → test (get_or xs i d) ≡ false) → find test xs ≡ None
    nothing_found [] h = refl
    nothing_found (x ∷ xs) h = let fails : test x ≡ false = h 0 x (omega arith) in
        rw fails (nothing_found xs (λ i d within. h (suc i) d (omega arith)))

    abbrev IsSearched : List X → Result ℕ ℕ → Type 0
    IsSearched xs r = IsBinarySearchResult (λ x. key_cmp (key x) k) xs r

    -- what is found has the key
    pub one_found : (xs : List X) (r : Result ℕ ℕ) (i : ℕ) (d : X) → IsStrictlySortedBy key_cmp (map key xs) → IsSearchInRange r (length xs)
        → IsSearched xs r → result_ok r ≡ Some i → Some (get_or xs i d) ≡ find test xs
    one_found xs (Ok j) i d h within found e =
        let same : j ≡ i = cc in subst (λ (n : ℕ). Some (get_or xs n d) ≡ find test xs) same (found_at xs j d h within (found d))
    one_found xs (Err j) i d h within found e = absurd (cc)

    -- and where nothing is found, nothing has it
    pub none_found : (xs : List X) (r : Result ℕ ℕ) → IsStrictlySortedBy key_cmp (map key xs) → IsSearched xs r → result_ok r ≡ None
        → find test xs ≡ None
    none_found xs (Ok j) h found e = absurd (cc)
    none_found xs (Err j) h found e =
        let parts = found (searchable xs k h) in
        nothing_found xs (λ i d within. elim (cases_lt i j) [
          | inl l ↦ is (get_or xs i d) ∙ ap is_eq (parts.0 i d (omega arith) l)
          | inr g ↦ is (get_or xs i d) ∙ ap is_eq (parts.1 i d g within)
        ])
