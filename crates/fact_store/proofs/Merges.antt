-- Facts at a floor, and their merge: it is the least above both, so it is commutative, associative and idempotent.
use Rattle.std.proofs.Common.{◌≡◌, ◌≤◌, ℕ, T, List, refl, sym, ap, ◌∙◌, arith, Bool, true, false, cond, [], ◌∷◌}
use Rattle.std.proofs.lemmas.Bool.{and_parts, leb-true}
use Rattle.std.specs.Prelude.{Some, max}
use Rattle.std.specs.FinMap.{empty, get, entries}
use Rattle.std.specs.List.{list_all}
use Rattle.fact_join.specs.declared.cell.Cell.{Cell}
use Rattle.fact_join.specs.Cell.{IsBelow}
use Rattle.fact_join.specs.Join.{below-le}
use Rattle.reply_facts.specs.declared.key.Key.{Key}
use Rattle.reply_facts.specs.declared.value.Value.{Value}
use Rattle.fact_store.specs.Coded.{same_facts}
use Rattle.fact_store.specs.Floor.{dropped, is_kept, kept}
use Rattle.fact_store.specs.Merge.{IsBelowView, merge, merge_maps, MergeLaw, MergeIsUnique, MergeIsCommutative, MergeIsAssociative, MergeIsIdempotent}
use Rattle.fact_store.specs.Seen.{CellMap}
use Rattle.fact_store.specs.View.{Facts, at_floor, cell_for, no_facts, raised}
use Rattle.fact_store.proofs.Floors.{dropped_both, dropped_none, dropped_twice, get-dropped, is_kept_there, kept_is, kept_newer}
use Rattle.fact_store.proofs.MapMerges.{IsBelowMap, maps_antisymm, merge_maps_empty, merge_maps_is_associative, merge_maps_is_commutative, merge_maps_is_idempotent, merge_maps_law}
use Rattle.fact_store.proofs.Orders.{first_true, get_contained, second_true}
use Rattle.smp_bytes.proofs.Members.{list_all_at}

-- what a floor says of facts --------------------------------------------------------------

-- a test that holds is true
is_true : (b : Bool) → T b → b ≡ true
is_true true h = refl
is_true false h = absurd h

-- their floor is 1 or more
pub floor_from_one : (x : Facts) → 1 ≤ x.floor
floor_from_one x = leb-true 1 x.floor (is_true _ (first_true _ _ x.above))

-- each of their cells is kept
pub cell_is_kept : (x : Facts) (q : Key) (c : Cell Value) → cell_for x q ≡ Some c → is_kept x.floor c ≡ true
cell_is_kept x q c e = list_all_at (λ s. is_kept x.floor s.1) (entries x.found) (is_true _ (second_true _ _ x.above)) (q, c) (get_contained x.found q c e)

-- a list that is kept whole
pub kept_whole : (floor : ℕ) (es : List (Key × Cell Value)) → list_all (λ e. is_kept floor e.1) es ≡ true → kept floor es ≡ es
kept_whole floor [] h = refl
kept_whole floor (e ∷ es) h =
    let both = and_parts (is_kept floor e.1) (list_all (λ x. is_kept floor x.1) es) h in
    ap (λ t. cond t (e ∷ kept floor es) (kept floor es)) both.0 ∙ ap (λ (s : List (Key × Cell Value)). e ∷ s) (kept_whole floor es both.1)

-- facts are their own cells at their own floor
pub at_own_floor : (x : Facts) → at_floor x.floor x.found ≡ x
at_own_floor x =
    let one : max 1 x.floor ≡ x.floor = omega (arith, floor_from_one x) in
    same_facts (at_floor x.floor x.found) x one
    (ap (λ (f : ℕ). dropped f x.found) one ∙ dropped_none x.floor x.found (kept_whole x.floor (entries x.found) (is_true _ (second_true _ _ x.above))))

-- facts at a floor --------------------------------------------------------------------------

-- at floors that are one from 1 on
pub at_same_floor : (f g : ℕ) (u : CellMap) → max 1 f ≡ max 1 g → at_floor f u ≡ at_floor g u
at_same_floor f g u e = same_facts (at_floor f u) (at_floor g u) e (ap (λ (m : ℕ). dropped m u) e)

-- the greater of two floors, where each is 1 or more
pub raised_at : (f g : ℕ) (u : CellMap) → raised (at_floor f u) g ≡ at_floor (max f g) u
raised_at f g u =
    same_facts (raised (at_floor f u) g) (at_floor (max (max 1 f) g) u) refl (dropped_twice (max 1 f) (max 1 (max (max 1 f) g)) u (omega arith))
    ∙ at_same_floor (max (max 1 f) g) (max f g) u (omega arith)

-- a merge takes the greater floor
pub merge_at : (f h : ℕ) (u v : CellMap) → merge (at_floor f u) (at_floor h v) ≡ at_floor (max f h) (merge_maps u v)
merge_at f h u v =
    same_facts (merge (at_floor f u) (at_floor h v)) (at_floor (max (max 1 f) (max 1 h)) (merge_maps u v)) refl
    (dropped_both (max 1 f) (max 1 h) (max 1 (max (max 1 f) (max 1 h))) u v (omega arith) (omega arith))
    ∙ at_same_floor (max (max 1 f) (max 1 h)) (max f h) (merge_maps u v) (omega arith)

-- of facts, as they stand
of_own : (x y : Facts) → merge x y ≡ merge (at_floor x.floor x.found) (at_floor y.floor y.found)
of_own x y = ap (λ (z : Facts). merge z y) (sym (at_own_floor x)) ∙ ap (merge (at_floor x.floor x.found)) (sym (at_own_floor y))

-- a floor that is not above theirs changes nothing
pub raised_same : (x : Facts) (floor : ℕ) → floor ≤ x.floor → raised x floor ≡ x
raised_same x floor h = at_same_floor (max x.floor floor) x.floor x.found (omega arith) ∙ at_own_floor x

-- the laws ----------------------------------------------------------------------------------

-- the order of two does not matter
pub merge_is_commutative : MergeIsCommutative
merge_is_commutative x y =
    at_same_floor (max x.floor y.floor) (max y.floor x.floor) (merge_maps x.found y.found) (omega arith)
    ∙ ap (at_floor (max y.floor x.floor)) (merge_maps_is_commutative x.found y.found)

-- facts merged with themselves stay
pub merge_is_idempotent : MergeIsIdempotent
merge_is_idempotent x =
    at_same_floor (max x.floor x.floor) x.floor (merge_maps x.found x.found) (omega arith)
    ∙ ap (at_floor x.floor) (merge_maps_is_idempotent x.found) ∙ at_own_floor x

-- which of three are merged first does not matter
pub merge_is_associative : MergeIsAssociative
merge_is_associative x y z =
    ap (merge (merge x y)) (sym (at_own_floor z))
    ∙ merge_at (max x.floor y.floor) z.floor (merge_maps x.found y.found) z.found
    ∙ at_same_floor (max (max x.floor y.floor) z.floor) (max x.floor (max y.floor z.floor)) _ (omega arith)
    ∙ ap (at_floor (max x.floor (max y.floor z.floor))) (merge_maps_is_associative x.found y.found z.found)
    ∙ sym (merge_at x.floor (max y.floor z.floor) x.found (merge_maps y.found z.found))
    ∙ ap (λ (w : Facts). merge w (merge y z)) (at_own_floor x)

-- no facts add nothing
pub merge_empty : (x : Facts) → merge no_facts x ≡ x
merge_empty x =
    ap (merge no_facts) (sym (at_own_floor x))
    ∙ merge_at 1 x.floor empty x.found
    ∙ at_same_floor (max 1 x.floor) x.floor (merge_maps empty x.found) (omega arith)
    ∙ ap (at_floor x.floor) (merge_maps_empty x.found) ∙ at_own_floor x

-- the order ---------------------------------------------------------------------------------

-- what is not below the second's floor is below the second
below_dropped : (x y : Facts) → IsBelowView x y → IsBelowMap (dropped y.floor x.found) y.found
below_dropped x y b q c e =
    let k = kept_is y.floor (cell_for x q) c (sym (get-dropped y.floor x.found q) ∙ e) in
    b.cells q c k.0 k.1

-- a cell that is above one that is kept
above_kept : (floor : ℕ) (u : CellMap) (q : Key) (c : Cell Value) → is_kept floor c ≡ true → (d : Cell Value) × (get u q ≡ Some d) × IsBelow c d
    → (d : Cell Value) × (get (dropped floor u) q ≡ Some d) × IsBelow c d
above_kept floor u q c k d = (d.0, get-dropped floor u q ∙ is_kept_there floor (get u q) d.0 d.1 (kept_newer floor c d.0 (below-le c d.0 d.2) k), d.2)

-- facts below each other are one
pub view_antisymm : (x y : Facts) → IsBelowView x y → IsBelowView y x → x ≡ y
view_antisymm x y a b =
    let same : x.floor ≡ y.floor = omega (arith, a.floors, b.floors) in
    same_facts x y same
    (maps_antisymm x.found y.found
    (λ q c e. a.cells q c e (ap (λ (f : ℕ). is_kept f c) (sym same) ∙ cell_is_kept x q c e))
    (λ q c e. b.cells q c e (ap (λ (f : ℕ). is_kept f c) same ∙ cell_is_kept y q c e)))

-- the merge is the least above both
pub merge_law : MergeLaw
merge_law x y =
    let maps = merge_maps_law x.found y.found in
    record {
      above_first = record {
        floors = omega arith;
        cells =
            λ q c e k. above_kept (max 1 (max x.floor y.floor)) (merge_maps x.found y.found) q c k (maps.above_first q c e);
      };
      above_second = record {
        floors = omega arith;
        cells =
            λ q c e k. above_kept (max 1 (max x.floor y.floor)) (merge_maps x.found y.found) q c k (maps.above_second q c e);
      };
      least = λ w a b. record {
        floors = omega (arith, a.floors, b.floors, floor_from_one w);
        cells = λ q c e k.
            let there = kept_is (max 1 (max x.floor y.floor)) (get (merge_maps x.found y.found) q) c
            (sym (get-dropped (max 1 (max x.floor y.floor)) (merge_maps x.found y.found) q) ∙ e) in
            let left : get (dropped w.floor (merge_maps (dropped w.floor x.found) (dropped w.floor y.found))) q ≡ Some c =
            ap (λ (u : CellMap). get u q) (dropped_both w.floor w.floor w.floor x.found y.found (omega arith) (omega arith))
            ∙ get-dropped w.floor (merge_maps x.found y.found) q ∙ is_kept_there w.floor (get (merge_maps x.found y.found) q) c there.0 k in
            (merge_maps_law (dropped w.floor x.found) (dropped w.floor y.found)).least w.found (below_dropped x w a) (below_dropped y w b) q c
            (kept_is w.floor (get (merge_maps (dropped w.floor x.found) (dropped w.floor y.found)) q) c
            (sym (get-dropped w.floor (merge_maps (dropped w.floor x.found) (dropped w.floor y.found)) q) ∙ left)).0;
      };
    }

-- two least facts above both are one
pub merge_is_unique : MergeIsUnique
merge_is_unique x y z w a b = view_antisymm z w (a.least w b.above_first b.above_second) (b.least z a.above_first a.above_second)
