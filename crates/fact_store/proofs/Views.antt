-- Views at a floor: their law, and the view of two lists.
use Rattle.std.proofs.Common.{◌≡◌, ℕ, List, [], ◌∷◌, ◌++◌, sym, ap, ◌∙◌, subst, arith, refl, false, cond}
use Rattle.std.proofs.lemmas.List.{append-nil}
use Rattle.std.specs.Prelude.{Some, max}
use Rattle.std.specs.FinMap.{get}
use Rattle.fact_join.specs.declared.cell.Cell.{Cell}
use Rattle.reply_facts.specs.declared.key.Key.{Key}
use Rattle.reply_facts.specs.declared.value.Value.{Value}
use Rattle.fact_store.specs.Coded.{same_facts}
use Rattle.fact_store.specs.Floor.{dropped, is_kept, kept}
use Rattle.fact_store.specs.Merge.{merge, ViewOfBoth}
use Rattle.fact_store.specs.Seen.{CellMap, IsSeen, seen}
use Rattle.fact_store.specs.View.{Facts, at_floor, cell_for, cells_of, raised, view, view_at, MembersDecideView, RaisingForgets, ViewIsUnique, ViewLaw, ViewOfItsCells}
use Rattle.fact_store.proofs.Entries.{kept_all}
use Rattle.fact_store.proofs.Floors.{get-dropped, kept_at_one, kept_is, seen_kept}
use Rattle.fact_store.proofs.MapMerges.{merge_maps_empty, merge_maps_is_commutative}
use Rattle.fact_store.proofs.Merges.{at_own_floor, at_same_floor, floor_from_one, merge_at, raised_at}
use Rattle.fact_store.proofs.Seen.{members_decide_seen, seen_of_both}
use Rattle.fact_store.proofs.SeenLaws.{seen_is_unique, seen_law, seen_of_its_cells}

-- a view at a floor has what the sightings say that are kept
pub found_at_floor : (floor : ℕ) (s : List (Key × Cell Value)) → dropped (max 1 floor) (seen s) ≡ seen (kept floor s)
found_at_floor floor s = seen_kept (max 1 floor) s ∙ ap seen (kept_at_one floor s)

-- at floor 1 nothing is dropped
pub found_of_view : (s : List (Key × Cell Value)) → dropped 1 (seen s) ≡ seen s
found_of_view s = found_at_floor 1 s ∙ ap seen (kept_all s)

-- so a key has what all its sightings say
pub get-view : (s : List (Key × Cell Value)) (q : Key) → cell_for (view s) q ≡ get (seen s) q
get-view s q = ap (λ (m : CellMap). get m q) (found_of_view s)

-- at each floor what it has is that
pub cell_was_seen : (floor : ℕ) (s : List (Key × Cell Value)) (q : Key) (c : Cell Value) → cell_for (view_at floor s) q ≡ Some c → get (seen s) q ≡ Some c
cell_was_seen floor s q c e = (kept_is (max 1 floor) (get (seen s) q) c (sym (get-dropped (max 1 floor) (seen s) q) ∙ e)).0

-- and the cells have the law of these
pub view_cells : (s : List (Key × Cell Value)) → IsSeen s (dropped 1 (seen s))
view_cells s = subst (IsSeen s) (sym (found_of_view s)) (seen_law s)

-- each view has its law
pub view_law : ViewLaw
view_law floor s =
    record {
      at = refl;
      cells = subst (IsSeen (kept floor s)) (sym (found_at_floor floor s)) (seen_law (kept floor s));
    }

-- no other facts have it
pub view_is_unique : ViewIsUnique
view_is_unique floor s x y a b = same_facts x y (a.at ∙ sym b.at) (seen_is_unique (kept floor s) x.found y.found a.cells b.cells)

-- lists with the same members have the same view
pub members_decide_view : MembersDecideView
members_decide_view floor s t same = ap (at_floor floor) (members_decide_seen s t same)

-- facts are the view of their cells
pub view_of_its_cells : ViewOfItsCells
view_of_its_cells x = ap (at_floor x.floor) (seen_of_its_cells x.found) ∙ at_own_floor x

-- a floor that is raised later
pub raising_forgets : RaisingForgets
raising_forgets floor greater s = raised_at floor greater (seen s)

-- the view of both lists is the merge of their views
pub view_of_both : ViewOfBoth
view_of_both f h s t = ap (at_floor (max f h)) (seen_of_both s t) ∙ sym (merge_at f h (seen s) (seen t))

-- to raise a floor is to merge nothing at that floor
pub raised_is_merge : (x : Facts) (floor : ℕ) → raised x floor ≡ merge x (view_at floor [])
raised_is_merge x floor =
    sym (ap (λ (y : Facts). merge y (view_at floor [])) (sym (at_own_floor x)) ∙ merge_at x.floor floor x.found (seen [])
    ∙ ap (at_floor (max x.floor floor)) (merge_maps_is_commutative x.found (seen []) ∙ merge_maps_empty x.found))

-- at equal floors
pub view_of_all : (floor : ℕ) (s t : List (Key × Cell Value)) → view_at floor (s ++ t) ≡ merge (view_at floor s) (view_at floor t)
view_of_all floor s t = at_same_floor floor (max floor floor) (seen (s ++ t)) (omega arith) ∙ view_of_both floor floor s t

-- what is merged into facts may be looked at from their floor
pub sightings_at_floor : (x : Facts) (s : List (Key × Cell Value)) → merge x (view_at x.floor s) ≡ merge x (view s)
sightings_at_floor x s =
    ap (λ (z : Facts). merge z (view_at x.floor s)) (sym (view_of_its_cells x))
    ∙ sym (view_of_both x.floor x.floor (cells_of x) s)
    ∙ at_same_floor (max x.floor x.floor) (max x.floor 1) (seen (cells_of x ++ s)) (omega (arith, floor_from_one x))
    ∙ view_of_both x.floor 1 (cells_of x) s
    ∙ ap (λ (z : Facts). merge z (view s)) (view_of_its_cells x)

-- a sighting below the floor tells nothing
pub sighting_below : (floor : ℕ) (s : List (Key × Cell Value)) (x : Key × Cell Value) → is_kept floor x.1 ≡ false → view_at floor s
    ≡ merge (view_at floor s) (view (x ∷ []))
sighting_below floor s x e =
    ap (view_at floor) (sym (append-nil s)) ∙ view_of_all floor s []
    ∙ ap (merge (view_at floor s)) (same_facts (view_at floor []) (view_at floor (x ∷ [])) refl
    (found_at_floor floor [] ∙ ap (λ t. seen (cond t (x ∷ []) [])) (sym e) ∙ sym (found_at_floor floor (x ∷ []))))
    ∙ sym (view_of_all floor s (x ∷ []))
    ∙ at_same_floor floor (max floor 1) (seen (s ++ x ∷ [])) (omega arith)
    ∙ view_of_both floor 1 s (x ∷ [])
