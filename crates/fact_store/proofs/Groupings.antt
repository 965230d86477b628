-- Stores merged in any grouping, or one after another, hold the view of all that they were made of.
use Rattle.std.proofs.Common.{◌≡◌, ℕ, List, [], ◌∷◌, ◌++◌, refl, sym, ap, ◌∙◌, map}
use Rattle.std.proofs.lemmas.List.{append-nil, append_assoc}
use Rattle.std.specs.Prelude.{fold, max}
use Rattle.std.specs.List.{flat_map}
use Rattle.fact_join.specs.declared.cell.Cell.{Cell}
use Rattle.reply_facts.specs.declared.key.Key.{Key}
use Rattle.reply_facts.specs.declared.value.Value.{Value}
use Rattle.fact_store.specs.View.{Facts, raised, view_at}
use Rattle.fact_store.specs.Merge.{of_sightings, of_raised, of_two, all_of, floor_of, merged, merge, GroupingIsFree, MergingInTurn}
use Rattle.fact_store.proofs.Views.{raising_forgets, view_of_both}

-- by induction on the grouping
pub grouping_is_free : GroupingIsFree
grouping_is_free (of_sightings s) = refl
grouping_is_free (of_raised m floor) = ap (λ (x : Facts). raised x floor) (grouping_is_free m) ∙ raising_forgets (floor_of m) floor (all_of m)
grouping_is_free (of_two a b) =
    ap (λ (x : Facts). merge x (merged b)) (grouping_is_free a) ∙ ap (merge (view_at (floor_of a) (all_of a))) (grouping_is_free b)
    ∙ sym (view_of_both (floor_of a) (floor_of b) (all_of a) (all_of b))

-- what is merged onto a view in turn is merged onto it at once
merged_onto : (f : ℕ) (s : List (Key × Cell Value)) (views : List (ℕ × List (Key × Cell Value))) → fold merge (view_at f s) (map (λ v. view_at v.0 v.1) views)
    ≡ view_at (fold max f (map (λ v. v.0) views)) (s ++ flat_map (λ v. v.1) views)
merged_onto f s [] = ap (view_at f) (sym (append-nil s))
merged_onto f s (v ∷ views) =
    ap (λ (x : Facts). fold merge x (map (λ w. view_at w.0 w.1) views)) (sym (view_of_both f v.0 s v.1))
    ∙ merged_onto (max f v.0) (s ++ v.1) views
    ∙ ap (view_at (fold max (max f v.0) (map (λ w. w.0) views))) (append_assoc s v.1 (flat_map (λ w. w.1) views))

-- merged in turn onto nothing, they are the view of all
pub merging_in_turn : MergingInTurn
merging_in_turn views = merged_onto 1 [] views
