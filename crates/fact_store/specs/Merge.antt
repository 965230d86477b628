-- The order of views, and their merge.
use Rattle.std.specs.Prelude.{◌≡◌, ◌≤◌, ℕ, true, List, ◌++◌, max, map, fold, Some}
use Rattle.std.specs.List.{flat_map}
use Rattle.std.specs.Option.{option_map_or}
use Rattle.std.specs.FinMap.{get, entries, from_entries}
use Rattle.fact_join.specs.declared.cell.Cell.{Cell}
use Rattle.fact_join.specs.Cell.{IsBelow, joined_by}
use Rattle.reply_facts.specs.declared.key.Key.{Key}
use Rattle.reply_facts.specs.declared.value.Value.{Value}
use Rattle.fact_store.specs.Floor.{is_kept}
use Rattle.fact_store.specs.Seen.{CellMap}
use Rattle.reply_facts.specs.Value.{is_same_value}
use Rattle.fact_store.specs.View.{Facts, at_floor, cell_for, no_facts, raised, view_at}

-- the join of two cells: the newer one. If both have the same generation, the join is known if both are known with the
-- same value, and disputed otherwise
abbrev pub join : Cell Value → Cell Value → Cell Value
join = joined_by is_same_value

-- the cells of two maps. A key that both maps have gets the join of its two cells; any other key keeps its only cell
abbrev pub merge_maps : CellMap → CellMap → CellMap
merge_maps x y = from_entries (map (λ e. (e.0, option_map_or (join e.1) (get y e.0) e.1)) (entries x) ++ entries y)

-- the merge of `x` and `y`: the set of facts that has the greater of both floors, and those cells of `merge_maps`
-- that are not below this floor
abbrev pub merge : Facts → Facts → Facts
merge x y = at_floor (max x.floor y.floor) (merge_maps x.found y.found)

-- `x` is below `y`: the floor of `x` is at most that of `y`, and for each cell of `x` that the floor of `y` keeps
-- (`is_kept`), `y` has a cell with the same key that is not below this cell (`IsBelow`)
pub record IsBelowView (x y : Facts) : Type 0 where
  pub floors : x.floor ≤ y.floor
  pub cells : (key : Key) (c : Cell Value) → cell_for x key ≡ Some c → is_kept y.floor c ≡ true → (d : Cell Value)
      × (cell_for y key ≡ Some d) × IsBelow c d

-- `z` is above `x` and `y`, and below each set of facts that is above both
pub record IsMerge (x y z : Facts) : Type 0 where
  pub above_first : IsBelowView x z
  pub above_second : IsBelowView y z
  pub least : (w : Facts) → IsBelowView x w → IsBelowView y w → IsBelowView z w

-- for any two sets of facts, `merge` gives the least set of facts that is above both
abbrev pub MergeLaw : Type 0
MergeLaw = (x y : Facts) → IsMerge x y (merge x y)

-- `x` and `y` have at most one merge (`IsMerge`)
abbrev pub MergeIsUnique : Type 0
MergeIsUnique = (x y z w : Facts) → IsMerge x y z → IsMerge x y w → z ≡ w

-- the view of two lists together at the greater of two floors is the merge of the views of the lists, each at its own
-- floor
abbrev pub ViewOfBoth : Type 0
ViewOfBoth = (f h : ℕ) (s t : List (Key × Cell Value)) → view_at (max f h) (s ++ t) ≡ merge (view_at f s) (view_at h t)

-- the merge of two sets of facts does not depend on their order
abbrev pub MergeIsCommutative : Type 0
MergeIsCommutative = (x y : Facts) → merge x y ≡ merge y x

-- the merge of three sets of facts does not depend on which two are merged first
abbrev pub MergeIsAssociative : Type 0
MergeIsAssociative = (x y z : Facts) → merge (merge x y) z ≡ merge x (merge y z)

-- merging a set of facts with itself changes nothing
abbrev pub MergeIsIdempotent : Type 0
MergeIsIdempotent = (x : Facts) → merge x x ≡ x

-- how a set of facts came about: from a list of sightings, from another set by raising its floor, or by merging two
-- sets
pub data Merging : Type 0 where
  of_sightings : List (Key × Cell Value) → Merging
  of_raised : Merging → ℕ → Merging
  of_two : Merging → Merging → Merging

-- all sightings that went into a `Merging`
abbrev pub all_of : Merging → List (Key × Cell Value)
all_of (of_sightings s) = s
all_of (of_raised m floor) = all_of m
all_of (of_two a b) = all_of a ++ all_of b

-- the greatest floor to which a set of facts was raised in a `Merging`, or 1 if that is greater
abbrev pub floor_of : Merging → ℕ
floor_of (of_sightings s) = 1
floor_of (of_raised m floor) = max (floor_of m) floor
floor_of (of_two a b) = max (floor_of a) (floor_of b)

-- the set of facts that a `Merging` leads to
abbrev pub merged : Merging → Facts
merged (of_sightings s) = view_at 1 s
merged (of_raised m floor) = raised (merged m) floor
merged (of_two a b) = merge (merged a) (merged b)

-- however sightings were merged and floors raised, the resulting set of facts is the view of all sightings at the
-- greatest floor
abbrev pub GroupingIsFree : Type 0
GroupingIsFree = (m : Merging) → merged m ≡ view_at (floor_of m) (all_of m)

-- if views are merged into the set without facts (`no_facts`), one after another, the result is the view of all their
-- sightings at the greatest of their floors; at floor 1 if there is no view
abbrev pub MergingInTurn : Type 0
MergingInTurn = (views : List (ℕ × List (Key × Cell Value))) → fold merge no_facts (map (λ v. view_at v.0 v.1) views)
    ≡ view_at (fold max 1 (map (λ v. v.0) views)) (flat_map (λ v. v.1) views)
