-- What is known of a subnet: the view of sightings at a floor, and its law.
use Rattle.std.specs.Prelude.{◌≡◌, ◌≤◌, ℕ, List, [], T, max, Option, Some}
use Rattle.std.specs.FinMap.{get, entries}
use Rattle.fact_join.specs.declared.cell.Cell.{Cell}
use Rattle.fact_join.specs.Cell.{generation_of}
use Rattle.reply_facts.specs.declared.key.Key.{Key}
use Rattle.reply_facts.specs.declared.value.Value.{Value}
use Rattle.reply_facts.specs.Sighting.{IsSighting}
use Rattle.fact_store.specs.Floor.{dropped, dropped_has_floor, has_floor, kept}
use Rattle.fact_store.specs.Seen.{CellMap, HaveSameMembers, IsSeen, seen}

-- a set of facts: a floor, which is at least 1, and a map from keys to cells that are not below the floor
pub record Facts : Type 0 where
  pub floor : ℕ
  pub found : CellMap
  pub above : T (has_floor floor found)

-- the cells of `facts` with their keys, in the order of keys
abbrev pub cells_of : Facts → List (Key × Cell Value)
cells_of facts = entries facts.found

-- the cell that `facts` have for `key`; None if they have none
abbrev pub cell_for : Facts → Key → Option (Cell Value)
cell_for facts key = get facts.found key

-- the set of facts with the floor `floor`, or 1 if `floor` is 0. It has the cells of `found` that are not below this
-- floor
abbrev pub at_floor : ℕ → CellMap → Facts
at_floor floor found =
    record { floor = max 1 floor; found = dropped (max 1 floor) found; above = dropped_has_floor floor found }

-- `facts` with the floor raised to `floor`, if `floor` is greater than the floor of `facts`. Cells below the new
-- floor are dropped
abbrev pub raised : Facts → ℕ → Facts
raised facts floor = at_floor (max facts.floor floor) facts.found

-- the view at `floor`: what the sightings that are at the floor or above it say together
abbrev pub view_at : ℕ → List (Key × Cell Value) → Facts
view_at floor sightings = at_floor floor (seen sightings)

-- the view of all sightings, at floor 1
abbrev pub view : List (Key × Cell Value) → Facts
view sightings = view_at 1 sightings

-- the view of no sightings: no cell, and floor 1
abbrev pub no_facts : Facts
no_facts = view []

-- every cell of `facts`, with its key, is a sighting (`IsSighting`)
abbrev pub AreInRange : Facts → Type 0
AreInRange facts = (key : Key) (c : Cell Value) → cell_for facts key ≡ Some c → IsSighting (key, c)

-- some cell of `facts` has `generation`, and no cell of `facts` has a greater generation
pub record IsNewestGeneration (facts : Facts) (generation : ℕ) : Type 0 where
  pub held : (key : Key) × (c : Cell Value) × (cell_for facts key ≡ Some c) × (generation_of c ≡ generation)
  pub greatest : (key : Key) (c : Cell Value) → cell_for facts key ≡ Some c → generation_of c ≤ generation

-- the law of a view: -------------------------------------------------------------

-- `facts` are the view of the sightings at `floor`. They have that floor, or 1 if it is 0, and the cells that the
-- sightings at or above the floor give (`IsSeen`)
pub record IsView (floor : ℕ) (sightings : List (Key × Cell Value)) (facts : Facts) : Type 0 where
  pub at : facts.floor ≡ max 1 floor
  pub cells : IsSeen (kept floor sightings) facts.found

-- `view_at` gives the view (`IsView`) of any sightings at any floor
abbrev pub ViewLaw : Type 0
ViewLaw = (floor : ℕ) (sightings : List (Key × Cell Value)) → IsView floor sightings (view_at floor sightings)

-- if two sets of facts are both the view (`IsView`) of the same sightings at the same floor, they are equal
abbrev pub ViewIsUnique : Type 0
ViewIsUnique = (floor : ℕ) (sightings : List (Key × Cell Value)) (x y : Facts) → IsView floor sightings x
    → IsView floor sightings y → x ≡ y

-- lists with the same members have the same view at each floor
abbrev pub MembersDecideView : Type 0
MembersDecideView =
    (floor : ℕ) (s t : List (Key × Cell Value)) → HaveSameMembers s t → view_at floor s ≡ view_at floor t

-- a set of facts is the view of its own cells at its floor; so the cells of a view can stand for its sightings
abbrev pub ViewOfItsCells : Type 0
ViewOfItsCells = (x : Facts) → view_at x.floor (cells_of x) ≡ x

-- a view at `floor` that is raised to `greater` is the view of its sightings at the greater of the two floors
abbrev pub RaisingForgets : Type 0
RaisingForgets = (floor greater : ℕ) (sightings : List (Key × Cell Value)) → raised (view_at floor sightings) greater
    ≡ view_at (max floor greater) sightings
