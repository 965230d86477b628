-- What sightings say together, without a floor: for each key the newest generation, and the value if the sightings of
-- that generation agree.
use Rattle.std.specs.Prelude.{◌≡◌, ◌≤◌, ℕ, Bool, List, [], ◌∷◌, ◌==◌, max, map, filter, Contains, MatchOption, if◌then◌else◌}
use Rattle.std.specs.List.{list_all}
use Rattle.std.specs.Ordering.{eq_by_cmp}
use Rattle.std.specs.FinMap.{FinMap, get, from_entries}
use Rattle.fact_join.specs.declared.cell.Cell.{Cell}
use Rattle.fact_join.specs.declared.cell.Cell.TheVariants.{Known, Disputed}
use Rattle.fact_join.specs.Cell.{generation_of}
use Rattle.reply_facts.specs.declared.key.Key.{Key}
use Rattle.reply_facts.specs.declared.value.Value.{Value}
use Rattle.reply_facts.specs.Key.{key_cmp}
use Rattle.reply_facts.specs.Value.{is_same_cell}

-- a finite map from keys to cells
abbrev pub CellMap : Type 0
CellMap = FinMap key_cmp (Cell Value)

-- whether the sighting `s` is of `key`
abbrev pub is_of : Key → Key × Cell Value → Bool
is_of key s = eq_by_cmp key_cmp key s.0

-- the cells of all sightings of `key`, in the order of `sightings`
abbrev pub cells_sighted : Key → List (Key × Cell Value) → List (Cell Value)
cells_sighted key sightings = map (λ s. s.1) (filter (is_of key) sightings)

-- the greatest generation of the cells; 0 if there are none
abbrev pub newest_of : List (Cell Value) → ℕ
newest_of [] = 0
newest_of (c ∷ cells) = max (generation_of c) (newest_of cells)

-- the greatest generation of the sightings of `key`; 0 if it was not sighted
abbrev pub newest : Key → List (Key × Cell Value) → ℕ
newest key sightings = newest_of (cells_sighted key sightings)

-- what cells of `generation` say together: the first of them if all are equal. Otherwise, and if there are none,
-- `Disputed generation`
abbrev pub agreement : ℕ → List (Cell Value) → Cell Value
agreement generation [] = Disputed generation
agreement generation (c ∷ cells) = if list_all (is_same_cell c) cells then c else Disputed generation

-- what the sightings of `key` in its newest generation say together; `Disputed` in generation 0 if `key` was not
-- sighted
abbrev pub cell_at : Key → List (Key × Cell Value) → Cell Value
cell_at key sightings =
    agreement (newest key sightings)
    (filter (λ c. generation_of c == newest key sightings) (cells_sighted key sightings))

-- each key that was sighted, with what the sightings in its newest generation say together
abbrev pub seen : List (Key × Cell Value) → CellMap
seen sightings = from_entries (map (λ s. (s.0, cell_at s.0 sightings)) sightings)

-- the law of `seen`, by membership alone: ----------------------------------------------

-- `key` was sighted with the cell `c`
abbrev pub WasSighted : Key → List (Key × Cell Value) → Cell Value → Type 0
WasSighted key sightings c = Contains sightings (key, c)

-- some sighting of `key` has `generation`, and no sighting of `key` has a greater generation
pub record IsNewest (key : Key) (sightings : List (Key × Cell Value)) (generation : ℕ) : Type 0 where
  pub sighted : (c : Cell Value) × WasSighted key sightings c × (generation_of c ≡ generation)
  pub greatest : (c : Cell Value) → WasSighted key sightings c → generation_of c ≤ generation

-- every sighting of `key` in `generation` is known with `value`; true if there is no such sighting
abbrev pub AllSay : Key → List (Key × Cell Value) → ℕ → Value → Type 0
AllSay key sightings generation value =
    (c : Cell Value) → WasSighted key sightings c → generation_of c ≡ generation → c ≡ Known generation value

-- the cell has the newest generation of `key`. It is known with a value if every sighting of `key` in that generation
-- says this value; it is disputed if they do not all say the same value
abbrev pub IsCellIn : Key → List (Key × Cell Value) → Cell Value → Type 0
IsCellIn key sightings (Known generation value) =
    IsNewest key sightings generation × AllSay key sightings generation value
IsCellIn key sightings (Disputed generation) =
    IsNewest key sightings generation × ((value : Value) → AllSay key sightings generation value → ⊥)

-- `found` has a cell for a key exactly when the key was sighted; the cell is what the key's newest sightings say
-- together
pub record IsSeen (sightings : List (Key × Cell Value)) (found : CellMap) : Type 0 where
  pub cells : (key : Key)
      → MatchOption (get found key) ((c : Cell Value) → WasSighted key sightings c → ⊥) (IsCellIn key sightings)

-- each member of `s` is a member of `t`, and each member of `t` is a member of `s`. Order and repetition do not matter
abbrev pub HaveSameMembers : List (Key × Cell Value) → List (Key × Cell Value) → Type 0
HaveSameMembers s t =
    ((x : Key × Cell Value) → Contains s x → Contains t x) × ((x : Key × Cell Value) → Contains t x → Contains s x)
