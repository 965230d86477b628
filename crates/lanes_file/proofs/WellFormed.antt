-- What texts say is well formed.
use Rattle.std.proofs.Common.{◌≡◌, ℕ, ◌+◌, ◌<◌, true, false, List, [], ◌∷◌, ◌++◌, Option, None, Some, Result, Ok, Err, refl, sym, subst, arith}
use Rattle.std.specs.Prelude.{IfSome, ◌||◌, codes, map, nat_le, nat_lt, option_and_then, option_map}
use Rattle.std.specs.List.{AllByRecursion, list_any}
use Rattle.std.specs.List.Sorted.{IsStrictlySortedBy}
use Rattle.std.specs.Ordering.{is_lt}
use Rattle.std.specs.Str.{bytes_eq}
use Rattle.std.specs.declared.cmp.Ordering.{Ordering}
use Rattle.std.specs.declared.cmp.Ordering.TheVariants.{Less, Equal, Greater}
use Rattle.std.proofs.lemmas.Bool.{cond_both, leb-true, ltb-false}
use Rattle.std.proofs.lemmas.List.{map-append}
use Rattle.text_words.specs.Numbers.{number_of}
use Rattle.text_words.specs.Text.{lines, words}
use Rattle.lanes_file.specs.declared.lanes.LaneMap.{LaneMap}
use Rattle.lanes_file.specs.declared.lanes.LevelBlock.{LevelBlock}
use Rattle.lanes_file.specs.declared.lanes_item.LanesItem.{LanesItem}
use Rattle.lanes_file.specs.declared.lanes_item.LanesItem.TheVariants as item
use Rattle.lanes_file.specs.declared.lanes_line.LanesLine.{LanesLine}
use Rattle.lanes_file.specs.declared.lanes_line.LanesLine.TheVariants as line
use Rattle.lanes_file.specs.declared.lines_before.LinesBefore.{LinesBefore}
use Rattle.lanes_file.specs.Keys.{Key, key_cmp, is_after, map_key, block_key}
use Rattle.lanes_file.specs.Lanes.{LanesSaid, nothing_said}
use Rattle.lanes_file.specs.LanesItem.{said_by, said_with}
use Rattle.lanes_file.specs.LanesLine.{block_line, lanes_line, line_in, line_of, map_line}
use Rattle.lanes_file.specs.LanesTextFault.{LanesLineFault}
use Rattle.lanes_file.specs.WellFormed.{AreLanes, HasLanes, IsWellFormed}
use Rattle.lanes_file.specs.Reading.{block_after, block_with, is_no_lane, is_no_level, item_of, items_from, lanes_said, lanes_with, level_with, lines_after}
use Rattle.lanes_file.specs.Reading.{map_after, map_with, start, then_or}
use Rattle.text_words.specs.Numbers.{at_most, small_of}
use Rattle.text_words.specs.Text.{only_word}
use Rattle.lanes_file.proofs.KeySearch.{key_total}

-- keys that rise up to `last` ---------------------------------------------------------------

record Rises (last : Option Key) (keys : List Key) : Type 0 where
  sorted : IsStrictlySortedBy key_cmp keys
  below : (k : Key) → is_after last k ≡ true → AllByRecursion (λ j. key_cmp j k ≡ Less) keys

rises_none : Rises None []
unfolding IsStrictlySortedBy
rises_none = record { sorted = tt; below = λ k e. tt }

all_more : (P : Key → Type 0) (keys : List Key) (k : Key) → AllByRecursion P keys → P k → AllByRecursion P (keys ++ k ∷ [])
all_more P [] k h here = (here, tt)
all_more P (j ∷ keys) k h here = (h.0, all_more P keys k h.1 here)

sorted_more : (keys : List Key) (k : Key) → IsStrictlySortedBy key_cmp keys → AllByRecursion (λ j. key_cmp j k ≡ Less) keys
    → IsStrictlySortedBy key_cmp (keys ++ k ∷ [])
unfolding IsStrictlySortedBy
sorted_more [] k h below = (tt, tt)
sorted_more (j ∷ keys) k h below = (all_more (λ i. key_cmp j i ≡ Less) keys k h.0 below.0, sorted_more keys k h.1 below.1)

all_below : (keys : List Key) (k l : Key) → key_cmp k l ≡ Less → AllByRecursion (λ j. key_cmp j k ≡ Less) keys
    → AllByRecursion (λ j. key_cmp j l ≡ Less) keys
all_below [] k l e h = tt
all_below (j ∷ keys) k l e h = (key_total.trans j k l h.0 e, all_below keys k l e h.1)

less : (o : Ordering) → is_lt o ≡ true → o ≡ Less
less Less e = refl
less Equal e = absurd (cc)
less Greater e = absurd (cc)

rises_more : (last : Option Key) (keys : List Key) (k : Key) → Rises last keys → is_after last k ≡ true → Rises (Some k) (keys ++ k ∷ [])
rises_more last keys k h e = record {
  sorted = sorted_more keys k h.sorted (h.below k e);
  below = λ l f.
      let here : key_cmp k l ≡ Less = less (key_cmp k l) f in
      all_more (λ j. key_cmp j l ≡ Less) keys k (all_below keys k l here (h.below k e)) here;
}

-- what a line says ---------------------------------------------------------------------------

abbrev IsLevel : Option ℕ → Type 0
IsLevel level = IfSome level (λ s. s < 16)

abbrev IsLine : Option LanesLine → Type 0
IsLine None = Unit {0}
IsLine (Some line.Empty) = Unit {0}
IsLine (Some (line.Lanes lanes)) = Unit {0}
IsLine (Some (line.Map l)) = Unit {0}
IsLine (Some (line.Level level)) = IsLevel level
IsLine (Some (line.Block l)) = Unit {0}

level_by_number : (o : Option ℕ) → IsLine (option_map line.Level (option_map (at_most 15) o))
level_by_number None = tt
level_by_number (Some n) = cond_both (nat_le n 15) (Some n) None IsLevel (λ e. let within = leb-true n 15 e in omega arith) (λ _. tt)

level_by_word : (o : Option (List ℕ)) → IsLine (option_map line.Level (option_and_then (small_of 15) o))
level_by_word None = tt
level_by_word (Some word) = level_by_number (number_of 10 word)

lanes_by : {A : Type 0} (make : A → LanesLine) (o : Option A) → ((a : A) → IsLine (Some (make a))) → IsLine (option_map make o)
lanes_by make None h = tt
lanes_by make (Some a) h = h a

line_in_range : (words : List (List ℕ)) → IsLine (line_in words)
line_in_range [] = tt
line_in_range (word ∷ rest) =
    cond_both (bytes_eq word (codes "lanes")) _ _ IsLine (λ _. lanes_by line.Lanes (lanes_line rest) (λ a. tt))
    (λ _. cond_both (bytes_eq word (codes "sl2vl")) _ _ IsLine (λ _. lanes_by line.Map (map_line rest) (λ a. tt))
    (λ _. cond_both (bytes_eq word (codes "level")) _ _ IsLine (λ _. level_by_word (only_word rest))
    (λ _. cond_both (bytes_eq word (codes "levels")) _ _ IsLine (λ _. lanes_by line.Block (block_line rest) (λ a. tt)) (λ _. tt))))

line_is : (line : List ℕ) → IsLine (line_of line)
unfolding line_of
line_is line = line_in_range (words line)

-- what it says by those before it -----------------------------------------------------------

are_lanes : (bytes : List ℕ) → list_any is_no_lane bytes ≡ false → AreLanes bytes
are_lanes [] e = tt
are_lanes (b ∷ bytes) e =
    elim (nat_lt 15 b) as (λ t. nat_lt 15 b ≡ t → (t || list_any is_no_lane bytes) ≡ false → AreLanes (b ∷ bytes)) [
      | true ↦ λ t f. absurd (cc)
      | false ↦ λ t f. let within = ltb-false 15 b t in (omega arith, are_lanes bytes f)
    ] refl e

abbrev IsNext : LinesBefore → LanesItem → Type 0
IsNext before item.Nothing = Unit {0}
IsNext before (item.Lanes lanes) = AreLanes lanes
IsNext before (item.Map map) = HasLanes map × (is_after before.map (map_key map) ≡ true)
IsNext before (item.Level level) = level < 16
IsNext before (item.Block block) = is_after before.block (block_key block) ≡ true

abbrev IsSaid : LinesBefore → Result LanesItem LanesLineFault → Type 0
IsSaid before (Ok item) = IsNext before item
IsSaid before (Err fault) = Unit {0}

lanes_said_in : (number : ℕ) (before : LinesBefore) (lanes : List ℕ) → IsSaid before (lanes_with number before.has_lanes lanes)
lanes_said_in number before lanes =
    cond_both (list_any is_no_lane lanes) _ _ (IsSaid before) (λ _. tt)
    (λ e. cond_both before.has_lanes _ _ (IsSaid before) (λ _. tt) (λ _. are_lanes lanes e))

map_said_after : (number : ℕ) (before : LinesBefore) (map : LaneMap) → IsSaid before (map_after number before.map map)
map_said_after number before map =
    cond_both (list_any is_no_lane map.lanes) _ _ (IsSaid before) (λ _. tt)
    (λ e. cond_both (is_after before.map (map_key map)) _ _ (IsSaid before) (λ f. (are_lanes map.lanes e, f)) (λ _. tt))

map_said : (number : ℕ) (before : LinesBefore) (node : ℕ) (into out : Option ℕ) (lanes : List ℕ)
    → IsSaid before (map_with number before.map node into out lanes)
map_said number before node None out lanes = tt
map_said number before node (Some into) None lanes = tt
map_said number before node (Some into) (Some out) lanes = map_said_after number before (record { node = node; into = into; out = out; lanes = lanes })

level_said : (number : ℕ) (before : LinesBefore) (level : Option ℕ) → IsLevel level → IsSaid before (level_with number before.has_level level)
level_said number before None h = tt
level_said number before (Some level) h = cond_both before.has_level _ _ (IsSaid before) (λ _. tt) (λ _. h)

block_said_after : (number : ℕ) (before : LinesBefore) (block : LevelBlock) → IsSaid before (block_after number before.block block)
block_said_after number before block =
    cond_both (list_any is_no_level block.levels) _ _ (IsSaid before) (λ _. tt)
    (λ _. cond_both (is_after before.block (block_key block)) _ _ (IsSaid before) (λ f. f) (λ _. tt))

block_said : (number : ℕ) (before : LinesBefore) (node : ℕ) (port block : Option ℕ) (levels : List ℕ)
    → IsSaid before (block_with number before.block node port block levels)
block_said number before node None block levels = tt
block_said number before node (Some port) None levels = tt
block_said number before node (Some port) (Some block) levels =
    block_said_after number before (record { node = node; port = port; number = block; levels = levels })

item_is_next : (number : ℕ) (before : LinesBefore) (o : Option LanesLine) → IsLine o → IsSaid before (item_of number before o)
item_is_next number before None h = tt
item_is_next number before (Some line.Empty) h = tt
item_is_next number before (Some (line.Lanes lanes)) h = lanes_said_in number before lanes
item_is_next number before (Some (line.Map l)) h = map_said number before l.node l.into l.out l.lanes
item_is_next number before (Some (line.Level level)) h = level_said number before level h
item_is_next number before (Some (line.Block l)) h = block_said number before l.node l.port l.number l.levels

-- so all that lines say is well formed ------------------------------------------------------

record IsKept (before : LinesBefore) (said : LanesSaid) : Type 0 where
  lanes : AreLanes said.lanes
  map_lanes : AllByRecursion HasLanes said.maps
  maps : Rises before.map (map map_key said.maps)
  level : IsLevel said.level
  levels : Rises before.block (map block_key said.levels)

kept_none : IsKept start nothing_said
kept_none = record { lanes = tt; map_lanes = tt; maps = rises_none; level = tt; levels = rises_none }

all_maps : (maps : List LaneMap) (map : LaneMap) → AllByRecursion HasLanes maps → HasLanes map → AllByRecursion HasLanes (maps ++ map ∷ [])
all_maps [] map h here = (here, tt)
all_maps (m ∷ maps) map h here = (h.0, all_maps maps map h.1 here)

kept_more : (before : LinesBefore) (said : LanesSaid) (item : LanesItem) → IsKept before said → IsNext before item
    → IsKept (lines_after before item) (said_with said item)
kept_more before said item.Nothing h n = h
kept_more before said (item.Lanes lanes) h n = record { lanes = n; map_lanes = h.map_lanes; maps = h.maps; level = h.level; levels = h.levels }
kept_more before said (item.Map m) h n =
    let rises = rises_more before.map (map map_key said.maps) (map_key m) h.maps n.1 in
    record {
      lanes = h.lanes;
      map_lanes = all_maps said.maps m h.map_lanes n.0;
      maps = subst (λ (keys : List Key). Rises (Some (map_key m)) keys) (sym (map-append map_key said.maps (m ∷ []))) rises;
      level = h.level;
      levels = h.levels;
    }
kept_more before said (item.Level level) h n = record { lanes = h.lanes; map_lanes = h.map_lanes; maps = h.maps; level = n; levels = h.levels }
kept_more before said (item.Block block) h n =
    let rises = rises_more before.block (map block_key said.levels) (block_key block) h.levels n in
    record {
      lanes = h.lanes;
      map_lanes = h.map_lanes;
      maps = h.maps;
      level = h.level;
      levels = subst (λ (keys : List Key). Rises (Some (block_key block)) keys) (sym (map-append block_key said.levels (block ∷ []))) rises;
    }

kept : (before : LinesBefore) (said : LanesSaid) → IsKept before said → IsWellFormed said
kept before said h = record { lanes = h.lanes; map_lanes = h.map_lanes; maps = h.maps.sorted; level = h.level; levels = h.levels.sorted }

said_well_formed : (number : ℕ) (before : LinesBefore) (said : LanesSaid) (ls : List (List ℕ)) → IsKept before said
    → IsWellFormed (said_by said (items_from number before ls))
said_well_formed number before said [] h = kept before said h
said_well_formed number before said (l ∷ later) h =
    elim (item_of number before (line_of l)) as (λ r. IsSaid before r → IsWellFormed (said_by said
    (then_or r (λ i. i ∷ items_from (number + 1) (lines_after before i) later) (λ fault. [])))) [
      | Ok item ↦ λ n. said_well_formed (number + 1) (lines_after before item) (said_with said item) later (kept_more before said item h n)
      | Err fault ↦ λ n. kept before said h
    ] (item_is_next number before (line_of l) (line_is l))

pub texts_are_well_formed : (text : List ℕ) → IsWellFormed (lanes_said text)
unfolding lanes_said
texts_are_well_formed text = said_well_formed 1 start nothing_said (lines text) kept_none

pub read_well_formed : (text : List ℕ) (said : LanesSaid) → said ≡ lanes_said text → IsWellFormed said
read_well_formed text said e = subst (λ (s : LanesSaid). IsWellFormed s) (sym e) (texts_are_well_formed text)
