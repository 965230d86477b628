-- The entries of a map that is made of a list, as a list that computes.
use Rattle.std.proofs.Common.{◌≡◌, T, List, [], ◌∷◌, refl, sym, ap, ◌∙◌, arith, cond}
use Rattle.std.proofs.lemmas.Bool.{le-leb}
use Rattle.std.specs.Prelude.{max}
use Rattle.fact_join.specs.Cell.{generation_of}
use Rattle.std.specs.FinMap.{entries, entries_sorted, from_entries, entries-insert, get-entries, empty, len-empty, len-entries}
use Rattle.std.specs.FinMap.Entries.{find, is_sorted, put}
use Rattle.std.proofs.Common.{length, map}
use Rattle.fact_join.specs.declared.cell.Cell.{Cell}
use Rattle.reply_facts.specs.declared.key.Key.{Key}
use Rattle.reply_facts.specs.declared.value.Value.{Value}
use Rattle.reply_facts.specs.Key.{key_cmp}
use Rattle.fact_store.specs.Floor.{entries-dropped, kept}
use Rattle.reply_facts.specs.Known.{known_in, value_in}
use Rattle.fact_store.specs.Seen.{cell_at, seen}
use Rattle.fact_store.specs.View.{Facts, cell_for, cells_of, view}
use Rattle.reply_facts.proofs.Keys.{key_total}

-- each entry put in at its index, the last one first
abbrev pub put_all : List (Key × Cell Value) → List (Key × Cell Value)
put_all [] = []
put_all (e ∷ es) = put key_cmp e.0 e.1 (put_all es)

-- a list of no length is empty
no_length : (es : List (Key × Cell Value)) → length es ≡ 0 → es ≡ []
no_length [] e = refl
no_length (x ∷ es) e = absurd (cc)

-- the entries of a map made of a list
pub entries-from_entries : (es : List (Key × Cell Value)) → entries (from_entries {R = key_cmp} es) ≡ put_all es
entries-from_entries [] = no_length _ (sym (len-entries (empty {X = Cell Value} {R = key_cmp})) ∙ len-empty key_cmp (Cell Value))
entries-from_entries (e ∷ es) = entries-insert key_total (from_entries es) e.0 e.1 ∙ ap (put key_cmp e.0 e.1) (entries-from_entries es)

-- the cells of a view, as a list that computes
abbrev pub cells_of_view : List (Key × Cell Value) → List (Key × Cell Value)
cells_of_view sightings = put_all (map (λ s. (s.0, cell_at s.0 sightings)) sightings)

-- so computes a map of sightings
pub entries-seen : (sightings : List (Key × Cell Value)) → entries (seen sightings) ≡ cells_of_view sightings
entries-seen sightings = entries-from_entries (map (λ s. (s.0, cell_at s.0 sightings)) sightings)

-- at floor 1 each cell is kept
pub kept_all : (es : List (Key × Cell Value)) → kept 1 es ≡ es
kept_all [] = refl
kept_all (e ∷ es) = ap (λ t. cond t (e ∷ kept 1 es) (kept 1 es)) (le-leb 1 (max 1 (generation_of e.1)) (omega arith))
    ∙ ap (λ (s : List (Key × Cell Value)). e ∷ s) (kept_all es)

-- and so does a view
pub entries-view : (sightings : List (Key × Cell Value)) → cells_of (view sightings) ≡ cells_of_view sightings
entries-view sightings = entries-dropped 1 (seen sightings) ∙ kept_all (entries (seen sightings)) ∙ entries-seen sightings

-- a key's cell is found in the list
pub cell_is_found : (facts : Facts) (key : Key) → cell_for facts key ≡ find key_cmp key (cells_of facts)
cell_is_found facts key = get-entries facts.found key

-- so is what is known of it
pub known_by_cells : (facts : Facts) (key : Key) → value_in (cell_for facts key) ≡ known_in (cells_of facts) key
known_by_cells facts key = ap value_in (cell_is_found facts key)

-- which is in the order of keys
pub cells_in_order : (facts : Facts) → T (is_sorted key_cmp (cells_of facts))
cells_in_order facts = entries_sorted facts.found
