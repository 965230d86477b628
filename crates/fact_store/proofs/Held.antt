-- The facts that a store's cells stand for.
use Rattle.std.proofs.Common.{◌≡◌, ℕ, ◌+◌, ◌<◌, List, [], ◌∷◌, ◌++◌, ◌≤◌, length, take, refl, sym, ap, ◌∙◌, subst, arith, inl, inr, rules, true, false, cond}
use Rattle.std.proofs.lemmas.Bool.{cases_lt}
use Rattle.std.proofs.lemmas.List.{nil_from_length, append-nil, get_or_default}
use Rattle.std.proofs.lemmas.List.Elements.{All-contains}
use Rattle.std.specs.Prelude.{All, Contains, IsTrue, Option, None, Some, IsNone, IfSome, ◌↔◌, get_or, max, unwrap_or, slice_get}
use Rattle.std.specs.FinMap.{empty, get, entries}
use Rattle.fact_join.specs.declared.cell.Cell.{Cell}
use Rattle.fact_join.specs.Cell.{generation_of}
use Rattle.reply_facts.specs.declared.key.Key.{Key}
use Rattle.reply_facts.specs.declared.value.Value.{Value}
use Rattle.fact_store.specs.Cells.{AreCells, AreHeld}
use Rattle.fact_store.specs.Floor.{dropped, is_kept, kept, rising_kept}
use Rattle.fact_store.specs.Merge.{IsMerge, join, merge, merge_maps}
use Rattle.fact_store.specs.Seen.{CellMap, is_of, seen}
use Rattle.reply_facts.specs.Sighting.{IsSighting}
use Rattle.fact_store.specs.View.{Facts, IsNewestGeneration, at_floor, cell_for, cells_of, no_facts, raised, view, view_at, AreInRange}
use Rattle.fact_store.specs.Coded.{same_facts}
use Rattle.reply_facts.specs.Value.{is_same_value}
use Rattle.reply_facts.specs.Values.{same_value_exact, same_value_itself}
use Rattle.fact_join.specs.Join.{below-le, joined_above_first}
use Rattle.fact_store.proofs.CellOrder.{held, shown, entries-rising, contains_at}
use Rattle.fact_store.proofs.Floors.{dropped_none, dropped_twice, kept_from_one, kept_newer, seen_kept}
use Rattle.fact_store.proofs.MapMerges.{get-merge_maps, joined_there, merge_maps_empty, the_same}
use Rattle.fact_store.proofs.Merges.{at_own_floor, at_same_floor, kept_whole, merge_at, merge_empty, merge_is_associative, merge_is_commutative, merge_law, raised_at}
use Rattle.fact_store.proofs.Orders.{contained_get, get_contained}
use Rattle.fact_store.proofs.SightingRanges.{get-seen_of_one, in_range, IsNewestAmong, newer_sighting, newest_of_seen, older_sighting}
use Rattle.fact_store.proofs.Steps.{taken}
use Rattle.fact_store.proofs.Views.{raising_forgets, view_of_all, view_of_both}
use Rattle.smp_bytes.proofs.Members.{contains_none, contains-from_filter, list_all_true}

-- a list whose cells all are kept
all_there : (floor : ℕ) (cells : List (Key × Cell Value)) → All (λ s. IsTrue (is_kept floor s.1)) cells → kept floor cells ≡ cells
all_there floor cells h =
    kept_whole floor cells (list_all_true (λ s. is_kept floor s.1) cells (λ x k. All-contains (λ s. IsTrue (is_kept floor s.1)) cells x h k))

-- of cells that are there, one by one
all_of_them : (P : Key × Cell Value → Type 0) (cells : List (Key × Cell Value)) → ((x : Key × Cell Value) → Contains cells x → P x) → All P cells
all_of_them P cells f = λ i x h. f (get_or cells i x) (i, h, get_or_default cells i (get_or cells i x) x h)

-- the cells of a store at a floor
module _ (floor : ℕ) (cells : List (Key × Cell Value)) (are : AreHeld floor cells) (facts : Facts) (is : view_at floor cells ≡ facts) where
  -- none is dropped
  pub found_is : facts.found ≡ seen cells
  found_is =
      ap (λ (x : Facts). x.found) (sym is)
      ∙ dropped_none (max 1 floor) (seen cells) (ap (kept (max 1 floor)) same ∙ all_there (max 1 floor) cells (λ i x h. kept_from_one floor (get_or cells i x).1
      ∙ are.kept i x h) ∙ sym same)
    where
      same : entries (seen cells) ≡ cells
      same = entries-rising cells (held _ are.are.rising)

  -- they are the entries
  pub entries_are : cells_of facts ≡ cells
  entries_are = ap entries found_is ∙ entries-rising cells (held _ are.are.rising)

  -- in range
  pub are_in_range : AreInRange facts
  are_in_range = λ q c e. in_range cells (λ x k. All-contains IsSighting cells x are.are.in_range k) q c (ap (λ (m : CellMap). get m q) (sym found_is) ∙ e)

  -- a cell that stands at an index is that of its key
  pub get_at : (i : ℕ) (key : Key) (c : Cell Value) → slice_get cells i ≡ Some (key, c) → cell_for facts key ≡ Some c
  get_at i key c e =
      contained_get facts.found key c (subst (λ (s : List (Key × Cell Value)). Contains s (key, c)) (sym entries_are) (contains_at cells i (key, c) e))

  -- the cell that a search found
  pub found_at : (i : ℕ) (key : Key) (e : Key × Cell Value) → slice_get cells i ≡ Some e → (c : Cell Value) × (slice_get cells i ≡ Some (key, c)) → Some e.1
      ≡ cell_for facts key
  found_at i key e at found = ap Some (some_cell e (key, found.0) (sym at ∙ found.1)) ∙ sym (get_at i key found.0 found.1)
    where
      some_cell : (a b : Key × Cell Value) → Some a ≡ Some b → a.1 ≡ b.1
      some_cell a b e = cc

  -- the cell that it did not find
  pub not_found : (key : Key) → get (seen cells) key ≡ None → cell_for facts key ≡ None
  not_found key e = ap (λ (m : CellMap). get m key) found_is ∙ e

-- the floor that is seen
pub floor_is : (floor : ℕ) (cells : List (Key × Cell Value)) (facts : Facts) → view_at floor cells ≡ facts → 1 ≤ floor → floor ≡ facts.floor
floor_is floor cells facts is h = omega (arith, ap (λ (x : Facts). x.floor) is)

-- a floor that is raised ---------------------------------------------------------------------

-- what is kept gives the same view
pub view-kept : (floor : ℕ) (cells : List (Key × Cell Value)) → view_at floor (kept floor cells) ≡ view_at floor cells
view-kept floor cells =
    ap (at_floor floor) (sym (seen_kept floor cells))
    ∙ same_facts (at_floor floor (dropped floor (seen cells))) (view_at floor cells) refl (dropped_twice floor (max 1 floor) (seen cells) (omega arith))

-- above what was held
pub raised_up : (floor greater : ℕ) (cells : List (Key × Cell Value)) (facts : Facts) → view_at floor cells ≡ facts → floor < greater
    → view_at greater (kept greater cells) ≡ raised facts greater
raised_up floor greater cells facts is h =
    view-kept greater cells ∙ at_same_floor greater (max floor greater) (seen cells) (omega arith) ∙ sym (raised_at floor greater (seen cells))
    ∙ ap (λ (x : Facts). raised x greater) is

-- not above it
pub raised_none : (floor lesser : ℕ) (cells : List (Key × Cell Value)) (facts : Facts) → view_at floor cells ≡ facts → lesser ≤ floor → facts
    ≡ raised facts lesser
raised_none floor lesser cells facts is h =
    sym is ∙ at_same_floor floor (max floor lesser) (seen cells) (omega arith) ∙ sym (raised_at floor lesser (seen cells))
    ∙ ap (λ (x : Facts). raised x lesser) is

-- cells that are kept are those of a store
pub kept_held : (floor : ℕ) (cells : List (Key × Cell Value)) → 1 ≤ floor → AreCells cells → AreHeld floor (kept floor cells)
kept_held floor cells one are =
    record {
      from_one = one;
      are = record {
        rising = shown _ (rising_kept floor cells (held _ are.rising));
        in_range = all_of_them IsSighting (kept floor cells)
            (λ x k. All-contains IsSighting cells x are.in_range (contains-from_filter (λ s. is_kept floor s.1) cells x k).0);
      };
      kept = all_of_them (λ s. IsTrue (is_kept floor s.1)) (kept floor cells) (λ x k. (contains-from_filter (λ s. is_kept floor s.1) cells x k).1);
    }

-- what is put in and merged ------------------------------------------------------------------

-- each cell of a map is kept
abbrev pub AllKept : ℕ → CellMap → Type 0
AllKept floor u = (q : Key) (c : Cell Value) → get u q ≡ Some c → is_kept floor c ≡ true

-- those of a store's cells
pub held_kept : (floor : ℕ) (cells : List (Key × Cell Value)) → AreHeld floor cells → AllKept floor (seen cells)
held_kept floor cells are q c e =
    All-contains (λ s. IsTrue (is_kept floor s.1)) cells (q, c) are.kept
    (subst (λ (s : List (Key × Cell Value)). Contains s (q, c)) (entries-rising cells (held _ are.are.rising)) (get_contained (seen cells) q c e))

-- that of one sighting
pub one_kept : (floor : ℕ) (x : Key × Cell Value) → is_kept floor x.1 ≡ true → AllKept floor (seen (x ∷ []))
one_kept floor x k q c e =
    elim (is_of q x) as (λ t. cond t (Some x.1) None ≡ Some c → is_kept floor c ≡ true) [
      | true ↦ λ i. ap (is_kept floor) (sym (the_same x.1 c i)) ∙ k
      | false ↦ λ i. absurd (cc)
    ] (sym (get-seen_of_one x q) ∙ e)

-- so each cell of their merge is
merged_kept : (floor : ℕ) (u v : CellMap) → AllKept floor u → AllKept floor v → AllKept floor (merge_maps u v)
merged_kept floor u v f g q c e = there (get u q) (get v q) (f q) (g q) (sym (get-merge_maps u v q) ∙ e)
  where
    there : (o p : Option (Cell Value)) → ((d : Cell Value) → o ≡ Some d → is_kept floor d ≡ true) → ((d : Cell Value) → p ≡ Some d → is_kept floor d ≡ true)
        → joined_there o p ≡ Some c → is_kept floor c ≡ true
    there None p f g i = g c i
    there (Some a) None f g i = f c i
    there (Some a) (Some b) f g i =
        ap (is_kept floor) (sym (the_same (join a b) c i))
        ∙ kept_newer floor a (join a b) (below-le a (join a b) (joined_above_first is_same_value same_value_exact same_value_itself a b)) (f a refl)

-- and they are those of a store
pub merged_held : (floor : ℕ) (u v : CellMap) (cells : List (Key × Cell Value)) → 1 ≤ floor → AllKept floor u → AllKept floor v → AreCells cells → seen cells
    ≡ merge_maps u v → AreHeld floor cells
merged_held floor u v cells one f g are is =
    record {
      from_one = one;
      are = are;
      kept = all_of_them (λ s. IsTrue (is_kept floor s.1)) cells (λ x k.
          merged_kept floor u v f g x.0 x.1
          (ap (λ (m : CellMap). get m x.0) (sym is)
          ∙ contained_get (seen cells) x.0 x.1 (subst (λ (s : List (Key × Cell Value)). Contains s x) (sym (entries-rising cells (held _ are.rising))) k)));
    }

-- at the greater floor their view is the merge of the views
pub merged_view : (f h : ℕ) (a b cells : List (Key × Cell Value)) (x y : Facts) → view_at f a ≡ x → view_at h b ≡ y → seen cells ≡ merge_maps (seen a) (seen b)
    → view_at (max f h) cells ≡ merge x y
merged_view f h a b cells x y ex ey is =
    ap (at_floor (max f h)) is ∙ sym (merge_at f h (seen a) (seen b)) ∙ ap (λ (z : Facts). merge z (view_at h b)) ex ∙ ap (merge x) ey

-- one sighting that was put in
pub put_in_view : (floor : ℕ) (was cells : List (Key × Cell Value)) (x : Key × Cell Value) → seen cells ≡ merge_maps (seen was) (seen (x ∷ []))
    → view_at floor cells ≡ merge (view_at floor was) (view (x ∷ []))
put_in_view floor was cells x is =
    at_same_floor floor (max floor 1) (seen cells) (omega arith) ∙ merged_view floor 1 was (x ∷ []) cells (view_at floor was) (view (x ∷ [])) refl refl is

-- facts merged into a store without cells get its floor
pub none_held : (floor : ℕ) (cells : List (Key × Cell Value)) (facts : Facts) → view_at floor cells ≡ facts → length cells ≡ 0 → (x : Facts) → raised x floor
    ≡ merge facts x
none_held floor cells facts is none x =
    sym (ap (λ (y : Facts). merge y x) (sym is ∙ ap (view_at floor) (nil_from_length cells none))
    ∙ ap (merge (view_at floor [])) (sym (at_own_floor x))
    ∙ merge_at floor x.floor empty x.found
    ∙ ap (at_floor (max floor x.floor)) (merge_maps_empty x.found)
    ∙ at_same_floor (max floor x.floor) (max x.floor floor) x.found (omega arith))

-- nothing merged into facts
pub none_merged : (x : Facts) → x ≡ merge x no_facts
none_merged x = sym (merge_is_commutative x no_facts ∙ merge_empty x)

-- sightings that are merged into none
pub from_none : (floor : ℕ) (s : List (Key × Cell Value)) → merge (raised no_facts floor) (view s) ≡ view_at floor s
from_none floor s =
    ap (λ (x : Facts). merge x (view s)) (raising_forgets 1 floor []) ∙ sym (view_of_both (max 1 floor) 1 [] s)
    ∙ at_same_floor (max (max 1 floor) 1) floor (seen s) (omega arith)

-- the merge is the least above both
pub is_merge : (x y z : Facts) → z ≡ merge x y → IsMerge x y z
is_merge x y z e = subst (IsMerge x y) (sym e) (merge_law x y)

-- one more of a list is merged
pub one_more_merged : (facts was new : Facts) (sightings : List (Key × Cell Value)) (i : ℕ) (x : Key × Cell Value) → x ≡ get_or sightings i x → i
    < length sightings → was ≡ merge facts (view (take i sightings)) → new ≡ merge was (view (x ∷ [])) → new ≡ merge facts (view (take (i + 1) sightings))
one_more_merged facts was new sightings i x e h old is =
    is ∙ ap (λ (f : Facts). merge f (view (x ∷ []))) old ∙ merge_is_associative facts (view (take i sightings)) (view (x ∷ []))
    ∙ ap (merge facts) (sym (view_of_all 1 (take i sightings) (x ∷ [])) ∙ ap view (sym (taken sightings i x e h)))

-- the newest ------------------------------------------------------------------------------------

-- one more of which the newest is sought
pub newest_more : (s : List (Key × Cell Value)) (x : Key × Cell Value) (o : Option ℕ) (g : ℕ) → generation_of x.1 ≡ g → IsNewestAmong s o
    → IsNewestAmong (s ++ x ∷ []) (Some (max (unwrap_or o 0) g))
newest_more s x None g e n =
    subst (λ (m : ℕ). IsNewestAmong (s ++ x ∷ []) (Some m)) (omega arith)
    (newer_sighting s x g e (λ y k. absurd (contains_none y (subst (λ (z : List (Key × Cell Value)). Contains z y) n k))))
newest_more s x (Some h) g e n =
    elim (cases_lt h g) [
      | inl l ↦ subst (λ (m : ℕ). IsNewestAmong (s ++ x ∷ []) (Some m)) (omega arith) (newer_sighting s x g e (λ y k. omega (arith, n.1 y k)))
      | inr l ↦ subst (λ (m : ℕ). IsNewestAmong (s ++ x ∷ []) (Some m)) (omega arith) (older_sighting s x h (omega (arith, e)) n)
    ]

-- all were given
pub given_all : (given rest cells : List (Key × Cell Value)) → rest ≡ [] → given ++ rest ≡ cells → given ≡ cells
given_all given rest cells none all = sym (append-nil given) ∙ ap (λ (s : List (Key × Cell Value)). given ++ s) (sym none) ∙ all

-- there is no newest of all exactly where there are no cells
pub none_of : (given cells : List (Key × Cell Value)) → given ≡ cells → (newest : Option ℕ) → IsNewestAmong given newest → IsNone newest ↔ (cells ≡ [])
none_of given cells same None n = (λ _. sym same ∙ n, λ _. search rules)
none_of given cells same (Some g) n =
    (λ h. absurd (cc h), λ e. absurd (contains_none n.0.0 (subst (λ (s : List (Key × Cell Value)). Contains s n.0.0) (same ∙ e) n.0.1)))

-- the newest of all is that of the facts
pub newest_of_all : (given cells : List (Key × Cell Value)) (facts : Facts) → facts.found ≡ seen cells → given ≡ cells → (newest : Option ℕ)
    → IsNewestAmong given newest → IfSome newest (IsNewestGeneration facts)
newest_of_all given cells facts is same None n = tt
newest_of_all given cells facts is same (Some g) n =
    subst (IsNewestGeneration facts) n.0.2 (newest_of_seen given n.0.0 n.0.1 (λ y k. omega (arith, n.0.2, n.1 y k)) facts (is ∙ ap seen (sym same)))
