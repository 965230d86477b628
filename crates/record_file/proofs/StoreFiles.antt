-- Bytes with the head of a store file are accepted exactly if they are the store file of facts in range, and are read
-- back.
use Rattle.std.proofs.Common.{inl, inr, ◌≡◌, ℕ, max, ◌+◌, Bool, true, false, ◌&&◌, List, [], ◌∷◌, ◌++◌, Option, None, Some, Result, Ok, Err, map, drop, cond, nat_eq, nat_le, refl}
use Rattle.std.proofs.Common.{sym, ap, ◌∙◌, subst, arith, append-nil}
use Rattle.std.specs.Prelude.{T, Contains, option_map}
use Rattle.std.specs.declared.cmp.Ordering.TheVariants.{Less}
use Rattle.std.specs.Ordering.{is_lt}
use Rattle.std.specs.List.{concat, flat_map, list_all, starts_with}
use Rattle.std.proofs.lemmas.Bool.{le-leb}
use Rattle.std.proofs.lemmas.List.{drop_at}
use Rattle.std.specs.FinMap.{entries}
use Rattle.std.specs.FinMap.Entries.{below_all, is_sorted}
use Rattle.fact_join.specs.declared.cell.Cell.{Cell}
use Rattle.fact_join.specs.Cell.{generation_of}
use Rattle.reply_facts.specs.declared.key.Key.{Key}
use Rattle.reply_facts.specs.declared.value.Value.{Value}
use Rattle.reply_facts.specs.Key.{is_above, key_cmp}
use Rattle.reply_facts.specs.Sighting.{IsSighting}
use Rattle.fact_store.specs.Floor.{dropped, entries-dropped, has_floor, is_kept, kept as kept_cells}
use Rattle.fact_store.specs.Seen.{seen}
use Rattle.fact_store.specs.View.{Facts, view_at, cells_of, no_facts, AreInRange}
use Rattle.fact_store.proofs.Entries.{cells_in_order}
use Rattle.reply_facts.proofs.Keys.{key_total}
use Rattle.fact_store.proofs.Merges.{merge_empty}
use Rattle.smp_bytes.proofs.Members.{contains_cases, contains_here, contains_later, contains_none}
use Rattle.fact_store.proofs.Orders.{contained_get, get_contained, less_from_test}
use Rattle.fact_store.proofs.Views.{view_of_its_cells}
use Rattle.fact_store.proofs.CellOrder.{entries-rising}
use Rattle.record_file.specs.declared.file_fault.FileFault.{FileFault}
use Rattle.record_file.specs.declared.file_fault.FileFault.TheVariants.{BadCell, CellOrder}
use Rattle.record_file.specs.declared.format.Format.{Format}
use Rattle.record_file.specs.declared.format.Format.TheVariants.{Cells}
use Rattle.std.specs.Io.KnownBytes.{Consumes, IsAtEnd}
use Rattle.byte_io.specs.Source.{SourceState}
use Rattle.record_file.specs.Absorbs.{AbsorbsFrom}
use Rattle.record_file.specs.CellRecord.{cell_of, record_bytes}
use Rattle.record_file.specs.Head.{IsFormat, floor_of, floored_magic, head_bytes, head_size}
use Rattle.record_file.specs.Reading.{Judgement, facts_in, fault_or, first_fault, floor_in, is_at_told, key_in, kept, of_cell, records, records_in_reach, sightings_by}
use Rattle.record_file.specs.Reading.{outcome, sightings_then}
use Rattle.record_file.specs.StoreFile.{cells_file}
use Rattle.record_file.specs.StoreLaws.{AbsorbingReadsBack, FactsAreReadBack, FactsHaveOneSpelling, IsFlooredFile, IsStoreFile, StoreFilesAreAccepted}
use Rattle.record_file.proofs.Accepted.{IsFile, accepted_is_file, file_is_accepted}
use Rattle.record_file.proofs.Cells.{cell_of-is, cell_of-record, length-record}
use Rattle.record_file.proofs.Beginnings.{floor-some, found, well_found}
use Rattle.record_file.proofs.Heads.{floor_positive, floored_format, length-head, whole_of}
use Rattle.record_file.proofs.Records.{AreRecords, Sightings, kept-head, records-concat, records-short}

-- keys that rise, and lists in their order -------------------------------------------------

-- each key comes after the one before it, and the first after this one
abbrev pub Rise : Option Key → Sightings → Type 0
Rise last [] = Unit {0}
Rise last (e ∷ es) = (is_above last e.0 ≡ true) × Rise (Some e.0) es

first_of : (a b : Bool) → T (a && b) → T a
first_of true b h = tt
first_of false b h = h

second_of : (a b : Bool) → T (a && b) → T b
second_of true b h = h
second_of false b h = absurd h

both_of : (a b : Bool) → T a → T b → T (a && b)
both_of true b h k = k
both_of false b h k = h

true_is : (b : Bool) → T b → b ≡ true
true_is true h = refl
true_is false h = absurd h

is_true : (b : Bool) → b ≡ true → T b
is_true true h = tt
is_true false h = absurd (cc)

rise_behind : (x : Key) (es : Sightings) → T (below_all key_cmp x es) → T (is_sorted key_cmp es) → Rise (Some x) es
rise_behind x [] below sorted = tt
rise_behind x (e ∷ es) below sorted = (
  true_is (is_lt (key_cmp x e.0)) (first_of (is_lt (key_cmp x e.0)) (below_all key_cmp x es) below),
  rise_behind e.0 es (first_of (below_all key_cmp e.0 es) (is_sorted key_cmp es) sorted) (second_of (below_all key_cmp e.0 es) (is_sorted key_cmp es) sorted),
)

pub sorted_rise : (es : Sightings) → T (is_sorted key_cmp es) → Rise None es
sorted_rise [] sorted = tt
sorted_rise (e ∷ es) sorted = (
  refl,
  rise_behind e.0 es (first_of (below_all key_cmp e.0 es) (is_sorted key_cmp es) sorted)
      (second_of (below_all key_cmp e.0 es) (is_sorted key_cmp es) sorted),
)

-- what is below a key is below all that comes after it
below_later : (x y : Key) (es : Sightings) → key_cmp x y ≡ Less → T (below_all key_cmp y es) → T (below_all key_cmp x es)
below_later x y [] less below = tt
below_later x y (e ∷ es) less below =
    let next = less_from_test (key_cmp y e.0) (true_is (is_lt (key_cmp y e.0)) (first_of (is_lt (key_cmp y e.0)) (below_all key_cmp y es) below)) in
    both_of (is_lt (key_cmp x e.0)) (below_all key_cmp x es)
    (is_true (is_lt (key_cmp x e.0)) (ap is_lt (key_total.trans x y e.0 less next)))
    (below_later x y es less (second_of (is_lt (key_cmp y e.0)) (below_all key_cmp y es) below))

rise_sorted : (x : Key) (es : Sightings) → Rise (Some x) es → T (below_all key_cmp x es) × T (is_sorted key_cmp es)
rise_sorted x [] h = (tt, tt)
rise_sorted x (e ∷ es) h =
    let later = rise_sorted e.0 es h.1 in (
      both_of (is_lt (key_cmp x e.0)) (below_all key_cmp x es) (is_true (is_lt (key_cmp x e.0)) h.0)
          (below_later x e.0 es (less_from_test (key_cmp x e.0) h.0) later.0),
      both_of (below_all key_cmp e.0 es) (is_sorted key_cmp es) later.0 later.1,
    )

pub rising_sorted : (es : Sightings) → Rise None es → T (is_sorted key_cmp es)
rising_sorted [] h = tt
rising_sorted (e ∷ es) h = let later = rise_sorted e.0 es h.1 in both_of (below_all key_cmp e.0 es) (is_sorted key_cmp es) later.0 later.1

-- sightings and their records ----------------------------------------------------------

abbrev pub AllSightings : Sightings → Type 0
AllSightings [] = Unit {0}
AllSightings (e ∷ es) = IsSighting e × AllSightings es

all_sightings : (es : Sightings) → ((e : Key × Cell Value) → Contains es e → IsSighting e) → AllSightings es
all_sightings [] h = tt
all_sightings (e ∷ es) h = (h e (contains_here e es), all_sightings es (λ f there. h f (contains_later e f es there)))

sighting_there : (es : Sightings) → AllSightings es → (e : Key × Cell Value) → Contains es e → IsSighting e
sighting_there [] h e there = absurd (contains_none e there)
sighting_there (x ∷ es) h e there =
    let P : Key × Cell Value → Type 0 = IsSighting in
    elim (contains_cases x e es there) [ inl same ↦ subst P same h.0 | inr later ↦ sighting_there es h.1 e later ]

-- each is at the floor that is told, or above it
abbrev pub AllAtTold : Option ℕ → Sightings → Type 0
AllAtTold head_floor [] = Unit {0}
AllAtTold head_floor (e ∷ es) = (is_at_told head_floor e.1 ≡ true) × AllAtTold head_floor es

-- good records are the spellings of sightings whose keys rise, none below the floor, and tell them
pub record Spelled (head_floor : Option ℕ) (last : Option Key) (i : ℕ) (es : Sightings) : Type 0 where
  pub records : AreRecords 32 (map record_bytes es)
  pub good : first_fault (Cells head_floor) last i (map record_bytes es) ≡ None
  pub tells : sightings_by (Cells head_floor) last (map record_bytes es) ≡ es

pub spelled : (head_floor : Option ℕ) (last : Option Key) (i : ℕ) (es : Sightings) → Rise last es → AllSightings es → AllAtTold head_floor es
    → Spelled head_floor last i es
spelled head_floor last i [] rise all above = record { records = tt; good = refl; tells = refl }
spelled head_floor last i (e ∷ es) rise all above =
    let later = spelled head_floor (Some e.0) (i + 1) es rise.1 all.1 above.1 in
    let is = cell_of-record e all.0 in
    let judgement : of_cell head_floor last (cell_of (record_bytes e)) ≡ Ok (e ∷ []) = ap (of_cell head_floor last) is
    ∙ ap (λ (b : Bool). let j : Judgement = cond b (cond (is_above last e.0) (Ok (e ∷ [])) (Err CellOrder)) (Err BadCell) in j) above.0
    ∙ ap (λ (b : Bool). let j : Judgement = cond b (Ok (e ∷ [])) (Err CellOrder) in j) rise.0 in
    let key : key_in (Cells head_floor) (record_bytes e) ≡ Some e.0 = ap (option_map (λ e. e.0)) is in
    record {
      records = (length-record e, later.records);
      good = ap (λ v. fault_or i v (first_fault (Cells head_floor) (key_in (Cells head_floor) (record_bytes e)) (i + 1) (map record_bytes es))) judgement
          ∙ ap (λ k. first_fault (Cells head_floor) k (i + 1) (map record_bytes es)) key ∙ later.good;
      tells = ap (λ v. sightings_then v (sightings_by (Cells head_floor) (key_in (Cells head_floor) (record_bytes e)) (map record_bytes es))) judgement
          ∙ ap (λ k. e ∷ sightings_by (Cells head_floor) k (map record_bytes es)) key ∙ ap (λ l. e ∷ l) later.tells;
    }

-- sightings of which records are the spellings
pub record Spells (head_floor : Option ℕ) (last : Option Key) (rs : List (List ℕ)) (es : Sightings) : Type 0 where
  pub records : rs ≡ map record_bytes es
  pub rise : Rise last es
  pub sightings : AllSightings es
  pub above : AllAtTold head_floor es

-- a good cell
pub record GoodCell (head_floor : Option ℕ) (last : Option Key) (o : Option (Key × Cell Value)) (later : Option FileFault) : Type 0 where
  pub e : Key × Cell Value
  pub is : o ≡ Some e
  pub at : is_at_told head_floor e.1 ≡ true
  pub after : is_above last e.0 ≡ true
  pub none : later ≡ None

good_cell_by : (head_floor : Option ℕ) (last : Option Key) (i : ℕ) (e : Key × Cell Value) (later : Option FileFault) (a b : Bool) → is_at_told head_floor e.1
    ≡ a
    → is_above last e.0 ≡ b → fault_or i (cond a (cond b (Ok (e ∷ [])) (Err CellOrder)) (Err BadCell)) later ≡ None → GoodCell head_floor last (Some e) later
good_cell_by head_floor last i e later true true at after h = record { e = e; is = refl; at = at; after = after; none = h }
good_cell_by head_floor last i e later true false at after h = absurd (cc)
good_cell_by head_floor last i e later false b at after h = absurd (cc)

good_cell_is : (head_floor : Option ℕ) (last : Option Key) (i : ℕ) (o : Option (Key × Cell Value)) (later : Option FileFault)
    → fault_or i (of_cell head_floor last o) later ≡ None → GoodCell head_floor last o later
good_cell_is head_floor last i None later h = absurd (cc)
good_cell_is head_floor last i (Some e) later h = good_cell_by head_floor last i e later (is_at_told head_floor e.1) (is_above last e.0) refl refl h

pub good_spells : (head_floor : Option ℕ) (last : Option Key) (i : ℕ) (rs : List (List ℕ)) → first_fault (Cells head_floor) last i rs ≡ None
    → (es : Sightings) × Spells head_floor last rs es
good_spells head_floor last i [] h = ([], record { records = refl; rise = tt; sightings = tt; above = tt })
good_spells head_floor last i (r ∷ rs) h =
    let first = good_cell_is head_floor last i (cell_of r) (first_fault (Cells head_floor) (key_in (Cells head_floor) r) (i + 1) rs) h in
    let e = first.e in
    let is = cell_of-is r e first.is in
    let key : key_in (Cells head_floor) r ≡ Some e.0 = ap (option_map (λ e. e.0)) first.is in
    let later = good_spells head_floor (Some e.0) (i + 1) rs (ap (λ k. first_fault (Cells head_floor) k (i + 1) rs) (sym key) ∙ first.none) in (
      e ∷ later.0,
      record {
        records = ap (λ x. x ∷ rs) is.1 ∙ ap (λ l. record_bytes e ∷ l) later.1.records;
        rise = (first.after, later.1.rise);
        sightings = (is.0, later.1.sightings);
        above = (first.at, later.1.above);
      },
    )

-- floors ----------------------------------------------------------------------------------

all_at : (floor : ℕ) (es : Sightings) → T (list_all (λ e. is_kept floor e.1) es) → AllAtTold (Some floor) es
all_at floor [] h = tt
all_at floor (e ∷ es) h = (
  true_is (is_kept floor e.1) (first_of (is_kept floor e.1) (list_all (λ x. is_kept floor x.1) es) h),
  all_at floor es (second_of (is_kept floor e.1) (list_all (λ x. is_kept floor x.1) es) h),
)

all_untold : (es : Sightings) → AllAtTold None es
all_untold [] = tt
all_untold (e ∷ es) = (refl, all_untold es)

-- the cells of facts are at their floor
pub cells_at : (head_floor : Option ℕ) (facts : Facts) → facts.floor ≡ floor_of (Cells head_floor) → AllAtTold head_floor (cells_of facts)
cells_at None facts same = all_untold (cells_of facts)
cells_at (Some floor) facts same =
    let P : ℕ → Type 0 = λ f. T (has_floor f facts.found) in
    let above : T (has_floor floor facts.found) = subst P same facts.above in
    all_at floor (cells_of facts) (second_of (nat_le 1 floor) (list_all (λ e. is_kept floor e.1) (entries facts.found)) above)

at_one : (c : Cell Value) → is_kept 1 c ≡ true
at_one c = le-leb 1 (max 1 (generation_of c)) (omega arith)

-- what is at the floor that is told is kept there
told_kept : (head_floor : Option ℕ) (c : Cell Value) → is_at_told head_floor c ≡ true → is_kept (floor_of (Cells head_floor)) c ≡ true
told_kept None c h = at_one c
told_kept (Some floor) c h = h

all_kept : (head_floor : Option ℕ) (es : Sightings) → AllAtTold head_floor es → kept_cells (floor_of (Cells head_floor)) es ≡ es
all_kept head_floor [] h = refl
all_kept head_floor (e ∷ es) h =
    ap (λ b. cond b (e ∷ kept_cells (floor_of (Cells head_floor)) es) (kept_cells (floor_of (Cells head_floor)) es)) (told_kept head_floor e.1 h.0)
    ∙ ap (λ l. e ∷ l) (all_kept head_floor es h.1)

-- whole files ---------------------------------------------------------------------------

flat : (es : Sightings) → flat_map record_bytes es ≡ concat (map record_bytes es)
flat [] = refl
flat (e ∷ es) = ap (λ l. record_bytes e ++ l) (flat es)

pub in_range_sightings : (facts : Facts) → AreInRange facts → AllSightings (cells_of facts)
in_range_sightings facts h = all_sightings (cells_of facts) (λ e there. h e.0 e.1 (contained_get facts.found e.0 e.1 there))

facts_spelled : (head_floor : Option ℕ) (facts : Facts) → AreInRange facts → facts.floor ≡ floor_of (Cells head_floor)
    → Spelled head_floor None 0 (cells_of facts)
facts_spelled head_floor facts h floor =
    spelled head_floor None 0 (cells_of facts) (sorted_rise (cells_of facts) (cells_in_order facts)) (in_range_sightings facts h)
    (cells_at head_floor facts floor)

whole_file : (head_floor : Option ℕ) (facts : Facts) → cells_file head_floor (cells_of facts) ≡ head_bytes (Cells head_floor)
    ++ concat (map record_bytes (cells_of facts))
whole_file head_floor facts = ap (λ l. head_bytes (Cells head_floor) ++ l) (flat (cells_of facts))

store_is_file : (head_floor : Option ℕ) (bytes : List ℕ) (facts : Facts) → IsStoreFile head_floor bytes facts
    → IsFile (Cells head_floor) bytes (map record_bytes (cells_of facts))
store_is_file head_floor bytes facts is =
    let spells = facts_spelled head_floor facts is.in_range is.floor in
    record { sound = is.sound; whole = is.whole ∙ whole_file head_floor facts; records = spells.records; good = spells.good; short = is.short }

-- the records of a store file
records-file : (head_floor : Option ℕ) (bytes : List ℕ) (facts : Facts) → IsStoreFile head_floor bytes facts
    → records 32 (drop (head_size (Cells head_floor)) bytes) ≡ map record_bytes (cells_of facts)
records-file head_floor bytes facts is =
    let rs = map record_bytes (cells_of facts) in
    ap (λ l. records 32 (drop (head_size (Cells head_floor)) l)) (is.whole ∙ whole_file head_floor facts)
    ∙ ap (records 32) (drop_at (head_bytes (Cells head_floor)) (concat rs) (head_size (Cells head_floor)) (length-head (Cells head_floor))
    ∙ sym (append-nil (concat rs)))
    ∙ records-concat 32 rs [] (omega arith) (facts_spelled head_floor facts is.in_range is.floor).records
    ∙ ap (λ l. rs ++ l) (records-short 32 [] (omega arith)) ∙ append-nil rs

pub read_back : FactsAreReadBack
read_back head_floor bytes facts is =
    let ok = file_is_accepted (Cells head_floor) bytes (map record_bytes (cells_of facts)) (store_is_file head_floor bytes facts is) in
    let reach = (accepted_is_file (Cells head_floor) bytes ok.0 ok.1).0 in
    let rs = reach ∙ records-file head_floor bytes facts is in
    let whole = is.whole ∙ whole_file head_floor facts in
    let keeps : kept bytes ≡ cells_of facts =
    ap kept whole ∙ kept-head (Cells head_floor) is.sound (concat (map record_bytes (cells_of facts)))
    ∙ ap (λ b. sightings_by (Cells head_floor) None (records_in_reach (Cells head_floor) b)) (sym whole)
    ∙ ap (sightings_by (Cells head_floor) None) rs ∙ (facts_spelled head_floor facts is.in_range is.floor).tells in
    record {
      accepted = ok.1;
      cells = keeps;
      says = ap (λ l. view_at (floor_in bytes) l) keeps
          ∙ ap (λ f. view_at f (cells_of facts)) (floor-some (Cells head_floor) bytes ok.0 ∙ sym is.floor) ∙ view_of_its_cells facts;
    }

-- the facts whose entries these are
pub record FactsWith (head_floor : Option ℕ) (es : Sightings) : Type 0 where
  pub facts : Facts
  pub cells : cells_of facts ≡ es
  pub in_range : AreInRange facts
  pub floor : facts.floor ≡ floor_of (Cells head_floor)

pub facts_with : (head_floor : Option ℕ) (es : Sightings) → IsFormat (Cells head_floor) → Rise None es → AllSightings es → AllAtTold head_floor es
    → FactsWith head_floor es
facts_with head_floor es sound rise sightings above =
    let floor = floor_of (Cells head_floor) in
    let facts : Facts = view_at floor es in
    let least : max 1 floor ≡ floor = omega (arith, floor_positive (Cells head_floor) sound) in
    let same : cells_of facts ≡ es = ap (λ f. entries (dropped f (seen es))) least ∙ entries-dropped floor (seen es)
    ∙ ap (kept_cells floor) (entries-rising es (rising_sorted es rise)) ∙ all_kept head_floor es above in
    let P : Sightings → Type 0 = AllSightings in
    let all = subst P (sym same) sightings in
    record {
      facts = facts;
      cells = same;
      in_range = λ key c there. sighting_there (cells_of facts) all (key, c) (get_contained facts.found key c there);
      floor = least;
    }

pub store_files_are_accepted : StoreFilesAreAccepted
store_files_are_accepted head_floor bytes = (
  (λ ok.
      let is = (accepted_is_file (Cells head_floor) bytes ok.0 ok.1).1 in
      let spells = good_spells head_floor None 0 (records 32 (drop (head_size (Cells head_floor)) bytes)) is.good in
      let f = facts_with head_floor spells.0 is.sound spells.1.rise spells.1.sightings spells.1.above in (
        f.facts,
        record {
          whole = is.whole ∙ ap (λ rs. head_bytes (Cells head_floor) ++ concat rs) (spells.1.records ∙ ap (map record_bytes) (sym f.cells))
              ∙ sym (whole_file head_floor f.facts);
          sound = is.sound;
          floor = f.floor;
          in_range = f.in_range;
          short = is.short;
        },
      )),
  (λ file. file_is_accepted (Cells head_floor) bytes (map record_bytes (cells_of file.0)) (store_is_file head_floor bytes file.0 file.1)),
)

-- a file that tells its floor is the store file of what it says
floored_is : (bytes : List ℕ) → IsFlooredFile bytes → (floor : ℕ) × (facts : Facts) × IsStoreFile (Some floor) bytes facts
floored_is bytes is =
    let was = well_found bytes (outcome bytes) (found bytes) is.accepted in
    let begins = (whole_of bytes was.0 was.1).1 in
    let floored = floored_format was.0 begins.0 (ap (λ l. starts_with nat_eq l floored_magic) (sym begins.1) ∙ is.begins) in
    let f = (store_files_are_accepted (Some floored.0) bytes).0 (
      was.1
          ∙ ap (λ (f : Format). let r : Result Format FileFault = Ok f in r) floored.1,
      is.accepted,
    ) in
    (floored.0, f.0, f.1)

pub one_spelling : FactsHaveOneSpelling
one_spelling bytes others one other same =
    let a = floored_is bytes one in
    let b = floored_is others other in
    let facts : a.1 ≡ b.1 = sym (read_back (Some a.0) bytes a.1 a.2).says ∙ same ∙ (read_back (Some b.0) others b.1 b.2).says in
    let floors : a.0 ≡ b.0 = sym a.2.floor ∙ ap (λ (x : Facts). x.floor) facts ∙ b.2.floor in
    a.2.whole ∙ ap (λ n. cells_file (Some n) (cells_of a.1)) floors ∙ ap (λ (x : Facts). cells_file (Some b.0) (cells_of x)) facts ∙ sym b.2.whole

-- what was taken of a known source that ended is all of it
taken_whole : (left left' : Option (List ℕ)) (n m : ℕ) (bytes rest : List ℕ) (old new : Facts) → left ≡ Some bytes → left' ≡ Some rest
    → (h : AbsorbsFrom left left' n m (Ok tt) old new) → h.taken ≡ bytes
taken_whole left left' n m bytes rest old new before after h =
    let P : Option (List ℕ) → Option (List ℕ) → Type 0 = λ a b. Consumes a b h.taken × IsAtEnd b in
    let ends : Consumes (Some bytes) (Some rest) h.taken × IsAtEnd (Some rest) = subst (λ (a : Option (List ℕ)). P a (Some rest)) before
    (subst (λ (b : Option (List ℕ)). P left b) after (h.consumed, h.decided)) in
    sym (ends.0 ∙ ap (λ r. h.taken ++ r) ends.1 ∙ append-nil h.taken)

pub absorbing_reads_back : {S : Type 0} (state : S → SourceState) → AbsorbingReadsBack state
absorbing_reads_back state source source' head_floor bytes rest facts new before after is absorbed =
    let whole = taken_whole (state source).left (state source').left (state source).interruptions (state source').interruptions bytes rest no_facts new
    before after absorbed in
    absorbed.held ∙ merge_empty (facts_in absorbed.taken) ∙ ap facts_in whole ∙ (read_back head_floor bytes facts is).says
