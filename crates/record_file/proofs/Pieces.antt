-- What pieces of a file do, one after the other.
use Rattle.std.proofs.Common.{◌≡◌, ◌⊎◌, inl, inr, max, ℕ, ◌+◌, ◌-◌, ◌<◌, ◌≤◌, ◌^◌, ◌==◌, nat_lt, cond, Bool, true, false, List, [], ◌∷◌, ◌++◌, Option, None, Some}
use Rattle.std.proofs.Common.{Result, Ok, Err, length, refl, sym, ap, ◌∙◌, subst, arith, append_assoc, length-append}
use Rattle.std.specs.List.{concat}
use Rattle.std.proofs.lemmas.List.{take_all}
use Rattle.std.proofs.lemmas.Bool.Decides.{nat_tests}
use Rattle.fact_store.specs.View.{Facts, view_at}
use Rattle.fact_store.specs.Merge.{merge}
use Rattle.reply_facts.specs.declared.key.Key.{Key}
use Rattle.record_file.specs.declared.awaited.Awaited.{Awaited}
use Rattle.record_file.specs.declared.awaited.Awaited.TheVariants as awaited
use Rattle.record_file.specs.declared.file_fault.FileFault.{FileFault}
use Rattle.record_file.specs.declared.file_fault.FileFault.TheVariants.{Magic, Truncated, BadReport, BadCell, CellOrder, Read, Memory, TooLong, BadFloor}
use Rattle.record_file.specs.declared.format.Format.{Format}
use Rattle.record_file.specs.Absorbs.{HasNoFaultYet}
use Rattle.record_file.specs.Feeding.{AddsSightings, Awaits, IsBehindRecords, StopsWith, TakesTo, WantsMemory}
use Rattle.record_file.specs.Feeding.{fault_so_far, floor_behind, offset_of, staying}
use Rattle.record_file.specs.Head.{floor_of, floored_magic, format_in, head_bytes}
use Rattle.record_file.specs.Laws.{IsBadPart}
use Rattle.record_file.specs.Reading.{ending, facts_in, fault_in, floor_in, kept, outcome}
use Rattle.record_file.specs.Reading.{sightings_by}
use Rattle.record_file.proofs.Beginnings.{Found, bad_part_stays, floor-at_least_one, floor-fault, floor-known, floor-long, floor-some, floor-stays, found}
use Rattle.record_file.proofs.Beginnings.{kept-fault, kept-long, late, long-stays, outcome-fault, well, within}
use Rattle.record_file.proofs.Beginnings as first
use Rattle.record_file.proofs.Heads.{format_in-head, head-cut, head-early}
use Rattle.record_file.proofs.Records.{bytes_of, ending-long, ending-part, ending-whole, fault_in-part}
use Rattle.record_file.proofs.Records.{good_records, kept-part, length-file}
use Rattle.record_file.proofs.Records.{outcome-part}
use Rattle.record_file.proofs.Stores.{merge-floors, merge-nothing}

-- bytes without a fault ----------------------------------------------------------------

pub kept-short : (bytes : List ℕ) → length bytes < 8 → kept bytes ≡ []
kept-short bytes short = kept-fault bytes Magic (head-early bytes short)

pub floor-short : (bytes : List ℕ) → length bytes < 8 → floor_in bytes ≡ 1
floor-short bytes short = floor-fault bytes Magic (head-early bytes short)

-- no bytes say nothing
pub nothing-said : (s : Facts) → merge s (facts_in []) ≡ s
nothing-said s =
    ap (λ l. merge s (view_at (floor_in []) l)) (kept-short [] (omega arith)) ∙ ap (λ n. merge s (view_at n [])) (floor-short [] (omega arith))
    ∙ merge-nothing s

module _ (format : Format) (index : ℕ) (last : Option Key) (part fed : List ℕ) (b : IsBehindRecords format index last part fed) where
  pub length-behind : length fed ≡ bytes_of format (length b.records) + length part
  length-behind = ap length b.whole ∙ length-file format b.records part (good_records format None 0 b.records b.good).0

  pub kept-behind : length fed ≤ 2 ^ 40 → kept fed ≡ sightings_by format None b.records
  kept-behind fits =
      let size = length-behind in
      ap kept b.whole ∙ kept-part format b.sound b.records part part (good_records format None 0 b.records b.good).0 (omega arith)
      (take_all (2 ^ 40 - bytes_of format (length b.records)) part (omega arith)) b.short

  pub outcome-behind : length fed ≤ 2 ^ 40 → outcome fed ≡ ending format (length fed)
  outcome-behind fits =
      let size = length-behind in
      let good = good_records format None 0 b.records b.good in
      ap outcome b.whole ∙ outcome-part format b.sound b.records part part good.0 (omega arith) good.1
      (take_all (2 ^ 40 - bytes_of format (length b.records)) part (omega arith)) b.short ∙ ap (λ l. ending format (length l)) (sym b.whole)

  pub format-behind : format_in fed ≡ Ok format
  format-behind = ap format_in b.whole ∙ format_in-head format (concat b.records ++ part) b.sound

  floor-of_behind : floor_in fed ≡ floor_of format
  floor-of_behind = floor-some format fed format-behind

  pub fault_in-behind : length fed ≤ 2 ^ 40 → (format_in fed ≡ Ok format) × (fault_in format fed ≡ None)
  fault_in-behind fits =
      let size = length-behind in
      let good = good_records format None 0 b.records b.good in (
        format-behind,
        ap (fault_in format) b.whole ∙ fault_in-part format b.records part part good.0 (omega arith) good.1
            (take_all (2 ^ 40 - bytes_of format (length b.records)) part (omega arith)) b.short,
      )

-- what is awaited begins behind the bytes, but for the part of it that came
pub length-awaits : (w : Awaited) (part fed : List ℕ) → Awaits w part fed → length fed ≡ offset_of w + length part
length-awaits awaited.Magic part fed h = let same = ap length h.0 in omega arith
length-awaits awaited.Header part fed h = omega (arith, ap length h.0, length-append floored_magic part)
length-awaits (awaited.Record format index last) part fed b =
    length-behind format index last part fed b ∙ ap (λ n. bytes_of format n + length part) (sym b.count)

-- how they end if nothing follows
pub outcome-magic : (part fed : List ℕ) → Awaits awaited.Magic part fed → outcome fed ≡ Err Magic
outcome-magic part fed h = outcome-fault fed Magic (head-early fed (omega (arith, ap length h.0, h.1)))

pub outcome-header : (part fed : List ℕ) → Awaits awaited.Header part fed → outcome fed ≡ Err (Truncated 8)
outcome-header part fed h = outcome-fault fed (Truncated 8) (head-cut fed part h.0 h.1)

pub outcome-whole : (format : Format) (index : ℕ) (last : Option Key) (part fed : List ℕ) → IsBehindRecords format index last part fed
    → length fed < 2 ^ 40 → length part ≡ 0 → outcome fed ≡ Ok tt
outcome-whole format index last part fed b short none =
    let size = length-behind format index last part fed b in
    outcome-behind format index last part fed b (omega arith)
    ∙ ending-whole format (length b.records) (length fed) (omega arith) short

pub outcome-cut : (format : Format) (index : ℕ) (last : Option Key) (part fed : List ℕ) → IsBehindRecords format index last part fed
    → length fed < 2 ^ 40 → 0 < length part → outcome fed ≡ Err (Truncated (bytes_of format index))
outcome-cut format index last part fed b short some =
    let size = length-behind format index last part fed b in
    outcome-behind format index last part fed b (omega arith)
    ∙ ending-part format (length b.records) (length part) (length fed) (omega arith) some b.short short
    ∙ ap (λ n. Err (Truncated (bytes_of format n))) (sym b.count)

so_far-magic : (fed : List ℕ) → length fed < 8 → outcome fed ≡ Err Magic → fault_so_far fed ≡ None
so_far-magic fed short h =
    let few : nat_lt (length fed) 8 ≡ true = grind (arith, nat_tests) in
    ap (staying (length fed)) h ∙ ap (λ b. cond b None (Some Magic)) few

-- and nothing is decided yet
pub so_far-none : (w : Awaited) (part fed : List ℕ) → Awaits w part fed → length fed < 2 ^ 40 → fault_so_far fed ≡ None
so_far-none awaited.Magic part fed h short = so_far-magic fed (omega (arith, ap length h.0, h.1)) (outcome-magic part fed h)
so_far-none awaited.Header part fed h short = ap (staying (length fed)) (outcome-header part fed h)
so_far-none (awaited.Record format index last) [] fed b short = ap (staying (length fed)) (outcome-whole format index last [] fed b short refl)
so_far-none (awaited.Record format index last) (x ∷ xs) fed b short =
    ap (staying (length fed)) (outcome-cut format index last (x ∷ xs) fed b short (omega arith))

-- but that they are too many
pub so_far-late : (w : Awaited) (part fed : List ℕ) → Awaits w part fed → length fed ≡ 2 ^ 40 → fault_so_far fed ≡ Some TooLong
so_far-late awaited.Magic part fed h long = absurd (omega (arith, ap length h.0, h.1))
so_far-late awaited.Header part fed h long = absurd (omega (arith, ap length h.0, h.1, length-append floored_magic part))
so_far-late (awaited.Record format index last) part fed b long =
    ap (staying (length fed)) (outcome-behind format index last part fed b (omega arith) ∙ ending-long format (length fed) (omega arith))

-- a fault that came stays ----------------------------------------------------------------

pub staying-bad : (n : ℕ) (f : FileFault) → IsBadPart f → staying n (Err f) ≡ Some f
staying-bad n (BadReport i g) bad = refl
staying-bad n (BadCell i) bad = refl
staying-bad n (CellOrder i) bad = refl
staying-bad n BadFloor bad = refl
staying-bad n Magic bad = absurd bad
staying-bad n (Truncated offset) bad = absurd bad
staying-bad n Read bad = absurd bad
staying-bad n Memory bad = absurd bad
staying-bad n TooLong bad = absurd bad

-- eight bytes that are no magic, a bad header or record, or too many bytes without a fault
abbrev pub IsStaying : List ℕ → FileFault → Type 0
IsStaying a f = ((f ≡ Magic) × (8 ≤ length a)) ⊎ (IsBadPart f ⊎ ((f ≡ TooLong) × HasNoFaultYet a))

-- it is what the bytes answer, and what follows them changes nothing
pub record Stays (a rest : List ℕ) (f : FileFault) : Type 0 where
  pub kind : IsStaying a f
  pub now : outcome a ≡ Err f
  pub later : fault_so_far (a ++ rest) ≡ Some f
  pub keeps : kept (a ++ rest) ≡ kept a
  pub floors : floor_in (a ++ rest) ≡ floor_in a

magic_by : (n : ℕ) (b : Bool) (f : FileFault) → nat_lt n 8 ≡ b → cond b None (Some Magic) ≡ Some f → (8 ≤ n) × (f ≡ Magic)
magic_by n true f is h = absurd (cc)
magic_by n false f is h = (grind (arith, nat_tests), cc)

pub so_far-other : (a : List ℕ) → 8 ≤ length a → format_in a ≡ Err Magic → fault_so_far a ≡ Some Magic
so_far-other a long none =
    let many : nat_lt (length a) 8 ≡ false = grind (arith, nat_tests) in
    ap (staying (length a)) (outcome-fault a Magic none) ∙ ap (λ b. cond b None (Some Magic)) many

stays_bad : (a rest : List ℕ) (g f : FileFault) → IsBadPart g → outcome a ≡ Err g → staying (length a) (Err g) ≡ Some f → Stays a rest f
stays_bad a rest g f is_bad is h =
    let same : g ≡ f = let e : Some g ≡ Some f = sym (staying-bad (length a) g is_bad) ∙ h in cc in
    let later = bad_part_stays a rest g is_bad is in
    let P : FileFault → Type 0 = Stays a rest in
    subst P same (record {
      kind = inr (inl is_bad);
      now = is;
      later = ap (staying (length (a ++ rest))) later.outcome_stays ∙ staying-bad (length (a ++ rest)) g is_bad;
      keeps = later.kept_stays;
      floors = later.floor_stays;
    })

stays_by : (a rest : List ℕ) (o : Result (Unit {0}) FileFault) (f : FileFault) → Found a o → outcome a ≡ o → staying (length a) o ≡ Some f → Stays a rest f
stays_by a rest _ f (first.other none others) is h =
    let m = magic_by (length a) (nat_lt (length a) 8) f refl h in
    let more = others rest m.0 in
    let P : FileFault → Type 0 = Stays a rest in
    subst P (sym m.1) (record {
      kind = inl (refl, m.0);
      now = is;
      later = so_far-other (a ++ rest) (omega (arith, length-append a rest, m.0)) more;
      keeps = kept-fault (a ++ rest) Magic more ∙ sym (kept-fault a Magic none);
      floors = floor-fault (a ++ rest) Magic more ∙ sym (floor-fault a Magic none);
    })
stays_by a rest _ f (first.cut some) is h = absurd (cc)
stays_by a rest _ f (first.unfloored some long) is h = stays_bad a rest BadFloor f tt is h
stays_by a rest _ f (first.bad format some g is_bad there) is h = stays_bad a rest g f is_bad is h
stays_by a rest _ f (first.ended format some none _ (well short even)) is h = absurd (cc)
stays_by a rest _ f (first.ended format some none _ (within offset)) is h = absurd (cc)
stays_by a rest _ f (first.ended format some none _ (late long)) is h =
    let same : TooLong ≡ f = cc in
    let P : FileFault → Type 0 = Stays a rest in
    subst P same (record {
      kind = inr (inr (refl, inr (format, some, none)));
      now = is;
      later = ap (staying (length (a ++ rest))) (long-stays a rest is);
      keeps = kept-long a rest is;
      floors = floor-long a rest is;
    })

pub stays : (a rest : List ℕ) (f : FileFault) → fault_so_far a ≡ Some f → Stays a rest f
stays a rest f h = stays_by a rest (outcome a) f (found a) refl h

-- one piece behind another ------------------------------------------------------------------

floors_by : (f g h : ℕ) (b c : Bool) → f == 1 ≡ b → g == 1 ≡ c → 1 ≤ h → ((f ≡ 1 → ⊥) → g ≡ f) → ((g ≡ 1 → ⊥) → h ≡ g)
    → max (cond b g 1) (cond c h 1) ≡ cond b h 1
floors_by f g h true true is other some stays_f stays_g = let one : g ≡ 1 = grind (arith, nat_tests) in omega arith
floors_by f g h true false is other some stays_f stays_g =
    let not_one : g ≡ 1 → ⊥ = λ one. let yes : g == 1 ≡ true = grind (arith, nat_tests) in absurd (cc) in omega (arith, stays_g not_one)
floors_by f g h false true is other some stays_f stays_g =
    let not_one : f ≡ 1 → ⊥ = λ one. let yes : f == 1 ≡ true = grind (arith, nat_tests) in absurd (cc) in
    let one : g ≡ 1 = grind (arith, nat_tests) in absurd (not_one (sym (stays_f not_one) ∙ one))
floors_by f g h false false is other some stays_f stays_g = omega arith

-- a floor that is told behind these bytes, and one behind both
floors-then : (fed p q : List ℕ) → max (floor_behind fed p) (floor_behind (fed ++ p) q) ≡ floor_behind fed (p ++ q)
floors-then fed p q =
    floors_by (floor_in fed) (floor_in (fed ++ p)) (floor_in ((fed ++ p) ++ q)) (floor_in fed == 1) (floor_in (fed ++ p) == 1) refl refl
    (floor-at_least_one ((fed ++ p) ++ q)) (floor-stays fed p) (floor-stays (fed ++ p) q)
    ∙ ap (λ l. cond (floor_in fed == 1) (floor_in l) 1) (append_assoc fed p q)

floor_all_by : (f g : ℕ) (b : Bool) → f == 1 ≡ b → 1 ≤ f → 1 ≤ g → ((f ≡ 1 → ⊥) → g ≡ f) → max f (cond b g 1) ≡ g
floor_all_by f g true is some also stays_f = let one : f ≡ 1 = grind (arith, nat_tests) in omega arith
floor_all_by f g false is some also stays_f =
    let not_one : f ≡ 1 → ⊥ = λ one. let yes : f == 1 ≡ true = grind (arith, nat_tests) in absurd (cc) in omega (arith, stays_f not_one)

-- the floor of these bytes, and what is told behind them, is that of all
floors-all : (fed p : List ℕ) → max (floor_in fed) (floor_behind fed p) ≡ floor_in (fed ++ p)
floors-all fed p =
    floor_all_by (floor_in fed) (floor_in (fed ++ p)) (floor_in fed == 1) refl (floor-at_least_one fed) (floor-at_least_one (fed ++ p)) (floor-stays fed p)

floor_same_by : (f g : ℕ) (b : Bool) → f == 1 ≡ b → g ≡ f → cond b g 1 ≡ 1
floor_same_by f g true is same = let one : f ≡ 1 = grind (arith, nat_tests) in same ∙ one
floor_same_by f g false is same = refl

-- none is told where the floor stays
pub floor-same : (fed q : List ℕ) → floor_in (fed ++ q) ≡ floor_in fed → floor_behind fed q ≡ 1
floor-same fed q same = floor_same_by (floor_in fed) (floor_in (fed ++ q)) (floor_in fed == 1) refl same

told-then : (fed p q : List ℕ) (s m t : Facts) → AddsSightings fed p s m → AddsSightings (fed ++ p) q m t → AddsSightings fed (p ++ q) s t
told-then fed p q s m t a b = record {
  sightings = a.sightings ++ b.sightings;
  more = ap kept (sym (append_assoc fed p q)) ∙ b.more ∙ ap (λ l. l ++ b.sightings) a.more ∙ append_assoc (kept fed) a.sightings b.sightings;
  held = b.held ∙ ap (λ x. merge x (view_at (floor_behind (fed ++ p) q) b.sightings)) a.held
      ∙ merge-floors s (floor_behind fed p) (floor_behind (fed ++ p) q) a.sightings b.sightings
      ∙ ap (λ n. merge s (view_at n (a.sightings ++ b.sightings))) (floors-then fed p q);
}

-- the store holds what all bytes say
pub held-then : (old mid new : Facts) (taken bytes : List ℕ) → mid ≡ merge old (facts_in taken) → AddsSightings taken bytes mid new
    → new ≡ merge old (facts_in (taken ++ bytes))
held-then old mid new taken bytes held h =
    h.held ∙ ap (λ x. merge x (view_at (floor_behind taken bytes) h.sightings)) held
    ∙ merge-floors old (floor_in taken) (floor_behind taken bytes) (kept taken) h.sightings
    ∙ ap (λ n. merge old (view_at n (kept taken ++ h.sightings))) (floors-all taken bytes)
    ∙ ap (λ l. merge old (view_at (floor_in (taken ++ bytes)) l)) (sym h.more)

-- and where a record wanted memory, what stands before it says
pub held-wanted : (old mid new : Facts) (taken bytes : List ℕ) → mid ≡ merge old (facts_in taken) → (w : WantsMemory taken bytes mid new)
    → new ≡ merge old (facts_in (head_bytes w.format ++ concat w.records))
held-wanted old mid new taken bytes held w =
    let all : format_in (taken ++ bytes) ≡ Ok w.format =
    ap format_in w.whole ∙ format_in-head w.format (concat w.records ++ (w.r ++ w.behind)) w.sound in
    let floor : floor_in (taken ++ bytes) ≡ floor_in (head_bytes w.format ++ concat w.records) =
    floor-some w.format (taken ++ bytes) all
    ∙ sym (floor-some w.format (head_bytes w.format ++ concat w.records) (format_in-head w.format (concat w.records) w.sound)) in
    w.held ∙ ap (λ x. merge x (view_at (floor_behind taken bytes) w.sightings)) held
    ∙ merge-floors old (floor_in taken) (floor_behind taken bytes) (kept taken) w.sightings
    ∙ ap (λ n. merge old (view_at n (kept taken ++ w.sightings))) (floors-all taken bytes ∙ floor)
    ∙ ap (λ l. merge old (view_at (floor_in (head_bytes w.format ++ concat w.records)) l)) (sym w.more)

wants-then : (fed p q : List ℕ) (s m t : Facts) → AddsSightings fed p s m → WantsMemory (fed ++ p) q m t → WantsMemory fed (p ++ q) s t
wants-then fed p q s m t a b = record {
  format = b.format;
  records = b.records;
  r = b.r;
  behind = b.behind;
  sound = b.sound;
  whole = sym (append_assoc fed p q) ∙ b.whole;
  good = b.good;
  completed = let far = b.completed in omega (arith, length-append fed p);
  in_reach = b.in_reach;
  sightings = a.sightings ++ b.sightings;
  more = b.more ∙ ap (λ l. l ++ b.sightings) a.more ∙ append_assoc (kept fed) a.sightings b.sightings;
  held = b.held ∙ ap (λ x. merge x (view_at (floor_behind (fed ++ p) q) b.sightings)) a.held
      ∙ merge-floors s (floor_behind fed p) (floor_behind (fed ++ p) q) a.sightings b.sightings
      ∙ ap (λ n. merge s (view_at n (a.sightings ++ b.sightings))) (floors-then fed p q);
}

stops-then : (f : FileFault) (fed p q : List ℕ) (s m t : Facts) → AddsSightings fed p s m → StopsWith f (fed ++ p) q m t → StopsWith f fed (p ++ q) s t
stops-then f fed p q s m t a (inl h) = inl (h.0, wants-then fed p q s m t a h.1)
stops-then f fed p q s m t a (inr h) = inr (ap fault_so_far (sym (append_assoc fed p q)) ∙ h.0, told-then fed p q s m t a h.1)

pub takes-then : (fed p q : List ℕ) (mid : Awaited) (r : Result Awaited FileFault) (part part' : List ℕ) (s m t : Facts)
    → TakesTo fed p (Ok mid) part s m → TakesTo (fed ++ p) q r part' m t → TakesTo fed (p ++ q) r part' s t
takes-then fed p q mid (Ok next) part part' s m t a b =
    let P : List ℕ → Type 0 = Awaits next part' in (subst P (append_assoc fed p q) b.0, told-then fed p q s m t a.1 b.1)
takes-then fed p q mid (Err f) part part' s m t a b = stops-then f fed p q s m t a.1 b

floor-more : (fed p more : List ℕ) → floor_in ((fed ++ p) ++ more) ≡ floor_in (fed ++ p) → floor_behind fed p ≡ floor_behind fed (p ++ more)
floor-more fed p more same = ap (λ n. cond (floor_in fed == 1) n 1) (sym same ∙ ap floor_in (append_assoc fed p more))

-- what follows a fault changes nothing
pub stops-more : (f : FileFault) (fed p more : List ℕ) (s t : Facts) → StopsWith f fed p s t → StopsWith f fed (p ++ more) s t
stops-more f fed p more s t (inl h) =
    let w = h.1 in
    let m = head_bytes w.format in
    let tail : (m ++ (concat w.records ++ (w.r ++ w.behind))) ++ more ≡ m ++ (concat w.records ++ (w.r ++ (w.behind ++ more))) =
    append_assoc m (concat w.records ++ (w.r ++ w.behind)) more
    ∙ ap (λ l. m ++ l) (append_assoc (concat w.records) (w.r ++ w.behind) more ∙ ap (λ l. concat w.records ++ l) (append_assoc w.r w.behind more)) in
    let all : format_in (fed ++ p) ≡ Ok w.format = ap format_in w.whole ∙ format_in-head w.format (concat w.records ++ (w.r ++ w.behind)) w.sound in
    inl (
      h.0,
      record {
        format = w.format;
        records = w.records;
        r = w.r;
        behind = w.behind ++ more;
        sound = w.sound;
        whole = sym (append_assoc fed p more) ∙ ap (λ l. l ++ more) w.whole ∙ tail;
        good = w.good;
        completed = w.completed;
        in_reach = w.in_reach;
        sightings = w.sightings;
        more = w.more;
        held = w.held ∙ ap (λ n. merge s (view_at n w.sightings)) (floor-more fed p more (floor-known w.format (fed ++ p) more all));
      },
    )
stops-more f fed p more s t (inr h) =
    let is = stays (fed ++ p) more f h.0 in
    inr (
      ap fault_so_far (sym (append_assoc fed p more)) ∙ is.later,
      record {
        sightings = h.1.sightings;
        more = ap kept (sym (append_assoc fed p more)) ∙ is.keeps ∙ h.1.more;
        held = h.1.held ∙ ap (λ n. merge s (view_at n h.1.sightings)) (floor-more fed p more is.floors);
      },
    )
