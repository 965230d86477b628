-- What the first bytes decide stays, whatever follows them.
use Rattle.std.proofs.Common.{◌≡◌, ◌⊎◌, inl, inr, ℕ, zero, suc, ◌+◌, ◌-◌, ◌*◌, ◌/◌, ◌%◌, ◌<◌, ◌≤◌, ◌^◌, ◌==◌, nat_le, cond, Bool, true, false, List}
use Rattle.std.proofs.Common.{[], ◌∷◌, ◌++◌, Option, None, Some, Result, Ok, Err, IfSome, length, take, drop, refl, sym, ap, ◌∙◌, subst, arith}
use Rattle.std.proofs.Common.{append_assoc, append-nil, length-append, length-drop, length-take, take-append-drop}
use Rattle.std.specs.List.{concat}
use Rattle.std.proofs.lemmas.List.{length-take-le, take-append-le}
use Rattle.std.proofs.lemmas.Bool.Decides.{nat_tests}
use Rattle.std.proofs.lemmas.Bool.{cases_lt}
use Rattle.std.proofs.Math.Nat.{div-add-mod}
use Rattle.fact_store.specs.View.{Facts}
use Rattle.reply_facts.specs.declared.key.Key.{Key}
use Rattle.record_file.specs.declared.file_fault.FileFault.{FileFault}
use Rattle.record_file.specs.declared.file_fault.FileFault.TheVariants.{Magic, Truncated, BadReport, BadCell, CellOrder, Memory, Read, TooLong, BadFloor}
use Rattle.record_file.specs.declared.format.Format.{Format}
use Rattle.record_file.specs.Absorbs.{AbsorbsFrom, AnswersOutcome, IsDecided, WasInterruptedTooOften}
use Rattle.record_file.specs.Head.{floor_of, format_in, head_size}
use Rattle.record_file.specs.Laws.{BadPartStays, IsBadPart}
use Rattle.record_file.specs.Reading.{Judgement, ending, fault_first, fault_in, fault_or, first_fault, first_records, floor_as, floor_in, judged, kept}
use Rattle.record_file.specs.Reading.{kept_as, key_in, outcome, outcome_as, record_size, records, records_in_reach, sightings_by}
use Rattle.record_file.proofs.Formats.{judged-bad}
use Rattle.record_file.proofs.Heads.{Begins, begins, format-long, format-more, format-stays, floor_positive, head-short, whole_of}
use Rattle.record_file.proofs.Heads as head
use Rattle.record_file.proofs.Records.{AreRecords, ending-long, first_fault-bad, records-concat, size-positive, sightings_by-bad}

-- the first records, and what stands behind them
pub first_records-whole : (size n : ℕ) (x : List ℕ) → size * n ≤ length x
    → AreRecords size (first_records size n x) × ((tail : List ℕ) × (x ≡ concat (first_records size n x) ++ tail))
first_records-whole size zero x h = (tt, (x, refl))
first_records-whole size (suc n) x h =
    let later = first_records-whole size n (drop size x) (omega (arith, length-drop size x)) in (
      (length-take-le size x (omega arith), later.0),
      (
        later.1.0,
        sym (take-append-drop size x) ∙ ap (λ l. take size x ++ l) later.1.1 ∙ sym
            (append_assoc (take size x) (concat (first_records size n (drop size x))) later.1.0),
      ),
    )

records-more : (size : ℕ) (x y : List ℕ) → 0 < size → (more : List (List ℕ)) × (records size (x ++ y) ≡ records size x ++ more)
unfolding records
records-more size x y some =
    let n = length x / size in
    let split : size * (length x / size) + length x % size ≡ length x = div-add-mod (length x) size in
    let fits : size * (length x / size) ≤ length x = omega arith in
    let whole = first_records-whole size n x fits in (
      records size (whole.1.0 ++ y),
      ap (λ l. records size (l ++ y)) whole.1.1 ∙ ap (records size) (append_assoc (concat (first_records size n x)) whole.1.0 y)
          ∙ records-concat size (first_records size n x) (whole.1.0 ++ y) some whole.0,
    )

take-more : (n : ℕ) (x y : List ℕ) → (more : List ℕ) × (take n (x ++ y) ≡ take n x ++ more)
take-more zero x y = ([], refl)
take-more (suc n) [] y = (take (suc n) y, refl)
take-more (suc n) (b ∷ x) y = let later = take-more n x y in (later.0, ap (λ l. b ∷ l) later.1)

drop-more : (n : ℕ) (x y : List ℕ) → n ≤ length x → drop n (x ++ y) ≡ drop n x ++ y
drop-more zero x y h = refl
drop-more (suc n) [] y h = absurd (omega arith)
drop-more (suc n) (b ∷ x) y h = drop-more n x y (omega arith)

pub records_in_reach-more : (format : Format) (a rest : List ℕ) → head_size format ≤ length a
    → (more : List (List ℕ)) × (records_in_reach format (a ++ rest) ≡ records_in_reach format a ++ more)
records_in_reach-more format a rest long =
    let w = record_size format in
    let n = head_size format in
    let small = head-short format in
    let cut = take-more (2 ^ 40) a rest in
    let fits : n ≤ length (take (2 ^ 40) a) = omega (arith, small.1, length-take (2 ^ 40) a) in
    let dropped = drop-more n (take (2 ^ 40) a) cut.0 fits in
    let both = records-more w (drop n (take (2 ^ 40) a)) cut.0 (size-positive format) in
    (both.0, ap (λ l. records w (drop n l)) cut.1 ∙ ap (records w) dropped ∙ both.1)

-- the first fault of records is one of a bad record
fault_or-bad : (v : Judgement) (i : ℕ) (later : Option FileFault) (e : FileFault) → fault_or i v later ≡ Some e
    → ((f : ℕ → FileFault) → v ≡ Err f → IsBadPart (f i)) → (later ≡ Some e → IsBadPart e) → IsBadPart e
fault_or-bad (Ok sightings) i later e h bad k = k h
fault_or-bad (Err f) i later e h bad k = let same : f i ≡ e = cc in let P : FileFault → Type 0 = IsBadPart in subst P same (bad f refl)

first_fault-is_bad : (format : Format) (last : Option Key) (i : ℕ) (rs : List (List ℕ)) (e : FileFault) → first_fault format last i rs ≡ Some e → IsBadPart e
first_fault-is_bad format last i [] e h = absurd (cc)
first_fault-is_bad format last i (r ∷ rs) e h =
    fault_or-bad (judged format last r) i (first_fault format (key_in format r) (i + 1) rs) e h (λ f bad. judged-bad format last r f i bad)
    (λ later. first_fault-is_bad format (key_in format r) (i + 1) rs e later)

-- good records end well, within a record, or too late
pub data Ends (format : Format) (size : ℕ) : Result (Unit {0}) FileFault → Type 0 where
  well : size < 2 ^ 40 → (size - head_size format) % record_size format ≡ 0 → Ends format size (Ok tt)
  within : (offset : ℕ) → Ends format size (Err (Truncated offset))
  late : 2 ^ 40 ≤ size → Ends format size (Err TooLong)

ends_by : (format : Format) (size : ℕ) (b c : Bool) (offset : ℕ) → (b ≡ true → 2 ^ 40 ≤ size) → (b ≡ false → size < 2 ^ 40)
    → (c ≡ true → (size - head_size format) % record_size format ≡ 0)
    → Ends format size (cond b (Err TooLong) (cond c (Ok tt) (Err (Truncated offset))))
ends_by format size true c offset h k even = late (h refl)
ends_by format size false true offset h k even = well (k refl) (even refl)
ends_by format size false false offset h k even = within offset

ends : (format : Format) (size : ℕ) → Ends format size (ending format size)
unfolding ending
ends format size =
    let behind = size - head_size format in
    let w = record_size format in
    ends_by format size (nat_le (2 ^ 40) size) (behind % w == 0) (head_size format + w * (behind / w))
    (λ h. grind (arith, nat_tests)) (λ h. grind (arith, nat_tests)) (λ h. grind (arith, nat_tests))

-- what the outcome of bytes says of them
pub data Found (a : List ℕ) : Result (Unit {0}) FileFault → Type 0 where
  other : format_in a ≡ Err Magic → ((rest : List ℕ) → 8 ≤ length a → format_in (a ++ rest) ≡ Err Magic) → Found a (Err Magic)
  cut : format_in a ≡ Err (Truncated 8) → Found a (Err (Truncated 8))
  unfloored : format_in a ≡ Err BadFloor → 16 ≤ length a → Found a (Err BadFloor)
  bad : (format : Format) → format_in a ≡ Ok format → (f : FileFault) → IsBadPart f → fault_in format a ≡ Some f → Found a (Err f)
  ended : (format : Format) → format_in a ≡ Ok format → fault_in format a ≡ None → (e : Result (Unit {0}) FileFault) → Ends format (length a) e → Found a e

pub outcome-fault : (a : List ℕ) (f : FileFault) → format_in a ≡ Err f → outcome a ≡ Err f
unfolding outcome
outcome-fault a f h = ap (λ o. outcome_as o a) h

pub kept-fault : (a : List ℕ) (f : FileFault) → format_in a ≡ Err f → kept a ≡ []
unfolding kept
kept-fault a f h = ap (λ o. kept_as o a) h

pub floor-fault : (a : List ℕ) (f : FileFault) → format_in a ≡ Err f → floor_in a ≡ 1
unfolding floor_in
floor-fault a f h = ap floor_as h

pub outcome-some : (format : Format) (a : List ℕ) → format_in a ≡ Ok format → outcome a ≡ fault_first (fault_in format a) (ending format (length a))
unfolding outcome
outcome-some format a h = ap (λ o. outcome_as o a) h

pub kept-some : (format : Format) (a : List ℕ) → format_in a ≡ Ok format → kept a ≡ sightings_by format None (records_in_reach format a)
unfolding kept
kept-some format a h = ap (λ o. kept_as o a) h

pub floor-some : (format : Format) (a : List ℕ) → format_in a ≡ Ok format → floor_in a ≡ floor_of format
unfolding floor_in
floor-some format a h = ap floor_as h

-- so neither depends on what follows
pub floor-known : (format : Format) (a rest : List ℕ) → format_in a ≡ Ok format → floor_in (a ++ rest) ≡ floor_in a
floor-known format a rest h = floor-some format (a ++ rest) (format-stays a rest format h) ∙ sym (floor-some format a h)

-- a floor that is not 1 was told, and stays
pub floor-stays : (a rest : List ℕ) → (floor_in a ≡ 1 → ⊥) → floor_in (a ++ rest) ≡ floor_in a
floor-stays a rest told =
    elim (format_in a) as (λ o. format_in a ≡ o → floor_in (a ++ rest) ≡ floor_in a) [
      | Ok format ↦ λ h. floor-known format a rest h
      | Err f ↦ λ h. absurd (told (floor-fault a f h))
    ] refl

-- a floor is 1 at least
pub floor-at_least_one : (a : List ℕ) → 1 ≤ floor_in a
floor-at_least_one a =
    elim (format_in a) as (λ o. format_in a ≡ o → 1 ≤ floor_in a) [
      | Ok format ↦ λ h. omega (arith, floor-some format a h, floor_positive format (whole_of a format h).0)
      | Err f ↦ λ h. omega (arith, floor-fault a f h)
    ] refl

found_first : (format : Format) (a : List ℕ) → format_in a ≡ Ok format → (o : Option FileFault) → fault_in format a ≡ o
    → Found a (fault_first o (ending format (length a)))
found_first format a h None none = ended format h none (ending format (length a)) (ends format (length a))
found_first format a h (Some f) some = bad format h f (first_fault-is_bad format None 0 (records_in_reach format a) f some) some

found_fault : (a : List ℕ) (f : FileFault) → format_in a ≡ Err f → Found a (Err f) → Found a (outcome a)
found_fault a f h is = let P : Result (Unit {0}) FileFault → Type 0 = Found a in subst P (sym (outcome-fault a f h)) is

found_by : (a : List ℕ) (o : Result Format FileFault) → format_in a ≡ o → Begins a o → Found a (outcome a)
found_by a _ h (head.whole format sound rest is) =
    let P : Result (Unit {0}) FileFault → Type 0 = Found a in subst P (sym (outcome-some format a h)) (found_first format a h (fault_in format a) refl)
found_by a _ h (head.other more) = found_fault a Magic h (other h more)
found_by a _ h (head.cut part is short) = found_fault a (Truncated 8) h (cut h)
found_by a _ h (head.unfloored long) = found_fault a BadFloor h (unfloored h long)

pub found : (a : List ℕ) → Found a (outcome a)
found a = found_by a (format_in a) refl (begins a)

-- a bad part's fault is no other
not_bad : (f g : FileFault) → IsBadPart f → f ≡ g → (IsBadPart g → ⊥) → ⊥
not_bad f g is same refused = let P : FileFault → Type 0 = IsBadPart in refused (subst P same is)

other_found : (a : List ℕ) (o : Result (Unit {0}) FileFault) → Found a o → o ≡ Err Magic → (rest : List ℕ) → 8 ≤ length a → format_in (a ++ rest) ≡ Err Magic
other_found a _ (other h more) e = more
other_found a _ (cut h) e = absurd (cc)
other_found a _ (unfloored h long) e = absurd (cc)
other_found a _ (bad format h f is_bad some) e = absurd (not_bad f Magic is_bad (cc) (λ no. no))
other_found a _ (ended format h none _ (well short even)) e = absurd (cc)
other_found a _ (ended format h none _ (within offset)) e = absurd (cc)
other_found a _ (ended format h none _ (late long)) e = absurd (cc)

-- a header that is none, or a bad record
pub data Bad (a : List ℕ) (f : FileFault) : Type 0 where
  of_header : f ≡ BadFloor → format_in a ≡ Err BadFloor → 16 ≤ length a → Bad a f
  of_record : (format : Format) → format_in a ≡ Ok format → fault_in format a ≡ Some f → Bad a f

bad_found : (a : List ℕ) (o : Result (Unit {0}) FileFault) (f : FileFault) → Found a o → o ≡ Err f → IsBadPart f → Bad a f
bad_found a _ f (other h more) e is_bad = absurd (not_bad f Magic is_bad (cc) (λ no. no))
bad_found a _ f (cut h) e is_bad = absurd (not_bad f (Truncated 8) is_bad (cc) (λ no. no))
bad_found a _ f (unfloored h long) e is_bad = of_header (cc) h long
bad_found a _ f (bad format h g g_bad some) e is_bad = of_record format h (cc)
bad_found a _ f (ended format h none _ (well short even)) e is_bad = absurd (cc)
bad_found a _ f (ended format h none _ (within offset)) e is_bad = absurd (not_bad f (Truncated offset) is_bad (cc) (λ no. no))
bad_found a _ f (ended format h none _ (late long)) e is_bad = absurd (not_bad f TooLong is_bad (cc) (λ no. no))

pub late_found : (a : List ℕ) (o : Result (Unit {0}) FileFault) → Found a o → o ≡ Err TooLong
    → (format : Format) × (format_in a ≡ Ok format) × (fault_in format a ≡ None) × (2 ^ 40 ≤ length a)
late_found a _ (other h more) e = absurd (cc)
late_found a _ (cut h) e = absurd (cc)
late_found a _ (unfloored h long) e = absurd (cc)
late_found a _ (bad format h f is_bad some) e = absurd (not_bad f TooLong is_bad (cc) (λ no. no))
late_found a _ (ended format h none _ (well short even)) e = absurd (cc)
late_found a _ (ended format h none _ (within offset)) e = absurd (cc)
late_found a _ (ended format h none _ (late long)) e = (format, h, none, long)

pub well_found : (a : List ℕ) (o : Result (Unit {0}) FileFault) → Found a o → o ≡ Ok tt
    → (format : Format) × (format_in a ≡ Ok format) × (fault_in format a ≡ None) × (length a < 2 ^ 40)
    × ((length a - head_size format) % record_size format ≡ 0)
well_found a _ (other h more) e = absurd (cc)
well_found a _ (cut h) e = absurd (cc)
well_found a _ (unfloored h long) e = absurd (cc)
well_found a _ (bad format h f is_bad some) e = absurd (cc)
well_found a _ (ended format h none _ (well short even)) e = (format, h, none, short, even)
well_found a _ (ended format h none _ (within offset)) e = absurd (cc)
well_found a _ (ended format h none _ (late long)) e = absurd (cc)

pub magic-stays : (a rest : List ℕ) → 8 ≤ length a → outcome a ≡ Err Magic → outcome (a ++ rest) ≡ Err Magic
magic-stays a rest long h = outcome-fault (a ++ rest) Magic (other_found a (outcome a) (found a) h rest long)

bad_stays_by : (a rest : List ℕ) (f : FileFault) → Bad a f → outcome (a ++ rest) ≡ Err f
bad_stays_by a rest f (of_header is h long) = outcome-fault (a ++ rest) BadFloor (format-more a rest long ∙ h) ∙ ap (λ g. Err g) (sym is)
bad_stays_by a rest f (of_record format h some) =
    let more = records_in_reach-more format a rest (format-long a format h) in
    let e = ending format (length (a ++ rest)) in
    outcome-some format (a ++ rest) (format-stays a rest format h)
    ∙ ap (λ rs. fault_first (first_fault format None 0 rs) e) more.1
    ∙ ap (λ o. fault_first o e) (first_fault-bad format None 0 (records_in_reach format a) more.0 f some)

pub bad-stays : (a rest : List ℕ) (f : FileFault) → IsBadPart f → outcome a ≡ Err f → outcome (a ++ rest) ≡ Err f
bad-stays a rest f is_bad h = bad_stays_by a rest f (bad_found a (outcome a) f (found a) h is_bad)

pub long-stays : (a rest : List ℕ) → outcome a ≡ Err TooLong → outcome (a ++ rest) ≡ Err TooLong
long-stays a rest h =
    let was = late_found a (outcome a) (found a) h in
    let format = was.0 in
    let w = record_size format in
    let cut_off = take-append-le (2 ^ 40) a rest was.3 in
    let e = ending format (length (a ++ rest)) in
    outcome-some format (a ++ rest) (format-stays a rest format was.1)
    ∙ ap (λ l. fault_first (first_fault format None 0 (records w (drop (head_size format) l))) e) cut_off
    ∙ ap (λ o. fault_first o e) was.2
    ∙ ending-long format (length (a ++ rest)) (omega (arith, length-append a rest, was.3))

magic_answers : (taken rest : List ℕ) → (length taken < 8 → rest ≡ []) → outcome taken ≡ Err Magic → (length taken < 8) ⊎ (8 ≤ length taken)
    → outcome (taken ++ rest) ≡ Err Magic
magic_answers taken rest end h (inl short) = ap outcome (ap (λ l. taken ++ l) (end short) ∙ append-nil taken) ∙ h
magic_answers taken rest end h (inr long) = magic-stays taken rest long h

-- what a reading answers is what all of the bytes answer
answers_all : (answer : Result (Unit {0}) FileFault) (taken rest : List ℕ) (spent : Type 0) → AnswersOutcome answer taken spent
    → IsDecided answer taken (rest ≡ [])
    → AnswersOutcome answer (taken ++ rest) spent
answers_all (Ok u) taken rest spent h end = ap outcome (ap (λ l. taken ++ l) end ∙ append-nil taken) ∙ h
answers_all (Err Magic) taken rest spent h end = magic_answers taken rest end h (cases_lt (length taken) 8)
answers_all (Err (Truncated offset)) taken rest spent h end = ap outcome (ap (λ l. taken ++ l) end ∙ append-nil taken) ∙ h
answers_all (Err (BadReport i f)) taken rest spent h end = bad-stays taken rest (BadReport i f) tt h
answers_all (Err (BadCell i)) taken rest spent h end = bad-stays taken rest (BadCell i) tt h
answers_all (Err (CellOrder i)) taken rest spent h end = bad-stays taken rest (CellOrder i) tt h
answers_all (Err BadFloor) taken rest spent h end = bad-stays taken rest BadFloor tt h
answers_all (Err Read) taken rest spent h end = tt
answers_all (Err Memory) taken rest spent h end = tt
answers_all (Err TooLong) taken rest spent h end = elim h [ inl long ↦ inl (long-stays taken rest long) | inr calls ↦ inr calls ]

answers-weaker : (answer : Result (Unit {0}) FileFault) (bytes : List ℕ) (p q : Type 0) → (p → q) → AnswersOutcome answer bytes p
    → AnswersOutcome answer bytes q
answers-weaker (Ok u) bytes p q f h = h
answers-weaker (Err Magic) bytes p q f h = h
answers-weaker (Err (Truncated offset)) bytes p q f h = h
answers-weaker (Err (BadReport i g)) bytes p q f h = h
answers-weaker (Err (BadCell i)) bytes p q f h = h
answers-weaker (Err (CellOrder i)) bytes p q f h = h
answers-weaker (Err BadFloor) bytes p q f h = h
answers-weaker (Err Read) bytes p q f h = h
answers-weaker (Err Memory) bytes p q f h = h
answers-weaker (Err TooLong) bytes p q f h = elim h [ inl long ↦ inl long | inr calls ↦ inr (f calls) ]

pub answers-known : (answer : Result (Unit {0}) FileFault) (old new : Facts) (left left' : Option (List ℕ)) (n m : ℕ)
    → AbsorbsFrom left left' n m answer old new
    → IfSome left (λ bytes. IfSome left' (λ rest. AnswersOutcome answer bytes (WasInterruptedTooOften bytes rest n m)))
answers-known answer old new None left' n m h = tt
answers-known answer old new (Some bytes) None n m h = tt
answers-known answer old new (Some bytes) (Some rest) n m h =
    let taken = h.taken in
    let P : List ℕ → Type 0 = λ l. AnswersOutcome answer l (WasInterruptedTooOften l rest n m) in
    subst P (sym h.consumed)
    (answers-weaker answer (taken ++ rest) (WasInterruptedTooOften taken [] n m) (WasInterruptedTooOften (taken ++ rest) rest n m)
    (λ e. omega (arith, length-append taken rest))
    (answers_all answer taken rest (WasInterruptedTooOften taken [] n m) h.answered h.decided))

kept_stays_by : (a rest : List ℕ) (f : FileFault) → Bad a f → kept (a ++ rest) ≡ kept a
kept_stays_by a rest f (of_header is h long) = kept-fault (a ++ rest) BadFloor (format-more a rest long ∙ h) ∙ sym (kept-fault a BadFloor h)
kept_stays_by a rest f (of_record format h some) =
    let more = records_in_reach-more format a rest (format-long a format h) in
    kept-some format (a ++ rest) (format-stays a rest format h)
    ∙ ap (sightings_by format None) more.1
    ∙ sightings_by-bad format None 0 (records_in_reach format a) more.0 f some
    ∙ sym (kept-some format a h)

floor_stays_by : (a rest : List ℕ) (f : FileFault) → Bad a f → floor_in (a ++ rest) ≡ floor_in a
floor_stays_by a rest f (of_header is h long) = floor-fault (a ++ rest) BadFloor (format-more a rest long ∙ h) ∙ sym (floor-fault a BadFloor h)
floor_stays_by a rest f (of_record format h some) = floor-known format a rest h

pub bad_part_stays : BadPartStays
bad_part_stays a rest f is_bad h =
    let was = bad_found a (outcome a) f (found a) h is_bad in
    record { outcome_stays = bad_stays_by a rest f was; kept_stays = kept_stays_by a rest f was; floor_stays = floor_stays_by a rest f was }

pub kept-long : (a rest : List ℕ) → outcome a ≡ Err TooLong → kept (a ++ rest) ≡ kept a
kept-long a rest h =
    let was = late_found a (outcome a) (found a) h in
    let format = was.0 in
    kept-some format (a ++ rest) (format-stays a rest format was.1)
    ∙ ap (λ l. sightings_by format None (records (record_size format) (drop (head_size format) l))) (take-append-le (2 ^ 40) a rest was.3)
    ∙ sym (kept-some format a was.1)

pub floor-long : (a rest : List ℕ) → outcome a ≡ Err TooLong → floor_in (a ++ rest) ≡ floor_in a
floor-long a rest h = let was = late_found a (outcome a) (found a) h in floor-known was.0 a rest was.1
