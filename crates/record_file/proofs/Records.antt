-- Lemmas on the records of a file, and on the outcome of reading it.
use Rattle.std.proofs.Common.{◌≡◌, ℕ, suc, ◌+◌, ◌-◌, ◌*◌, ◌/◌, ◌<◌, ◌≤◌, ◌^◌, ◌%◌, ◌==◌, nat_le, true, false, List, [], ◌∷◌, ◌++◌, Option, None, Some}
use Rattle.std.proofs.Common.{Ok, Err, IsOk, length, take, drop, refl, sym, ap, ◌∙◌, arith, append_assoc, append-nil, length-append}
use Rattle.std.specs.List.{AllByRecursion, concat}
use Rattle.std.proofs.lemmas.List.{take_all, take_at, drop_at}
use Rattle.std.proofs.lemmas.List.Folds.{concat-append}
use Rattle.std.proofs.Math.Seq.{take-append-add}
use Rattle.std.proofs.Math.Nat.{div-eq_of_lt, mod-eq_of_lt, mul-add-div, mul-add-mod_self_left}
use Rattle.std.proofs.lemmas.Bool.Decides.{nat_tests}
use Rattle.fact_join.specs.declared.cell.Cell.{Cell}
use Rattle.reply_facts.specs.declared.key.Key.{Key}
use Rattle.reply_facts.specs.declared.value.Value.{Value}
use Rattle.record_file.specs.declared.file_fault.FileFault.{FileFault}
use Rattle.record_file.specs.declared.file_fault.FileFault.TheVariants.{Truncated, TooLong}
use Rattle.record_file.specs.declared.format.Format.{Format}
use Rattle.record_file.specs.declared.format.Format.TheVariants.{Reports, Cells}
use Rattle.record_file.specs.Head.{IsFormat, head_bytes, head_size}
use Rattle.record_file.proofs.Heads.{format_in-head, length-head}
use Rattle.record_file.specs.Reading.{AreGoodRecords, Judgement, ending, fault_first, fault_in, fault_or, first_fault, first_records, judged, kept}
use Rattle.record_file.specs.Reading.{kept_as, key_in, last_key, outcome, outcome_as, record_size, records, records_in_reach, sightings_by, sightings_then}

abbrev pub Sightings : Type 0
Sightings = List (Key × Cell Value)

-- each has this size
abbrev pub AreRecords : ℕ → List (List ℕ) → Type 0
AreRecords size = AllByRecursion (λ r. length r ≡ size)

pub size-positive : (format : Format) → 0 < record_size format
size-positive Reports = omega arith
size-positive (Cells floor) = omega arith

pub length-concat : (size : ℕ) (rs : List (List ℕ)) → AreRecords size rs → length (concat rs) ≡ size * length rs
length-concat size [] h = omega arith
length-concat size (r ∷ rs) h = let first = h.0 in let later = length-concat size rs h.1 in omega (arith, length-append r (concat rs))

-- the records of records that stand one behind the other, and of what follows
pub first_records-concat : (size : ℕ) (rs : List (List ℕ)) (n m : ℕ) (x : List ℕ) → AreRecords size rs → m ≡ length rs + n
    → first_records size m (concat rs ++ x) ≡ rs ++ first_records size n x
first_records-concat size [] n m x h e = let same : m ≡ n = omega arith in rw same refl
first_records-concat size (r ∷ rs) n m x h e =
    let more : m ≡ suc (length rs + n) = omega arith in
    rw (more, append_assoc, take_at r (concat rs ++ x) size h.0, drop_at r (concat rs ++ x) size h.0)
    (ap (λ l. r ∷ l) (first_records-concat size rs n (length rs + n) x h.1 refl))

pub records-concat : (size : ℕ) (rs : List (List ℕ)) (x : List ℕ) → 0 < size → AreRecords size rs → records size (concat rs ++ x) ≡ rs ++ records size x
unfolding records
records-concat size rs x some h =
    let long : length (concat rs ++ x) ≡ size * length rs + length x = omega (arith, length-append (concat rs) x, length-concat size rs h) in
    let count : length (concat rs ++ x) / size ≡ length rs + length x / size = ap (λ n. n / size) long ∙ mul-add-div some (length rs) (length x) in
    first_records-concat size rs (length x / size) (length (concat rs ++ x) / size) x h count

pub records-short : (size : ℕ) (x : List ℕ) → length x < size → records size x ≡ []
unfolding records
records-short size x h = let none : length x / size ≡ 0 = div-eq_of_lt h in rw none refl

-- faults and sightings of records that stand one behind the other ---------------------

pub last_key-more : (format : Format) (last : Option Key) (rs : List (List ℕ)) (r : List ℕ) → last_key format last (rs ++ r ∷ []) ≡ key_in format r
last_key-more format last [] r = refl
last_key-more format last (s ∷ rs) r = last_key-more format (key_in format s) rs r

fault_or-none : (v : Judgement) (i : ℕ) (a b c : Option FileFault) → fault_or i v a ≡ None → (a ≡ None → b ≡ c) → fault_or i v b ≡ c
fault_or-none (Ok sightings) i a b c h k = k h
fault_or-none (Err f) i a b c h k = cc

fault_or-some : (v : Judgement) (i : ℕ) (a b : Option FileFault) (f : FileFault) → fault_or i v a ≡ Some f → (a ≡ Some f → b ≡ Some f) → fault_or i v b ≡ Some f
fault_or-some (Ok sightings) i a b f h k = k h
fault_or-some (Err g) i a b f h k = h

sightings_then-none : (v : Judgement) (i : ℕ) (a : Option FileFault) (x y z : Sightings) → fault_or i v a ≡ None → (a ≡ None → x ≡ y ++ z)
    → sightings_then v x ≡ sightings_then v y ++ z
sightings_then-none (Ok sightings) i a x y z h k = ap (λ l. sightings ++ l) (k h) ∙ sym (append_assoc sightings y z)
sightings_then-none (Err f) i a x y z h k = absurd (cc)

sightings_then-some : (v : Judgement) (i : ℕ) (a : Option FileFault) (f : FileFault) (x y : Sightings) → fault_or i v a ≡ Some f → (a ≡ Some f → x ≡ y)
    → sightings_then v x ≡ sightings_then v y
sightings_then-some (Ok sightings) i a f x y h k = ap (λ l. sightings ++ l) (k h)
sightings_then-some (Err g) i a f x y h k = refl

pub first_fault-good : (format : Format) (last : Option Key) (i : ℕ) (rs more : List (List ℕ)) → first_fault format last i rs ≡ None
    → first_fault format last i (rs ++ more) ≡ first_fault format (last_key format last rs) (i + length rs) more
first_fault-good format last i [] more h = let same : i ≡ i + 0 = omega arith in ap (λ k. first_fault format last k more) same
first_fault-good format last i (r ∷ rs) more h =
    let count : (i + 1) + length rs ≡ i + suc (length rs) = omega arith in
    let next = key_in format r in
    fault_or-none (judged format last r) i (first_fault format next (i + 1) rs) (first_fault format next (i + 1) (rs ++ more))
    (first_fault format (last_key format next rs) (i + suc (length rs)) more) h
    (λ none. first_fault-good format next (i + 1) rs more none ∙ ap (λ k. first_fault format (last_key format next rs) k more) count)

pub first_fault-bad : (format : Format) (last : Option Key) (i : ℕ) (rs more : List (List ℕ)) (f : FileFault) → first_fault format last i rs ≡ Some f
    → first_fault format last i (rs ++ more) ≡ Some f
first_fault-bad format last i [] more f h = absurd (cc)
first_fault-bad format last i (r ∷ rs) more f h =
    let next = key_in format r in
    fault_or-some (judged format last r) i (first_fault format next (i + 1) rs) (first_fault format next (i + 1) (rs ++ more)) f h
    (λ some. first_fault-bad format next (i + 1) rs more f some)

pub sightings_by-good : (format : Format) (last : Option Key) (i : ℕ) (rs more : List (List ℕ)) → first_fault format last i rs ≡ None
    → sightings_by format last (rs ++ more) ≡ sightings_by format last rs ++ sightings_by format (last_key format last rs) more
sightings_by-good format last i [] more h = refl
sightings_by-good format last i (r ∷ rs) more h =
    let next = key_in format r in
    sightings_then-none (judged format last r) i (first_fault format next (i + 1) rs) (sightings_by format next (rs ++ more)) (sightings_by format next rs)
    (sightings_by format (last_key format next rs) more) h (λ none. sightings_by-good format next (i + 1) rs more none)

pub sightings_by-bad : (format : Format) (last : Option Key) (i : ℕ) (rs more : List (List ℕ)) (f : FileFault) → first_fault format last i rs ≡ Some f
    → sightings_by format last (rs ++ more) ≡ sightings_by format last rs
sightings_by-bad format last i [] more f h = absurd (cc)
sightings_by-bad format last i (r ∷ rs) more f h =
    let next = key_in format r in
    sightings_then-some (judged format last r) i (first_fault format next (i + 1) rs) f (sightings_by format next (rs ++ more)) (sightings_by format next rs) h
    (λ some. sightings_by-bad format next (i + 1) rs more f some)

-- whole files ---------------------------------------------------------------------

-- the head, records, and what follows
abbrev pub file : Format → List (List ℕ) → List ℕ → List ℕ
file format rs x = head_bytes format ++ (concat rs ++ x)

-- the bytes of the head and of so many records
abbrev pub bytes_of : Format → ℕ → ℕ
bytes_of format n = head_size format + record_size format * n

pub length-file : (format : Format) (rs : List (List ℕ)) (x : List ℕ) → AreRecords (record_size format) rs
    → length (file format rs x) ≡ bytes_of format (length rs) + length x
length-file format rs x h =
    omega (arith, length-append (head_bytes format) (concat rs ++ x), length-append (concat rs) x, length-concat (record_size format) rs h, length-head format)

pub records_in_reach-file : (format : Format) (rs : List (List ℕ)) (x : List ℕ) → AreRecords (record_size format) rs → bytes_of format (length rs) ≤ 2 ^ 40
    → records_in_reach format (file format rs x) ≡ rs ++ records (record_size format) (take (2 ^ 40 - bytes_of format (length rs)) x)
records_in_reach-file format rs x h fits =
    let w = record_size format in
    let m = head_bytes format in
    let back = take (2 ^ 40 - bytes_of format (length rs)) x in
    let size : length (m ++ concat rs) ≡ bytes_of format (length rs) = omega (arith, length-append m (concat rs), length-concat w rs h, length-head format) in
    let most : 2 ^ 40 ≡ length (m ++ concat rs) + (2 ^ 40 - bytes_of format (length rs)) = omega arith in
    let cut : take (2 ^ 40) (file format rs x) ≡ m ++ (concat rs ++ back) =
    ap (λ l. take (2 ^ 40) l) (sym (append_assoc m (concat rs) x))
    ∙ ap (λ n. take n ((m ++ concat rs) ++ x)) most
    ∙ take-append-add (m ++ concat rs) x (2 ^ 40 - bytes_of format (length rs))
    ∙ append_assoc m (concat rs) back in
    ap (λ l. records w (drop (head_size format) l)) cut ∙ ap (records w) (drop_at m (concat rs ++ back) (head_size format) (length-head format))
    ∙ records-concat w rs back (size-positive format) h

pub outcome-head : (format : Format) → IsFormat format → (x : List ℕ)
    → outcome (head_bytes format ++ x) ≡ fault_first (fault_in format (head_bytes format ++ x)) (ending format (length (head_bytes format ++ x)))
unfolding outcome
outcome-head format sound x = ap (λ o. outcome_as o (head_bytes format ++ x)) (format_in-head format x sound)

pub kept-head : (format : Format) → IsFormat format → (x : List ℕ)
    → kept (head_bytes format ++ x) ≡ sightings_by format None (records_in_reach format (head_bytes format ++ x))
unfolding kept
kept-head format sound x = ap (λ o. kept_as o (head_bytes format ++ x)) (format_in-head format x sound)

pub outcome-file : (format : Format) → IsFormat format → (rs : List (List ℕ)) (x : List ℕ) → AreRecords (record_size format) rs → bytes_of format (length rs)
    ≤ 2 ^ 40
    → outcome (file format rs x) ≡ fault_first (first_fault format None 0 (rs ++ records (record_size format) (take (2 ^ 40 - bytes_of format (length rs)) x)))
    (ending format (length (file format rs x)))
outcome-file format sound rs x h fits =
    outcome-head format sound (concat rs ++ x)
    ∙ ap (λ r. fault_first (first_fault format None 0 r) (ending format (length (file format rs x))))
    (records_in_reach-file format rs x h fits)

pub kept-file : (format : Format) → IsFormat format → (rs : List (List ℕ)) (x : List ℕ) → AreRecords (record_size format) rs → bytes_of format (length rs)
    ≤ 2 ^ 40
    → kept (file format rs x) ≡ sightings_by format None (rs ++ records (record_size format) (take (2 ^ 40 - bytes_of format (length rs)) x))
kept-file format sound rs x h fits = kept-head format sound (concat rs ++ x) ∙ ap (sightings_by format None) (records_in_reach-file format rs x h fits)

-- good records, and less than a whole one behind them, have no fault
pub fault_in-part : (format : Format) (rs : List (List ℕ)) (x part : List ℕ) → AreRecords (record_size format) rs → bytes_of format (length rs) ≤ 2 ^ 40
    → first_fault format None 0 rs ≡ None
    → take (2 ^ 40 - bytes_of format (length rs)) x ≡ part → length part < record_size format → fault_in format (file format rs x) ≡ None
fault_in-part format rs x part h fits good cut short =
    let none = ap (records (record_size format)) cut ∙ records-short (record_size format) part short in
    ap (first_fault format None 0) (records_in_reach-file format rs x h fits ∙ ap (λ l. rs ++ l) none ∙ append-nil rs) ∙ good

-- good records and nothing else have none either
pub fault_in-file : (format : Format) (rs : List (List ℕ)) → AreRecords (record_size format) rs → bytes_of format (length rs) ≤ 2 ^ 40
    → first_fault format None 0 rs ≡ None → fault_in format (file format rs []) ≡ None
fault_in-file format rs h fits good =
    fault_in-part format rs [] [] h fits good (take_all (2 ^ 40 - bytes_of format (length rs)) [] (omega arith)) (size-positive format)

-- what stands behind good records is less than a whole record
pub outcome-part : (format : Format) → IsFormat format → (rs : List (List ℕ)) (x part : List ℕ) → AreRecords (record_size format) rs
    → bytes_of format (length rs) ≤ 2 ^ 40
    → first_fault format None 0 rs ≡ None
    → take (2 ^ 40 - bytes_of format (length rs)) x ≡ part → length part < record_size format
    → outcome (file format rs x) ≡ ending format (length (file format rs x))
outcome-part format sound rs x part h fits good cut short =
    let w = record_size format in
    let none : records w (take (2 ^ 40 - bytes_of format (length rs)) x) ≡ [] = ap (records w) cut ∙ records-short w part short in
    outcome-file format sound rs x h fits
    ∙ ap (λ l. fault_first (first_fault format None 0 (rs ++ l)) (ending format (length (file format rs x)))) none
    ∙ ap (λ f. fault_first f (ending format (length (file format rs x)))) (ap (first_fault format None 0) (append-nil rs) ∙ good)

pub kept-part : (format : Format) → IsFormat format → (rs : List (List ℕ)) (x part : List ℕ) → AreRecords (record_size format) rs → bytes_of format (length rs)
    ≤ 2 ^ 40
    → take (2 ^ 40 - bytes_of format (length rs)) x ≡ part → length part < record_size format → kept (file format rs x) ≡ sightings_by format None rs
kept-part format sound rs x part h fits cut short =
    let w = record_size format in
    let none : records w (take (2 ^ 40 - bytes_of format (length rs)) x) ≡ [] = ap (records w) cut ∙ records-short w part short in
    kept-file format sound rs x h fits ∙ ap (λ l. sightings_by format None (rs ++ l)) none ∙ ap (sightings_by format None) (append-nil rs)

-- a bad record decides, whatever follows it
pub outcome-bad : (format : Format) → IsFormat format → (rs : List (List ℕ)) (x : List ℕ) (f : FileFault) → AreRecords (record_size format) rs
    → bytes_of format (length rs) ≤ 2 ^ 40 → first_fault format None 0 rs ≡ Some f → outcome (file format rs x) ≡ Err f
outcome-bad format sound rs x f h fits bad =
    let more = records (record_size format) (take (2 ^ 40 - bytes_of format (length rs)) x) in
    outcome-file format sound rs x h fits
    ∙ ap (λ o. fault_first o (ending format (length (file format rs x)))) (first_fault-bad format None 0 rs more f bad)

pub kept-bad : (format : Format) → IsFormat format → (rs : List (List ℕ)) (x : List ℕ) (f : FileFault) → AreRecords (record_size format) rs
    → bytes_of format (length rs) ≤ 2 ^ 40
    → first_fault format None 0 rs ≡ Some f → kept (file format rs x) ≡ sightings_by format None rs
kept-bad format sound rs x f h fits bad =
    kept-file format sound rs x h fits ∙ sightings_by-bad format None 0 rs (records (record_size format) (take (2 ^ 40 - bytes_of format (length rs)) x)) f bad

-- good records ------------------------------------------------------------------------

no_fault_or : (v : Judgement) (i : ℕ) (later : Option FileFault) → IsOk v → later ≡ None → fault_or i v later ≡ None
no_fault_or (Ok sightings) i later h none = none
no_fault_or (Err f) i later h none = absurd (cc)

pub good_records : (format : Format) (last : Option Key) (i : ℕ) (rs : List (List ℕ)) → AreGoodRecords format last rs
    → AreRecords (record_size format) rs × (first_fault format last i rs ≡ None)
good_records format last i [] h = (tt, refl)
good_records format last i (r ∷ rs) h =
    let later = good_records format (key_in format r) (i + 1) rs h.2 in
    ((h.0, later.0), no_fault_or (judged format last r) i (first_fault format (key_in format r) (i + 1) rs) h.1 later.1)

judged_ok : (v : Judgement) (sightings : Sightings) → v ≡ Ok sightings → IsOk v
judged_ok (Ok t) sightings h = refl
judged_ok (Err f) sightings h = absurd (cc)

-- a good record more
pub good-more : (format : Format) (last : Option Key) (rs : List (List ℕ)) (r : List ℕ) (sightings : Sightings) → AreGoodRecords format last rs
    → length r ≡ record_size format → judged format (last_key format last rs) r ≡ Ok sightings → AreGoodRecords format last (rs ++ r ∷ [])
good-more format last [] r sightings h long good = (long, judged_ok (judged format last r) sightings good, tt)
good-more format last (s ∷ rs) r sightings h long good = (h.0, h.1, good-more format (key_in format s) rs r sightings h.2 long good)

-- a record more
pub file-record : (format : Format) (rs : List (List ℕ)) (r : List ℕ) → file format (rs ++ r ∷ []) [] ≡ file format rs r
file-record format rs r =
    ap (λ l. head_bytes format ++ l) (append-nil (concat (rs ++ r ∷ [])) ∙ concat-append rs (r ∷ []) ∙ ap (λ l. concat rs ++ l) (append-nil r))

pub AreRecords-more : (size : ℕ) (rs : List (List ℕ)) (r : List ℕ) → AreRecords size rs → length r ≡ size → AreRecords size (rs ++ r ∷ [])
AreRecords-more size [] r h long = (long, tt)
AreRecords-more size (s ∷ rs) r h long = (h.0, AreRecords-more size rs r h.1 long)

pub length-more : (rs : List (List ℕ)) (r : List ℕ) → length (rs ++ r ∷ []) ≡ length rs + 1
length-more rs r = length-append rs (r ∷ [])

-- the size of one record more
pub bytes-more : (format : Format) (rs : List (List ℕ)) (r : List ℕ)
    → bytes_of format (length (rs ++ r ∷ [])) ≡ bytes_of format (length rs) + record_size format
bytes-more format rs r = ap (bytes_of format) (length-more rs r) ∙ omega arith

-- the size of a file of good records, the last of which stands by itself
pub length-wanted : (format : Format) (rs : List (List ℕ)) (r : List ℕ) → AreGoodRecords format None (rs ++ r ∷ [])
    → length (head_bytes format ++ (concat rs ++ r)) ≡ bytes_of format (length (rs ++ r ∷ []))
length-wanted format rs r good =
    let is = ap length (sym (file-record format rs r)) in
    let size = length-file format (rs ++ r ∷ []) [] (good_records format None 0 (rs ++ r ∷ []) good).0 in omega arith

-- records never end at the last byte that is read
pub not_at_end : (format : Format) (n : ℕ) → bytes_of format n ≡ 2 ^ 40 → ⊥
not_at_end Reports n h = omega arith
not_at_end (Cells None) n h = omega arith
not_at_end (Cells (Some floor)) n h = omega arith

-- how good records end --------------------------------------------------------------

pub ending-whole : (format : Format) (n size : ℕ) → size ≡ bytes_of format n → size < 2 ^ 40 → ending format size ≡ Ok tt
unfolding ending
ending-whole format n size e fits =
    let w = record_size format in
    let short : nat_le (2 ^ 40) size ≡ false = grind (arith, nat_tests) in
    let behind : size - head_size format ≡ w * n + 0 = omega arith in
    let none : (size - head_size format) % w ≡ 0 = ap (λ k. k % w) behind ∙ mul-add-mod_self_left w n 0 ∙ mod-eq_of_lt (size-positive format) in
    let even : (size - head_size format) % w == 0 ≡ true = grind (arith, nat_tests) in
    rw (short, even) refl

pub ending-part : (format : Format) (n p size : ℕ) → size ≡ bytes_of format n + p → 0 < p → p < record_size format → size < 2 ^ 40
    → ending format size ≡ Err (Truncated (bytes_of format n))
unfolding ending
ending-part format n p size e some short fits =
    let w = record_size format in
    let below : nat_le (2 ^ 40) size ≡ false = grind (arith, nat_tests) in
    let behind : size - head_size format ≡ w * n + p = omega arith in
    let part : (size - head_size format) % w ≡ p = ap (λ k. k % w) behind ∙ mul-add-mod_self_left w n p ∙ mod-eq_of_lt short in
    let odd : (size - head_size format) % w == 0 ≡ false = grind (arith, nat_tests) in
    let none : p / w ≡ 0 = div-eq_of_lt short in
    let count : (size - head_size format) / w ≡ n = ap (λ k. k / w) behind ∙ mul-add-div (size-positive format) n p ∙ ap (λ k. n + k) none ∙ omega arith in
    rw (below, odd, count) refl

pub ending-long : (format : Format) (size : ℕ) → 2 ^ 40 ≤ size → ending format size ≡ Err TooLong
unfolding ending
ending-long format size h = let long : nat_le (2 ^ 40) size ≡ true = grind (arith, nat_tests) in rw long refl
