-- Lemmas on the heads of files.
use Rattle.std.proofs.Common.{◌≡◌, ℕ, ◌<◌, ◌≤◌, ◌^◌, Bool, true, false, ◌&&◌, List, [], ◌∷◌, ◌++◌, Option, None, Some, Result, Ok, Err, length, take, drop}
use Rattle.std.proofs.Common.{append-nil, nat_eq, nat_lt, cond, refl, sym, ap, ◌∙◌, subst, arith, append_assoc, length-append, length-drop, take-append-drop}
use Rattle.std.specs.Prelude.{nat_le}
use Rattle.std.specs.Int.{from_be_bytes, w32}
use Rattle.std.specs.List.{starts_with}
use Rattle.std.specs.Str.{bytes_eq}
use Rattle.std.proofs.lemmas.Bool.Decides.{Decides-eqb, nat_tests}
use Rattle.std.proofs.lemmas.List.{drop-append-le, drop_at, take-append-le, take_all}
use Rattle.std.proofs.lemmas.Nat.{from_be_bytes-to_be_bytes_4}
use Rattle.std.proofs.lemmas.Slice.Eq.{bytes_eq-Decides, starts_is}
use Rattle.reply_facts.specs.Sighting.{is_generation}
use Rattle.record_file.specs.declared.file_fault.FileFault.{FileFault}
use Rattle.record_file.specs.declared.file_fault.FileFault.TheVariants.{Magic, Truncated, BadFloor}
use Rattle.record_file.specs.declared.format.Format.{Format}
use Rattle.record_file.specs.declared.format.Format.TheVariants.{Reports, Cells}
use Rattle.record_file.specs.Head.{IsFormat, behind_floored, floor_of, floor_told, floored, floored_magic, format_in, head_bytes, head_size, header, if_header}

pub length-head : (format : Format) → length (head_bytes format) ≡ head_size format
length-head Reports = refl
length-head (Cells None) = refl
length-head (Cells (Some floor)) = refl

-- headers --------------------------------------------------------------------------------

both : (a b : Bool) → (a && b) ≡ true → (a ≡ true) × (b ≡ true)
both true b h = (refl, h)
both false b h = absurd (cc)

generation_short : (n : ℕ) → is_generation n ≡ true → (1 ≤ n) × (n < 2 ^ 32)
generation_short n h = let t = both (nat_le 1 n) (nat_lt n (2 ^ 32)) h in (grind (arith, t.0, nat_tests), grind (arith, t.1, nat_tests))

-- a floor in a header is a generation
pub floor_positive : (format : Format) → IsFormat format → 1 ≤ floor_of format
floor_positive Reports sound = omega arith
floor_positive (Cells None) sound = omega arith
floor_positive (Cells (Some floor)) sound = (generation_short floor sound).0

-- a header tells its floor
pub header_again : (floor : ℕ) → is_generation floor ≡ true → floor_told (header floor) ≡ Some floor
header_again floor sound =
    let same : bytes_eq (header floor) (header floor) ≡ true = (bytes_eq-Decides (header floor) (header floor)).1 refl in
    ap (if_header (header floor)) (from_be_bytes-to_be_bytes_4 floor (generation_short floor sound).1)
    ∙ ap (λ b. cond (b && bytes_eq (header floor) (header floor)) (Some floor) None) sound
    ∙ ap (λ b. cond b (Some floor) None) same

header_by : (bytes : List ℕ) (n floor : ℕ) → if_header bytes n ≡ Some floor → (is_generation floor ≡ true) × (bytes ≡ header floor)
header_by bytes n floor h =
    elim (is_generation n && bytes_eq (header n) bytes) as (λ b. (is_generation n && bytes_eq (header n) bytes) ≡ b → cond b (Some n) None ≡ Some floor →
    (is_generation floor ≡ true) × (bytes ≡ header floor)) [
      | true ↦ λ t k.
          let same : n ≡ floor = let e : Some n ≡ Some floor = k in cc in
          let is = both (is_generation n) (bytes_eq (header n) bytes) t in
          let P : ℕ → Type 0 = λ m. (is_generation m ≡ true) × (bytes ≡ header m) in
          subst P same (is.0, sym ((bytes_eq-Decides (header n) bytes).0 is.1))
      | false ↦ λ t k. absurd (cc)
    ] refl h

-- and nothing else does
pub header_is : (bytes : List ℕ) (floor : ℕ) → floor_told bytes ≡ Some floor → (is_generation floor ≡ true) × (bytes ≡ header floor)
header_is bytes floor h = header_by bytes (from_be_bytes w32 (take 4 bytes)) floor h

-- what the beginning of bytes says ---------------------------------------------------------

-- the format that three tests decide
abbrev chosen : Bool → Bool → Bool → Result Format FileFault → Result Format FileFault
chosen a b c floored_as = cond a (Ok Reports) (cond b (Ok (Cells None)) (cond c floored_as (Err Magic)))

starts-more : (bytes rest m : List ℕ) → length m ≤ length bytes → starts_with nat_eq (bytes ++ rest) m ≡ starts_with nat_eq bytes m
starts-more bytes rest m h = rw (take-append-le (length m) bytes rest h) refl

chosen-more : (bytes rest : List ℕ) → 8 ≤ length bytes
    → format_in (bytes ++ rest)
    ≡ chosen (starts_with nat_eq bytes (head_bytes Reports)) (starts_with nat_eq bytes (head_bytes (Cells None))) (starts_with nat_eq bytes floored_magic)
    (behind_floored (bytes ++ rest))
chosen-more bytes rest h =
    rw (starts-more bytes rest (head_bytes Reports) h, starts-more bytes rest (head_bytes (Cells None)) h, starts-more bytes rest floored_magic h) refl

behind-more : (bytes rest : List ℕ) → 16 ≤ length bytes → behind_floored (bytes ++ rest) ≡ behind_floored bytes
behind-more bytes rest h =
    let long : nat_lt (length bytes) 16 ≡ false = grind (arith, nat_tests) in
    let longer : nat_lt (length (bytes ++ rest)) 16 ≡ false = let sized = length-append bytes rest in grind (arith, nat_tests) in
    let same : take 8 (drop 8 (bytes ++ rest)) ≡ take 8 (drop 8 bytes) =
    ap (λ l. take 8 l) (drop-append-le 8 bytes rest (omega arith)) ∙ take-append-le 8 (drop 8 bytes) rest (omega (arith, length-drop 8 bytes)) in
    ap (λ b. cond b (Err (Truncated 8)) (floored (floor_told (take 8 (drop 8 (bytes ++ rest)))))) longer
    ∙ ap (λ l. floored (floor_told l)) same
    ∙ sym (ap (λ b. cond b (Err (Truncated 8)) (floored (floor_told (take 8 (drop 8 bytes))))) long)

-- what follows sixteen bytes does not change their format
pub format-more : (bytes rest : List ℕ) → 16 ≤ length bytes → format_in (bytes ++ rest) ≡ format_in bytes
format-more bytes rest h =
    chosen-more bytes rest (omega arith)
    ∙ ap (chosen (starts_with nat_eq bytes (head_bytes Reports)) (starts_with nat_eq bytes (head_bytes (Cells None))) (starts_with nat_eq bytes floored_magic))
    (behind-more bytes rest h)

behind-head : (floor : ℕ) (x : List ℕ) → is_generation floor ≡ true → behind_floored (head_bytes (Cells (Some floor)) ++ x) ≡ Ok (Cells (Some floor))
behind-head floor x sound =
    let long : nat_lt (length (head_bytes (Cells (Some floor)) ++ x)) 16 ≡ false =
    let sized = length-append (head_bytes (Cells (Some floor))) x in let is = length-head (Cells (Some floor)) in grind (arith, nat_tests) in
    ap (λ b. cond b (Err (Truncated 8)) (floored (floor_told (header floor)))) long
    ∙ ap floored (header_again floor sound)

-- a head tells its format
pub format_in-head : (format : Format) (x : List ℕ) → IsFormat format → format_in (head_bytes format ++ x) ≡ Ok format
format_in-head Reports x sound = refl
format_in-head (Cells None) x sound = refl
format_in-head (Cells (Some floor)) x sound = behind-head floor x sound

-- what bytes begin with, from what their beginning says
pub data Begins (a : List ℕ) : Result Format FileFault → Type 0 where
  whole : (format : Format) → IsFormat format → (rest : List ℕ) → a ≡ head_bytes format ++ rest → Begins a (Ok format)
  other : ((rest : List ℕ) → 8 ≤ length a → format_in (a ++ rest) ≡ Err Magic) → Begins a (Err Magic)
  cut : (part : List ℕ) → a ≡ floored_magic ++ part → length part < 8 → Begins a (Err (Truncated 8))
  unfloored : 16 ≤ length a → Begins a (Err BadFloor)

starts : (bytes m : List ℕ) → starts_with nat_eq bytes m ≡ true → bytes ≡ m ++ drop (length m) bytes
starts bytes m h = (starts_is Decides-eqb bytes m (starts_with nat_eq bytes m) refl).0 h

floored_by : (a : List ℕ) → a ≡ floored_magic ++ drop 8 a → 16 ≤ length a → (o : Option ℕ) → floor_told (take 8 (drop 8 a)) ≡ o → Begins a (floored o)
floored_by a is long None h = unfloored long
floored_by a is long (Some floor) h =
    let told = header_is (take 8 (drop 8 a)) floor h in
    whole (Cells (Some floor)) told.0 (drop 8 (drop 8 a))
    (is ∙ ap (λ l. floored_magic ++ l) (sym (take-append-drop 8 (drop 8 a)) ∙ ap (λ l. l ++ drop 8 (drop 8 a)) told.1))

behind_by : (a : List ℕ) → a ≡ floored_magic ++ drop 8 a → (b : Bool) → nat_lt (length a) 16 ≡ b
    → Begins a (cond b (Err (Truncated 8)) (floored (floor_told (take 8 (drop 8 a)))))
behind_by a is true h =
    let short : length a < 16 = grind (arith, nat_tests) in cut (drop 8 a) is (omega (arith, short, ap length is, length-append floored_magic (drop 8 a)))
behind_by a is false h = floored_by a is (grind (arith, nat_tests)) (floor_told (take 8 (drop 8 a))) refl

begins_by : (a : List ℕ) (r s f : Bool) → starts_with nat_eq a (head_bytes Reports) ≡ r → starts_with nat_eq a (head_bytes (Cells None)) ≡ s
    → starts_with nat_eq a floored_magic ≡ f → Begins a (chosen r s f (behind_floored a))
begins_by a true s f hr hs hf = whole Reports refl (drop 8 a) (starts a (head_bytes Reports) hr)
begins_by a false true f hr hs hf = whole (Cells None) refl (drop 8 a) (starts a (head_bytes (Cells None)) hs)
begins_by a false false true hr hs hf = behind_by a (starts a floored_magic hf) (nat_lt (length a) 16) refl
begins_by a false false false hr hs hf =
    other (λ rest long. chosen-more a rest long ∙ rw (hr, hs, hf) refl)

pub begins : (a : List ℕ) → Begins a (format_in a)
begins a =
    begins_by a (starts_with nat_eq a (head_bytes Reports)) (starts_with nat_eq a (head_bytes (Cells None))) (starts_with nat_eq a floored_magic) refl refl refl

-- eight bytes ------------------------------------------------------------------------------

no_bytes : (x : List ℕ) → length x ≡ 0 → x ≡ []
no_bytes [] h = refl
no_bytes (b ∷ x) h = absurd (omega arith)

-- eight bytes that begin with eight are these
only : (front m rest : List ℕ) → length front ≡ 8 → length m ≡ 8 → front ≡ m ++ rest → front ≡ m
only front m rest eight long is =
    let none = no_bytes rest (omega (arith, ap length is, length-append m rest)) in is ∙ ap (λ l. m ++ l) none ∙ append-nil m

other_by : (front : List ℕ) (r : Result Format FileFault) → length front ≡ 8 → (front ≡ head_bytes Reports → ⊥) → (front ≡ head_bytes (Cells None) → ⊥)
    → (front ≡ floored_magic → ⊥) → Begins front r → r ≡ Err Magic
other_by front _ eight no_reports no_cells no_floored (whole Reports sound rest is) = absurd (no_reports (only front (head_bytes Reports) rest eight refl is))
other_by front _ eight no_reports no_cells no_floored (whole (Cells None) sound rest is) =
    absurd (no_cells (only front (head_bytes (Cells None)) rest eight refl is))
other_by front _ eight no_reports no_cells no_floored (whole (Cells (Some floor)) sound rest is) =
    absurd (omega (arith, ap length is, length-append (head_bytes (Cells (Some floor))) rest, length-head (Cells (Some floor))))
other_by front _ eight no_reports no_cells no_floored (other more) = refl
other_by front _ eight no_reports no_cells no_floored (cut part is short) = absurd (no_floored (only front floored_magic part eight refl is))
other_by front _ eight no_reports no_cells no_floored (unfloored long) = absurd (omega arith)

-- eight bytes that are no magic
pub no_magic : (front : List ℕ) → length front ≡ 8 → (front ≡ head_bytes Reports → ⊥) → (front ≡ head_bytes (Cells None) → ⊥)
    → (front ≡ floored_magic → ⊥) → format_in front ≡ Err Magic
no_magic front eight no_reports no_cells no_floored = other_by front (format_in front) eight no_reports no_cells no_floored (begins front)

-- whole heads ------------------------------------------------------------------------------

pub one_format : (g format : Format) → ◌≡◌ {A = Result Format FileFault} (Ok g) (Ok format) → g ≡ format
one_format g format e = cc

whole_by : (a : List ℕ) (r : Result Format FileFault) (format : Format) → Begins a r → r ≡ Ok format
    → IsFormat format × ((rest : List ℕ) × (a ≡ head_bytes format ++ rest))
whole_by a _ format (whole g sound rest is) e =
    let P : Format → Type 0 = λ f. IsFormat f × ((rest : List ℕ) × (a ≡ head_bytes f ++ rest)) in subst P (one_format g format e) (sound, (rest, is))
whole_by a _ format (other more) e = absurd (cc)
whole_by a _ format (cut part is short) e = absurd (cc)
whole_by a _ format (unfloored long) e = absurd (cc)

-- bytes that tell a format begin with its head
pub whole_of : (a : List ℕ) (format : Format) → format_in a ≡ Ok format → IsFormat format × ((rest : List ℕ) × (a ≡ head_bytes format ++ rest))
whole_of a format h = whole_by a (format_in a) format (begins a) h

-- and are it and what stands behind it
pub whole_drop : (a : List ℕ) (format : Format) → format_in a ≡ Ok format → a ≡ head_bytes format ++ drop (head_size format) a
whole_drop a format h =
    let is = (whole_of a format h).1 in
    is.1 ∙ ap (λ l. head_bytes format ++ l) (sym (ap (drop (head_size format)) is.1 ∙ drop_at (head_bytes format) is.0 (head_size format) (length-head format)))

-- whatever follows
pub format-stays : (a rest : List ℕ) (format : Format) → format_in a ≡ Ok format → format_in (a ++ rest) ≡ Ok format
format-stays a rest format h =
    let is = whole_of a format h in
    ap (λ l. format_in (l ++ rest)) is.1.1 ∙ ap format_in (append_assoc (head_bytes format) is.1.0 rest) ∙ format_in-head format (is.1.0 ++ rest) is.0

pub format-long : (a : List ℕ) (format : Format) → format_in a ≡ Ok format → head_size format ≤ length a
format-long a format h =
    let is = (whole_of a format h).1 in omega (arith, ap length is.1, length-append (head_bytes format) is.0, length-head format)

-- a head is short
pub head-short : (format : Format) → (8 ≤ head_size format) × (head_size format ≤ 16)
head-short Reports = (omega arith, omega arith)
head-short (Cells None) = (omega arith, omega arith)
head-short (Cells (Some floor)) = (omega arith, omega arith)

-- heads that are not whole -------------------------------------------------------------------

early_by : (a : List ℕ) (r : Result Format FileFault) → length a < 8 → Begins a r → r ≡ Err Magic
early_by a _ short (whole format sound rest is) =
    let small = head-short format in absurd (omega (arith, small.0, ap length is, length-append (head_bytes format) rest, length-head format))
early_by a _ short (other more) = refl
early_by a _ short (cut part is few) = absurd (omega (arith, ap length is, length-append floored_magic part))
early_by a _ short (unfloored long) = absurd (omega arith)

-- fewer than eight bytes are no magic
pub head-early : (a : List ℕ) → length a < 8 → format_in a ≡ Err Magic
head-early a short = early_by a (format_in a) short (begins a)

-- a magic, and a part of its header
pub head-cut : (a part : List ℕ) → a ≡ floored_magic ++ part → length part < 8 → format_in a ≡ Err (Truncated 8)
head-cut a part is short =
    let few : nat_lt (length (floored_magic ++ part)) 16 ≡ true = let sized = length-append floored_magic part in grind (arith, nat_tests) in
    ap format_in is ∙ ap (λ b. cond b (Err (Truncated 8)) (floored (floor_told (take 8 part)))) few

-- a magic, and eight bytes
pub head-behind : (a part : List ℕ) → a ≡ floored_magic ++ part → length part ≡ 8 → format_in a ≡ floored (floor_told part)
head-behind a part is eight =
    let many : nat_lt (length (floored_magic ++ part)) 16 ≡ false = let sized = length-append floored_magic part in grind (arith, nat_tests) in
    ap format_in is ∙ ap (λ b. cond b (Err (Truncated 8)) (floored (floor_told (take 8 part)))) many
    ∙ ap (λ l. floored (floor_told l)) (take_all 8 part (omega arith))

-- a format without a header tells no floor
pub floor-none : (format : Format) → head_size format ≤ 8 → floor_of format ≡ 1
floor-none Reports short = refl
floor-none (Cells None) short = refl
floor-none (Cells (Some floor)) short = absurd (omega arith)

-- what begins with the magic of a header, and has a head, tells its floor
pub floored_format : (format : Format) (rest : List ℕ) → starts_with nat_eq (head_bytes format ++ rest) floored_magic ≡ true
    → (floor : ℕ) × (format ≡ Cells (Some floor))
floored_format Reports rest h = absurd (cc)
floored_format (Cells None) rest h = absurd (cc)
floored_format (Cells (Some floor)) rest h = (floor, refl)
