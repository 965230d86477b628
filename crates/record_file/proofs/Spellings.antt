-- A record spells one report, and a report has one record.
use Rattle.std.proofs.Common.{◌≡◌, ◌⊎◌, inl, inr, ℕ, ◌+◌, ◌≤◌, ◌<◌, length-take, ◌==◌, ◌&&◌, Bool, true, false, List, [], ◌∷◌, ◌++◌, Option, None}
use Rattle.std.proofs.Common.{Some, length, take, drop, slice_index, cond, refl, sym, ap, subst, ◌∙◌, arith}
use Rattle.std.specs.Prelude.{option_map}
use Rattle.std.specs.Int.{from_be_bytes, to_be_bytes, w32, w64}
use Rattle.std.proofs.lemmas.Bool.{cases_lt}
use Rattle.std.proofs.lemmas.Bool.Decides.{nat_tests}
use Rattle.std.proofs.lemmas.List.{get_or-drop, get_or-take, get_or_past}
use Rattle.std.proofs.lemmas.Nat.{be_bytes_4, be_bytes_8, from_be_bytes-to_be_bytes_4, from_be_bytes-to_be_bytes_8}
use Rattle.reply_facts.specs.declared.report.Context.{Context}
use Rattle.reply_facts.specs.declared.report.Context.TheVariants.{Start, Via, About}
use Rattle.reply_facts.specs.declared.report.Report.{Report}
use Rattle.record_file.specs.Laws.{AreBytes, IsWritable, ReportsHaveOneSpelling}
use Rattle.record_file.specs.ReportRecord.{context_byte, context_guid, context_of, context_port, report_bytes, report_of}

-- the context of its own byte, port and GUID
context_again : (context : Context) → context_of (context_byte context) (context_port context) (context_guid context) ≡ Some context
context_again Start = refl
context_again (Via guid port) = refl
context_again (About guid) = refl

-- a record spells its report
spells : (r : Report) → IsWritable r → report_of (report_bytes r) ≡ Some r
unfolding report_of
spells r h =
    rw (from_be_bytes-to_be_bytes_4 r.generation h.generation, from_be_bytes-to_be_bytes_8 (context_guid r.context) h.guid, context_again r.context) refl

-- the byte, port and GUID are those of the context
abbrev IsContext : Context → ℕ → ℕ → ℕ → Type 0
IsContext c byte port guid = (byte ≡ context_byte c) × (port ≡ context_port c) × (guid ≡ context_guid c)

context_by : (zero no_port no_guid one two : Bool) (byte port guid : ℕ) (c : Context) → (zero ≡ true → byte ≡ 0) → (no_port ≡ true → port ≡ 0)
    → (no_guid ≡ true → guid ≡ 0) → (one ≡ true → byte ≡ 1) → (two ≡ true → byte ≡ 2)
    → cond zero (cond (no_port && no_guid) (Some Start) None) (cond one (Some (Via guid port)) (cond (two && no_port) (Some (About guid)) None)) ≡ Some c
    → IsContext c byte port guid
context_by true true true one two byte port guid c z p g o t h =
    let same : Start ≡ c = cc in subst (λ (x : Context). IsContext x byte port guid) same (z refl, p refl, g refl)
context_by true true false one two byte port guid c z p g o t h = absurd (cc)
context_by true false no_guid one two byte port guid c z p g o t h = absurd (cc)
context_by false no_port no_guid true two byte port guid c z p g o t h =
    let same : Via guid port ≡ c = cc in subst (λ (x : Context). IsContext x byte port guid) same (o refl, refl, refl)
context_by false true no_guid false true byte port guid c z p g o t h =
    let same : About guid ≡ c = cc in subst (λ (x : Context). IsContext x byte port guid) same (t refl, p refl, refl)
context_by false false no_guid false true byte port guid c z p g o t h = absurd (cc)
context_by false no_port no_guid false false byte port guid c z p g o t h = absurd (cc)

is_number : (n m : ℕ) → n == m ≡ true → n ≡ m
is_number n m h = grind (arith, nat_tests)

context_is : (byte port guid : ℕ) (c : Context) → context_of byte port guid ≡ Some c → IsContext c byte port guid
context_is byte port guid c h =
    context_by (byte == 0) (port == 0) (guid == 0) (byte == 1) (byte == 2) byte port guid c (is_number byte 0) (is_number port 0) (is_number guid 0)
    (is_number byte 1) (is_number byte 2) h

-- what 272 bytes say where they spell a report
record Says (r : Report) (generation sixth seventh : ℕ) (context : Option Context) (rest : List ℕ) : Type 0 where
  sixth_zero : sixth ≡ 0
  seventh_zero : seventh ≡ 0
  same_context : context ≡ Some r.context
  same_generation : generation ≡ r.generation
  same_reply : rest ≡ r.bytes

says_by : (a b : Bool) (sixth seventh : ℕ) (o : Option Context) (generation : ℕ) (rest : List ℕ) (r : Report) → (a ≡ true → sixth ≡ 0)
    → (b ≡ true → seventh ≡ 0)
    → cond (a && b) (option_map (λ context. let x : Report = record { generation = generation; context = context; bytes = rest } in x) o) None ≡ Some r
    → Says r generation sixth seventh o rest
says_by true true sixth seventh (Some c) generation rest r x y h =
    let read : Report = record { generation = generation; context = c; bytes = rest } in
    let same : read ≡ r = cc in
    record {
      sixth_zero = x refl;
      seventh_zero = y refl;
      same_context = ap (λ (z : Report). Some z.context) same;
      same_generation = ap
          (λ (z : Report). z.generation) same;
      same_reply = ap (λ (z : Report). z.bytes) same;
    }
says_by true true sixth seventh None generation rest r x y h = absurd (cc)
says_by true false sixth seventh o generation rest r x y h = absurd (cc)
says_by false b sixth seventh o generation rest r x y h = absurd (cc)

says : (bytes : List ℕ) (r : Report) → report_of bytes ≡ Some r
    → Says r (from_be_bytes w32 (take 4 bytes)) (slice_index bytes 6) (slice_index bytes 7)
    (context_of (slice_index bytes 4) (slice_index bytes 5) (from_be_bytes w64 (take 8 (drop 8 bytes)))) (drop 16 bytes)
unfolding report_of
says bytes r h =
    says_by (slice_index bytes 6 == 0) (slice_index bytes 7 == 0) (slice_index bytes 6) (slice_index bytes 7)
    (context_of (slice_index bytes 4) (slice_index bytes 5) (from_be_bytes w64 (take 8 (drop 8 bytes)))) (from_be_bytes w32 (take 4 bytes))
    (drop 16 bytes) r
    (is_number (slice_index bytes 6) 0) (is_number (slice_index bytes 7) 0) h

-- parts of bytes are bytes
front_by : (bytes : List ℕ) (n : ℕ) → AreBytes bytes → (i : ℕ) → (i < n) ⊎ (n ≤ i) → slice_index (take n bytes) i < 256
front_by bytes n are i (inl below) = let h = are i in let same = get_or-take n bytes i 0 below in omega arith
front_by bytes n are i (inr past) = let none = get_or_past (take n bytes) i 0 (omega (arith, length-take n bytes)) in omega arith

front : (bytes : List ℕ) (n : ℕ) → AreBytes bytes → (i : ℕ) → slice_index (take n bytes) i < 256
front bytes n are i = front_by bytes n are i (cases_lt i n)

behind : (bytes : List ℕ) (n : ℕ) → AreBytes bytes → AreBytes (drop n bytes)
behind bytes n are i = let h = are (n + i) in let same = get_or-drop n bytes i 0 in omega arith

-- what is read from bytes is written as they are
written : (bytes : List ℕ) (r : Report) → length bytes ≡ 272 → AreBytes bytes → report_of bytes ≡ Some r → bytes ≡ report_bytes r
written (a ∷ b ∷ c ∷ d ∷ kind ∷ port ∷ sixth ∷ seventh ∷ e ∷ f ∷ g ∷ h ∷ i ∷ j ∷ k ∷ l ∷ rest) r long are_bytes found =
    let bytes = a ∷ b ∷ c ∷ d ∷ kind ∷ port ∷ sixth ∷ seventh ∷ e ∷ f ∷ g ∷ h ∷ i ∷ j ∷ k ∷ l ∷ rest in
    let s = says bytes r found in
    let of = context_is kind port (from_be_bytes w64 (e ∷ f ∷ g ∷ h ∷ i ∷ j ∷ k ∷ l ∷ [])) r.context s.same_context in
    let generation = be_bytes_4 (a ∷ b ∷ c ∷ d ∷ []) r.generation refl (front bytes 4 are_bytes) (sym s.same_generation) in
    let guid = be_bytes_8 (e ∷ f ∷ g ∷ h ∷ i ∷ j ∷ k ∷ l ∷ []) (context_guid r.context) refl (front (drop 8 bytes) 8 (behind bytes 8 are_bytes)) (sym of.2) in
    let high = e ∷ f ∷ g ∷ h ∷ i ∷ j ∷ k ∷ l ∷ [] in
    let first = to_be_bytes w32 r.generation in
    let node = to_be_bytes w64 (context_guid r.context) in
    ap (λ n. a ∷ b ∷ c ∷ d ∷ kind ∷ port ∷ n ∷ seventh ∷ (high ++ rest)) s.sixth_zero
    ∙ ap (λ n. a ∷ b ∷ c ∷ d ∷ kind ∷ port ∷ 0 ∷ n ∷ (high ++ rest)) s.seventh_zero
    ∙ ap (λ x. x ++ (kind ∷ port ∷ 0 ∷ 0 ∷ (high ++ rest))) (sym generation)
    ∙ ap (λ n. first ++ (n ∷ port ∷ 0 ∷ 0 ∷ (high ++ rest))) of.0
    ∙ ap (λ n. first ++ (context_byte r.context ∷ n ∷ 0 ∷ 0 ∷ (high ++ rest))) of.1
    ∙ ap (λ x. first ++ (context_byte r.context ∷ context_port r.context ∷ 0 ∷ 0 ∷ (x ++ rest))) (sym guid)
    ∙ ap (λ x. first ++ (context_byte r.context ∷ context_port r.context ∷ 0 ∷ 0 ∷ (node ++ x))) s.same_reply
written _ r long are_bytes found = absurd (omega arith)

pub reports_have_one_spelling : ReportsHaveOneSpelling
reports_have_one_spelling bytes r long are_bytes h = (written bytes r long are_bytes, λ is. ap report_of is ∙ spells r h)
