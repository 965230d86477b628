-- Changes to bits: each changed field reads as it was set, and fields apart from all changes stay.
use Rattle.std.proofs.Common.{◌≡◌, ℕ, ◌+◌, ◌/◌, ◌%◌, ◌^◌, ◌<◌, ◌≤◌, List, [], ◌∷◌, refl, sym, ap, ◌∙◌, ⊎_elim, subst, arith, Bool, true, ◌&&◌, get_or}
use Rattle.std.specs.Prelude.{Contains}
use Rattle.std.proofs.lemmas.Bool.{and_parts}
use Rattle.smp_bytes.specs.Field.{Bits, Field, are_apart, are_bits_apart, bits_in, number_in, replaced, with_bits, with_number}
use Rattle.smp_bytes.proofs.BitLaws.{bits_in-with_bits, bits_in-with_bits_apart, byte-number_in}
use Rattle.smp_bytes.proofs.FieldLaws.{number_in-with_number_apart}
use Rattle.smp_bytes.proofs.Members.{contains_cases, contains_none}
use Rattle.plan_steps.specs.Carried.{Change, changed}
use Rattle.plan_steps.specs.SetLaws.{are_apart_from, bits_of}
use Rattle.plan_steps.proofs.Whole.{IsWhole, whole-with_bits}

-- the bits of a change are in the 64 bytes, and its number fits them
pub record Fits (c : Change) : Type 0 where
  pub at : c.bits.at < 64
  pub room : c.bits.shift + c.bits.width ≤ 8
  pub number : c.number < 2 ^ c.bits.width

abbrev pub AllFit : List Change → Type 0
AllFit [] = Unit {0}
AllFit (c ∷ changes) = Fits c × AllFit changes

-- each is apart from all that come later
abbrev pub are_all_apart : List Change → Bool
are_all_apart [] = true
are_all_apart (c ∷ changes) = are_apart_from (bits_of changes) c.bits && are_all_apart changes

-- no byte of the field is changed
abbrev pub is_field_apart : Field → List Change → Bool
is_field_apart f [] = true
is_field_apart f (c ∷ changes) = are_apart f (record { at = c.bits.at; len = 1 }) && is_field_apart f changes

pub whole-changed : (changes : List Change) (bytes : List ℕ) → AllFit changes → IsWhole bytes → IsWhole (changed changes bytes)
whole-changed [] bytes fit whole = whole
whole-changed (c ∷ changes) bytes fit whole =
    whole-changed changes (with_bits c.bits c.number bytes) fit.1 (whole-with_bits c.bits c.number bytes fit.0.at whole)

pub bits_in-changed_apart : (b : Bits) (changes : List Change) (bytes : List ℕ) → AllFit changes → IsWhole bytes
    → are_apart_from (bits_of changes) b ≡ true → bits_in b (changed changes bytes) ≡ bits_in b bytes
bits_in-changed_apart b [] bytes fit whole apart = refl
bits_in-changed_apart b (c ∷ changes) bytes fit whole apart =
    let count = whole.count in
    let within = fit.0.at in
    let tests = and_parts (are_bits_apart b c.bits) _ apart in
    bits_in-changed_apart b changes (with_bits c.bits c.number bytes) fit.1 (whole-with_bits c.bits c.number bytes within whole) tests.1
    ∙ bits_in-with_bits_apart b c.bits c.number bytes (omega (arith, count, within)) (whole.small c.bits.at) fit.0.room fit.0.number tests.0

pub bits_in-changed : (changes : List Change) (bytes : List ℕ) → AllFit changes → are_all_apart changes ≡ true → IsWhole bytes
    → (c : Change) → Contains changes c → bits_in c.bits (changed changes bytes) ≡ c.number
bits_in-changed [] bytes fit apart whole c there = absurd (contains_none c there)
bits_in-changed (first ∷ changes) bytes fit apart whole c there =
    let count = whole.count in
    let within = fit.0.at in
    let tests = and_parts (are_apart_from (bits_of changes) first.bits) _ apart in
    let next = whole-with_bits first.bits first.number bytes within whole in
    let here : bits_in first.bits (changed (first ∷ changes) bytes) ≡ first.number =
    bits_in-changed_apart first.bits changes (with_bits first.bits first.number bytes) fit.1 next tests.0
    ∙ bits_in-with_bits first.bits first.number bytes (omega (arith, count, within)) (whole.small first.bits.at) fit.0.room fit.0.number in
    ⊎_elim (λ same. subst (λ (x : Change). bits_in x.bits (changed (first ∷ changes) bytes) ≡ x.number) same here)
    (λ later. bits_in-changed changes (with_bits first.bits first.number bytes) fit.1 tests.1 next c later) (contains_cases first c changes there)

pub number_in-changed_apart : (f : Field) (changes : List Change) (bytes : List ℕ) → AllFit changes → IsWhole bytes → is_field_apart f changes ≡ true
    → number_in f (changed changes bytes) ≡ number_in f bytes
number_in-changed_apart f [] bytes fit whole apart = refl
number_in-changed_apart f (c ∷ changes) bytes fit whole apart =
    let count = whole.count in
    let within = fit.0.at in
    let tests = and_parts (are_apart f (record { at = c.bits.at; len = 1 })) _ apart in
    number_in-changed_apart f changes (with_bits c.bits c.number bytes) fit.1 (whole-with_bits c.bits c.number bytes within whole) tests.1
    ∙ number_in-with_number_apart f (record { at = c.bits.at; len = 1 }) (replaced c.bits c.number (get_or bytes c.bits.at 0)) bytes
    (omega (arith, count, within)) tests.0

-- bits in no byte of a field stay as it is written
pub bits_in-with_number : (b : Bits) (f : Field) (number : ℕ) (bytes : List ℕ) → f.at + f.len ≤ 64 → IsWhole bytes
    → are_apart (record { at = b.at; len = 1 }) f ≡ true → bits_in b (with_number f number bytes) ≡ bits_in b bytes
bits_in-with_number b f number bytes lies whole apart =
    let count = whole.count in
    ap (λ (n : ℕ). n / 2 ^ b.shift % 2 ^ b.width) (sym (byte-number_in b.at (with_number f number bytes))
    ∙ number_in-with_number_apart (record { at = b.at; len = 1 }) f number bytes (omega (arith, count, lies)) apart
    ∙ byte-number_in b.at bytes)
