-- Each way that a packet goes on, as an equation under its case, and what its bytes are then.
use Rattle.std.proofs.Common.{◌≡◌, ℕ, ◌+◌, ◌-◌, ◌<◌, ◌≤◌, ◌⊎◌, inl, inr, Bool, true, false, ◌||◌, ◌==◌, List, length, get_or, refl, ap, ◌∙◌, subst, arith}
use Rattle.std.proofs.lemmas.Bool.{eqb-true}
use Rattle.std.proofs.lemmas.Bool.Decides.{nat_tests}
use Rattle.std.proofs.lemmas.Grind.{common_steps}
use Rattle.std.specs.Prelude.{nat_lt, None, if◌then◌else◌}
use Rattle.smp_bytes.specs.Field.{number_in, are_apart}
use Rattle.smp_bytes.specs.Packet.{hop_pointer, hop_count, initial_path, return_path, is_returning, fault_of}
use Rattle.smp_bytes.proofs.FieldLaws.{length-with_number, number_in-with_number, number_in-with_number_apart}
use Rattle.smp_bytes.proofs.OffsetLaws.{get_or-with_number}
use Rattle.smp_bytes.proofs.RequestLaws.{hop_pointer_parses, path_parses}
use Rattle.dr_forward.specs.declared.here.Here.{Here}
use Rattle.dr_forward.specs.declared.verdict.Verdict.TheVariants.{Out, ToAgent, ToManager}
use Rattle.dr_forward.specs.DirectedStep.{pointed, noted, is_port, leaves_by, moved_on, step}

-- the way that a known test chooses
pub taken : {X : Type 0} (b : Bool) (x y : X) → b ≡ true → (if b then x else y) ≡ x
taken true x y h = refl
taken false x y h = cc

pub passed : {X : Type 0} (b : Bool) (x y z : X) → b ≡ false → y ≡ z → (if b then x else y) ≡ z
passed true x y z h e = cc
passed false x y z h e = e

is-lt : (m n : ℕ) → m < n → nat_lt m n ≡ true
is-lt m n h = grind (arith, nat_tests)

not-lt : (m n : ℕ) → n ≤ m → nat_lt m n ≡ false
not-lt m n h = grind (arith, nat_tests)

is-eq : (m n : ℕ) → m ≡ n → (m == n) ≡ true
is-eq m n h = grind (arith, nat_tests)

not-eq : (m n : ℕ) → (m < n) ⊎ (n < m) → (m == n) ≡ false
not-eq m n (inl h) = grind (arith, nat_tests)
not-eq m n (inr h) = grind (arith, nat_tests)

has-port : (here : Here) (port : ℕ) → 1 ≤ port → port ≤ here.ports → is_port here port ≡ true
has-port here port some most = grind (arith, nat_tests)

either-true : (a b : Bool) → (a ≡ true) ⊎ (b ≡ true) → (a || b) ≡ true
either-true a b (inl h) = grind (arith, common_steps)
either-true a b (inr h) = grind (arith, common_steps)

leaves : (here : Here) (port : ℕ) (packet after : List ℕ) → 1 ≤ port → port ≤ here.ports
    → leaves_by here port packet after ≡ record { packet = after; verdict = Out port }
leaves here port packet after some most = taken (is_port here port) _ _ (has-port here port some most)

module _ (here : Here) (packet : List ℕ) where
  -- on its way out, from where it was sent or through a switch
  pub out_row : (at port : ℕ) → is_returning packet ≡ false → number_in hop_pointer packet ≡ at → at < number_in hop_count packet
      → (at ≡ 0) ⊎ (here.is_switch ≡ true) → number_in (initial_path (at + 1)) packet ≡ port → 1 ≤ port → port ≤ here.ports
      → step here packet ≡ record { packet = moved_on here packet; verdict = Out port }
  out_row at port out pointer before passes next some most =
      let less : nat_lt (number_in hop_pointer packet) (number_in hop_count packet) ≡ true = is-lt _ _ (omega (arith, pointer, before)) in
      let may : (number_in hop_pointer packet == 0 || here.is_switch) ≡ true = either-true _ _ (may_pass passes) in
      let by : number_in (initial_path (number_in hop_pointer packet + 1)) packet ≡ port = ap (λ i. number_in (initial_path (i + 1)) packet) pointer ∙ next in
      passed (is_returning packet) _ _ _ out
      (taken _ _ _ less
      ∙ taken _ _ _ may
      ∙ leaves here (number_in (initial_path (number_in hop_pointer packet + 1)) packet) packet (moved_on here packet) (omega (arith, by)) (omega (arith, by))
      ∙ ap (λ p. record { packet = moved_on here packet; verdict = Out p }) by)
    where
      may_pass : (at ≡ 0) ⊎ (here.is_switch ≡ true) → ((number_in hop_pointer packet == 0) ≡ true) ⊎ (here.is_switch ≡ true)
      may_pass (inl e) = inl (is-eq _ _ (pointer ∙ e))
      may_pass (inr e) = inr e

  -- at the end of its path
  pub agent_row : is_returning packet ≡ false → number_in hop_pointer packet ≡ number_in hop_count packet
      → step here packet ≡ record { packet = moved_on here packet; verdict = ToAgent }
  agent_row out end =
      let reached : nat_lt (number_in hop_pointer packet) (number_in hop_count packet) ≡ false = not-lt _ _ (omega (arith, end)) in
      passed (is_returning packet) _ _ _ out (passed _ _ _ _ reached (taken _ _ _ (is-eq _ _ end)))

  -- on its way back, from the end of its path or through a switch
  pub back_row : (at port : ℕ) → is_returning packet ≡ true → number_in hop_pointer packet ≡ at + 1 → 1 ≤ at
      → (number_in hop_count packet ≡ at) ⊎ (here.is_switch ≡ true) → number_in (return_path at) packet ≡ port → 1 ≤ port → port ≤ here.ports
      → step here packet ≡ record { packet = pointed at packet; verdict = Out port }
  back_row at port back pointer from passes there some most =
      let sent : (number_in hop_pointer packet == 0) ≡ false = not-eq _ _ (inr (omega (arith, pointer))) in
      let home : (number_in hop_pointer packet == 1) ≡ false = not-eq _ _ (inr (omega (arith, pointer, from))) in
      let before : number_in hop_pointer packet - 1 ≡ at = omega (arith, pointer) in
      let by : number_in (return_path (number_in hop_pointer packet - 1)) packet ≡ port = ap (λ i. number_in (return_path i) packet) before ∙ there in
      taken (is_returning packet) _ _ back
      ∙ passed _ _ _ _ sent
      (passed _ _ _ _ home
      (taken _ _ _ (either-true _ _ (may_pass passes))
      ∙ leaves here (number_in (return_path (number_in hop_pointer packet - 1)) packet) packet (pointed (number_in hop_pointer packet - 1) packet)
      (omega (arith, by)) (omega (arith, by))
      ∙ (λ j. record { packet = pointed (before j) packet; verdict = Out (by j) })))
    where
      may_pass : (number_in hop_count packet ≡ at) ⊎ (here.is_switch ≡ true)
          → (nat_lt (number_in hop_count packet) (number_in hop_pointer packet) ≡ true) ⊎ (here.is_switch ≡ true)
      may_pass (inl e) = inl (is-lt _ _ (omega (arith, e, pointer)))
      may_pass (inr e) = inr e

  -- back where it was sent
  pub home_row : is_returning packet ≡ true → number_in hop_pointer packet ≡ 1 → step here packet ≡ record { packet = pointed 0 packet; verdict = ToManager }
  home_row back one =
      let sent : (number_in hop_pointer packet == 0) ≡ false = not-eq _ _ (inr (omega (arith, one))) in
      taken (is_returning packet) _ _ back ∙ passed _ _ _ _ sent (taken _ _ _ (is-eq _ _ one))

-- what is written ------------------------------------------------------------------

-- neither the hop pointer nor the path back
abbrev pub IsKeptInStep : ℕ → Type 0
IsKeptInStep offset = (offset < 6) ⊎ ((7 ≤ offset) × (offset < 192))

-- a packet with another hop pointer
pub record IsPointed (pointer : ℕ) (old new : List ℕ) : Type 0 where
  pub count : length new ≡ 256
  pub pointer_is : number_in hop_pointer new ≡ pointer
  pub kept : (offset : ℕ) → IsKeptInStep offset → get_or new offset 0 ≡ get_or old offset 0
  pub parses : fault_of old ≡ None → pointer ≤ number_in hop_count old + 1 → fault_of new ≡ None

outside : (offset : ℕ) → IsKeptInStep offset → (offset < 6) ⊎ (6 + 1 ≤ offset)
outside offset (inl h) = inl h
outside offset (inr h) = inr (omega (arith, h.0))

before_notes : (at offset : ℕ) → IsKeptInStep offset → (offset < 192 + at) ⊎ (192 + at + 1 ≤ offset)
before_notes at offset (inl h) = inl (omega (arith, h))
before_notes at offset (inr h) = inl (omega (arith, h.1))

notes_apart : (at i : ℕ) → (i < at) ⊎ (at < i) → are_apart (return_path i) (return_path at) ≡ true
notes_apart at i (inl h) = grind (arith, nat_tests)
notes_apart at i (inr h) = grind (arith, nat_tests)

module _ (packet : List ℕ) (long : length packet ≡ 256) where
  pub pointed_is : (pointer : ℕ) → pointer < 256 → IsPointed pointer packet (pointed pointer packet)
  pointed_is pointer small =
      record {
        count = length-with_number hop_pointer pointer packet (omega (arith, long)) ∙ long;
        pointer_is = number_in-with_number hop_pointer pointer packet (omega (arith, long)) small;
        kept = λ offset k. get_or-with_number hop_pointer pointer packet offset (omega (arith, long)) (outside offset k);
        parses = λ parses within. hop_pointer_parses packet pointer long small (λ directed. within) parses;
      }

  -- the notes stay when the pointer moves
  pub pointed_keeps_notes : (pointer at : ℕ) → at < 64 → number_in (return_path at) (pointed pointer packet) ≡ number_in (return_path at) packet
  pointed_keeps_notes pointer at path =
      number_in-with_number_apart (return_path at) hop_pointer pointer packet (omega (arith, long)) (grind (arith, nat_tests))

  noted_is : (here : Here) (at : ℕ) → at < 64 → at < 255 → IsPointed (at + 1) packet (noted at here (pointed (at + 1) packet))
  noted_is here at path small =
      let moved = pointed_is (at + 1) (omega (arith, small)) in
      let first = pointed (at + 1) packet in
      record {
        count = length-with_number (return_path at) here.arrival first (omega (arith, moved.count, path)) ∙ moved.count;
        pointer_is = number_in-with_number_apart hop_pointer (return_path at) here.arrival first (omega (arith, moved.count, path)) (grind (arith, nat_tests))
            ∙ moved.pointer_is;
        kept = λ offset k. get_or-with_number (return_path at) here.arrival first offset (omega (arith, moved.count, path)) (before_notes at offset k)
            ∙ moved.kept offset k;
        parses = λ parses within. path_parses (192 + at) here.arrival first moved.count (omega arith) (omega (arith, path)) (moved.parses parses within);
      }

  -- a packet that has moved on
  pub moved_on_is : (here : Here) → number_in hop_pointer packet < 64 → IsPointed (number_in hop_pointer packet + 1) packet (moved_on here packet)
  moved_on_is here path =
      elim (number_in hop_pointer packet == 0) as
      (λ t. number_in hop_pointer packet == 0 ≡ t
      → IsPointed (number_in hop_pointer packet + 1) packet
      (if t then pointed 1 packet else noted (number_in hop_pointer packet) here (pointed (number_in hop_pointer packet + 1) packet))) [
        | true ↦ λ e.
            let first : 1 ≡ number_in hop_pointer packet + 1 = omega (arith, eqb-true _ _ e) in
            subst (λ n. IsPointed n packet (pointed 1 packet)) first (pointed_is 1 (omega arith))
        | false ↦ λ e. noted_is here (number_in hop_pointer packet) path (omega (arith, path))
      ] refl

  -- the port by which it came is noted
  pub moved_on_notes : (here : Here) → 0 < number_in hop_pointer packet → number_in hop_pointer packet < 64 → here.arrival < 256
      → number_in (return_path (number_in hop_pointer packet)) (moved_on here packet) ≡ here.arrival
  moved_on_notes here some path small =
      let moved = pointed_is (number_in hop_pointer packet + 1) (omega (arith, path)) in
      ap (number_in (return_path (number_in hop_pointer packet))) (passed _ _ _ _ (not-eq _ _ (inr some)) refl)
      ∙ number_in-with_number (return_path (number_in hop_pointer packet)) here.arrival (pointed (number_in hop_pointer packet + 1) packet)
      (omega (arith, moved.count, path)) small

  -- and what was noted at other offsets stays
  pub moved_on_keeps_notes : (here : Here) (i : ℕ) → number_in hop_pointer packet < 64 → i < 64
      → (i < number_in hop_pointer packet) ⊎ (number_in hop_pointer packet < i)
      → number_in (return_path i) (moved_on here packet) ≡ number_in (return_path i) packet
  moved_on_keeps_notes here i path within apart =
      let at : ℕ = number_in hop_pointer packet in
      let moved = pointed_is (at + 1) (omega (arith, path)) in
      elim (at == 0) as
      (λ t. number_in (return_path i) (if t then pointed 1 packet else noted at here (pointed (at + 1) packet)) ≡ number_in (return_path i) packet) [
        | true ↦ pointed_keeps_notes 1 i within
        | false ↦
            number_in-with_number_apart (return_path i) (return_path at) here.arrival (pointed (at + 1) packet)
            (omega (arith, moved.count, path)) (notes_apart at i apart)
            ∙ pointed_keeps_notes (at + 1) i within
      ]
