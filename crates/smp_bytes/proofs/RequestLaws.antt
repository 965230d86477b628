-- Bytes built as a packet are a packet.
use Rattle.std.proofs.Common.{◌≡◌, ℕ, ◌+◌, ◌<◌, ◌≤◌, List, refl, sym, ap, ◌∙◌, true, cond, arith, length, replicate, inl}
use Rattle.std.specs.Prelude.{Option, None, Some, not, nat_lt, ◌==◌, ◌&&◌, ◌||◌, if◌then◌else◌}
use Rattle.std.proofs.lemmas.Bool.{le-ltb, eq-eqb}
use Rattle.std.proofs.lemmas.Bool.Decides.{nat_tests}
use Rattle.byteorder.specs.Endian.{big_bytes}
use Rattle.smp_bytes.specs.declared.smp_fault.SmpFault.{SmpFault}
use Rattle.smp_bytes.specs.declared.smp_fault.SmpFault.TheVariants.{BaseVersion, Class, ClassVersion, HopCount, HopPointer, DrLid}
use Rattle.smp_bytes.specs.Field.{Field, are_apart, number_in, with_bytes, with_number, with_numbers}
use Rattle.smp_bytes.proofs.FieldLaws.{is_apart_from, number_in-with_bytes, number_in-with_number, number_in-with_number_apart, number_in-with_numbers, number_in-with_numbers_apart, length-with_bytes, length-with_number, length-with_numbers}
use Rattle.smp_bytes.specs.Packet.{base_version, mgmt_class, class_version, hop_count, hop_pointer, dr_slid, dr_dlid, permissive_lid, method, status_word, is_directed, fault_of}
use Rattle.smp_bytes.specs.Requests.{request_entries, path_entries, request, lid_routed, directed}

-- bytes whose fields are those of a packet have no fault
fault_by : ℕ → ℕ → ℕ → ℕ → ℕ → ℕ → ℕ → Option SmpFault
fault_by version class of_class hops pointer slid dlid =
    if not (version == 1) then Some BaseVersion
    else if not (class == 0x01 || class == 0x81) then Some Class
    else if not (of_class == 1) then Some ClassVersion
    else if class == 0x81 then
    (if nat_lt 63 hops then Some HopCount
    else if nat_lt (hops + 1) pointer then Some HopPointer
    else if not (slid == permissive_lid && dlid == permissive_lid) then Some DrLid
    else None)
    else None

fault_by-fields : (p : List ℕ) → fault_of p ≡ fault_by (number_in base_version p) (number_in mgmt_class p) (number_in class_version p) (number_in hop_count p)
    (number_in hop_pointer p) (number_in dr_slid p) (number_in dr_dlid p)
unfolding fault_by
fault_by-fields p = refl

fault_by-lid_routed : (hops pointer slid dlid : ℕ) → fault_by 1 0x01 1 hops pointer slid dlid ≡ None
unfolding fault_by
fault_by-lid_routed hops pointer slid dlid = refl

fault_by-directed : (hops pointer : ℕ) → hops ≤ 63 → pointer ≤ hops + 1 → fault_by 1 0x81 1 hops pointer permissive_lid permissive_lid ≡ None
unfolding fault_by
fault_by-directed hops pointer few within =
    ap (λ b. cond b (Some HopCount) (cond (nat_lt (hops + 1) pointer) (Some HopPointer) None)) (le-ltb 63 hops few)
    ∙ ap (λ b. cond b (Some HopPointer) None) (le-ltb (hops + 1) pointer within)

pub no_fault-lid_routed : (p : List ℕ) → number_in base_version p ≡ 1 → number_in mgmt_class p ≡ 0x01 → number_in class_version p ≡ 1 → fault_of p ≡ None
no_fault-lid_routed p a b c =
    fault_by-fields p
    ∙ ap (λ n. fault_by n (number_in mgmt_class p) (number_in class_version p) (number_in hop_count p) (number_in hop_pointer p) (number_in dr_slid p)
    (number_in dr_dlid p)) a
    ∙ ap (λ n. fault_by 1 n (number_in class_version p) (number_in hop_count p) (number_in hop_pointer p) (number_in dr_slid p) (number_in dr_dlid p)) b
    ∙ ap (λ n. fault_by 1 0x01 n (number_in hop_count p) (number_in hop_pointer p) (number_in dr_slid p) (number_in dr_dlid p)) c
    ∙ fault_by-lid_routed (number_in hop_count p) (number_in hop_pointer p) (number_in dr_slid p) (number_in dr_dlid p)

pub no_fault-directed : (p : List ℕ) → number_in base_version p ≡ 1 → number_in mgmt_class p ≡ 0x81 → number_in class_version p ≡ 1 → number_in hop_count p ≤ 63
    → number_in hop_pointer p ≤ number_in hop_count p + 1 → number_in dr_slid p ≡ permissive_lid → number_in dr_dlid p ≡ permissive_lid → fault_of p ≡ None
no_fault-directed p a b c few within d e =
    fault_by-fields p
    ∙ ap (λ n. fault_by n (number_in mgmt_class p) (number_in class_version p) (number_in hop_count p) (number_in hop_pointer p) (number_in dr_slid p)
    (number_in dr_dlid p)) a
    ∙ ap (λ n. fault_by 1 n (number_in class_version p) (number_in hop_count p) (number_in hop_pointer p) (number_in dr_slid p) (number_in dr_dlid p)) b
    ∙ ap (λ n. fault_by 1 0x81 n (number_in hop_count p) (number_in hop_pointer p) (number_in dr_slid p) (number_in dr_dlid p)) c
    ∙ ap (λ n. fault_by 1 0x81 1 (number_in hop_count p) (number_in hop_pointer p) n (number_in dr_dlid p)) d
    ∙ ap (λ n. fault_by 1 0x81 1 (number_in hop_count p) (number_in hop_pointer p) permissive_lid n) e
    ∙ fault_by-directed (number_in hop_count p) (number_in hop_pointer p) few within

module _ (method_number attribute modifier tid : ℕ) where
  pub length-request : (class : ℕ) → length (request class method_number attribute modifier tid) ≡ 256
  length-request class = length-with_numbers 256 (request_entries class method_number attribute modifier tid) (replicate 256 0) refl refl

  pub length-directed : (path payload : List ℕ) → length payload ≡ 64 → length path ≤ 63
      → length (directed method_number attribute modifier tid path payload) ≡ 256
  length-directed path payload whole short =
      let r = length-request 0x81 in
      let p : length (with_numbers (path_entries (length path)) (request 0x81 method_number attribute modifier tid)) ≡ 256 =
      length-with_numbers 256 (path_entries (length path)) (request 0x81 method_number attribute modifier tid) r refl in
      let q : length (with_bytes 64 payload (with_numbers (path_entries (length path)) (request 0x81 method_number attribute modifier tid))) ≡ 256 =
      length-with_bytes 64 payload _ (omega arith) ∙ p in
      length-with_bytes 129 path _ (omega arith) ∙ q

  -- a field of the header of a LID-routed request
  pub lid_routed_field : (f : Field) (payload : List ℕ) → length payload ≡ 64 → f.at + f.len ≤ 64
      → number_in f (lid_routed method_number attribute modifier tid payload) ≡ number_in f (request 0x01 method_number attribute modifier tid)
  lid_routed_field f payload whole before = number_in-with_bytes f 64 payload _ (omega (arith, length-request 0x01)) (inl before)

  pub lid_routed_parses : (payload : List ℕ) → length payload ≡ 64 → fault_of (lid_routed method_number attribute modifier tid payload) ≡ None
  lid_routed_parses payload whole =
      let entries = request_entries 0x01 method_number attribute modifier tid in
      let version : number_in base_version (lid_routed method_number attribute modifier tid payload) ≡ 1 =
      lid_routed_field base_version payload whole (omega arith) ∙ number_in-with_numbers 256 entries (replicate 256 0) 0 _ refl refl refl (omega arith) in
      let class : number_in mgmt_class (lid_routed method_number attribute modifier tid payload) ≡ 0x01 =
      lid_routed_field mgmt_class payload whole (omega arith) ∙ number_in-with_numbers 256 entries (replicate 256 0) 1 _ refl refl refl (omega arith) in
      let of_class : number_in class_version (lid_routed method_number attribute modifier tid payload) ≡ 1 =
      lid_routed_field class_version payload whole (omega arith) ∙ number_in-with_numbers 256 entries (replicate 256 0) 2 _ refl refl refl (omega arith) in
      no_fault-lid_routed (lid_routed method_number attribute modifier tid payload) version class of_class

  -- a field of the header of a directed request
  pub directed_field : (f : Field) (path payload : List ℕ) → length payload ≡ 64 → length path ≤ 63 → f.at + f.len ≤ 64
      → number_in f (directed method_number attribute modifier tid path payload) ≡ number_in f
      (with_numbers (path_entries (length path)) (request 0x81 method_number attribute modifier tid))
  directed_field f path payload whole short before =
      let p : length (with_numbers (path_entries (length path)) (request 0x81 method_number attribute modifier tid)) ≡ 256 =
      length-with_numbers 256 (path_entries (length path)) (request 0x81 method_number attribute modifier tid) (length-request 0x81) refl in
      let q : length (with_bytes 64 payload (with_numbers (path_entries (length path)) (request 0x81 method_number attribute modifier tid))) ≡ 256 =
      length-with_bytes 64 payload _ (omega arith) ∙ p in
      number_in-with_bytes f 129 path _ (omega arith) (inl (omega arith)) ∙ number_in-with_bytes f 64 payload _ (omega arith) (inl before)

  -- one that both classes have
  pub directed_header : (f : Field) (path payload : List ℕ) → length payload ≡ 64 → length path ≤ 63 → f.at + f.len ≤ 64
      → is_apart_from 256 f (path_entries (length path)) ≡ true
      → number_in f (directed method_number attribute modifier tid path payload) ≡ number_in f (request 0x81 method_number attribute modifier tid)
  directed_header f path payload whole short before apart = directed_field f path payload whole short before
      ∙ number_in-with_numbers_apart 256 f (path_entries (length path)) (request 0x81 method_number attribute modifier tid) (length-request 0x81) apart

  pub directed_parses : (path payload : List ℕ) → length payload ≡ 64 → length path ≤ 63
      → fault_of (directed method_number attribute modifier tid path payload) ≡ None
  directed_parses path payload whole short =
      let made = directed method_number attribute modifier tid path payload in
      let entries = request_entries 0x81 method_number attribute modifier tid in
      let before = request 0x81 method_number attribute modifier tid in
      let version : number_in base_version made ≡ 1 = directed_header base_version path payload whole short (omega arith) refl
      ∙ number_in-with_numbers 256 entries (replicate 256 0) 0 _ refl refl refl (omega arith) in
      let class : number_in mgmt_class made ≡ 0x81 = directed_header mgmt_class path payload whole short (omega arith) refl
      ∙ number_in-with_numbers 256 entries (replicate 256 0) 1 _ refl refl refl (omega arith) in
      let of_class : number_in class_version made ≡ 1 = directed_header class_version path payload whole short (omega arith) refl
      ∙ number_in-with_numbers 256 entries (replicate 256 0) 2 _ refl refl refl (omega arith) in
      let hops : number_in hop_count made ≡ length path = directed_field hop_count path payload whole short (omega arith)
      ∙ number_in-with_numbers 256 (path_entries (length path)) before 0 _ (length-request 0x81) refl refl (omega arith) in
      let pointer : number_in hop_pointer made ≡ 0 = directed_header hop_pointer path payload whole short (omega arith) refl
      ∙ number_in-with_numbers_apart 256 hop_pointer entries (replicate 256 0) refl refl in
      let slid : number_in dr_slid made ≡ permissive_lid = directed_field dr_slid path payload whole short (omega arith)
      ∙ number_in-with_numbers 256 (path_entries (length path)) before 1 _ (length-request 0x81) refl refl (omega arith) in
      let dlid : number_in dr_dlid made ≡ permissive_lid = directed_field dr_dlid path payload whole short (omega arith)
      ∙ number_in-with_numbers 256 (path_entries (length path)) before 2 _ (length-request 0x81) refl refl (omega arith) in
      no_fault-directed made version class of_class (omega arith) (omega arith) slid dlid

-- packets that are alike where faults are judged have the same fault
pub record AreJudgedAlike (p q : List ℕ) : Type 0 where
  pub version : number_in base_version p ≡ number_in base_version q
  pub class : number_in mgmt_class p ≡ number_in mgmt_class q
  pub of_class : number_in class_version p ≡ number_in class_version q
  pub hops : number_in hop_count p ≡ number_in hop_count q
  pub pointer : number_in hop_pointer p ≡ number_in hop_pointer q
  pub slid : number_in dr_slid p ≡ number_in dr_slid q
  pub dlid : number_in dr_dlid p ≡ number_in dr_dlid q

pub fault_of-alike : (p q : List ℕ) → AreJudgedAlike p q → fault_of p ≡ fault_of q
fault_of-alike p q same =
    fault_by-fields p
    ∙ (λ i. fault_by (same.version i) (same.class i) (same.of_class i) (same.hops i) (same.pointer i) (same.slid i) (same.dlid i))
    ∙ sym (fault_by-fields q)

-- a number written apart from the fields by which faults are judged keeps them
pub alike-with_number : (f : Field) (number : ℕ) (packet : List ℕ) → f.at + f.len ≤ length packet → are_apart base_version f ≡ true
    → are_apart mgmt_class f ≡ true → are_apart class_version f ≡ true → are_apart hop_count f ≡ true → are_apart hop_pointer f ≡ true
    → are_apart dr_slid f ≡ true → are_apart dr_dlid f ≡ true → AreJudgedAlike (with_number f number packet) packet
alike-with_number f number packet within a b c d e g h =
    record {
      version = number_in-with_number_apart base_version f number packet within a;
      class = number_in-with_number_apart mgmt_class f number packet within b;
      of_class = number_in-with_number_apart class_version f number packet within c;
      hops = number_in-with_number_apart hop_count f number packet within d;
      pointer = number_in-with_number_apart hop_pointer f number packet within e;
      slid = number_in-with_number_apart dr_slid f number packet within g;
      dlid = number_in-with_number_apart dr_dlid f number packet within h;
    }

-- so do bytes written behind them
pub alike-with_bytes : (at : ℕ) (written packet : List ℕ) → at + length written ≤ length packet → 36 ≤ at → AreJudgedAlike (with_bytes at written packet) packet
alike-with_bytes at written packet within behind =
    record {
      version = number_in-with_bytes base_version at written packet within (inl (omega arith));
      class = number_in-with_bytes mgmt_class at written packet within (inl (omega arith));
      of_class = number_in-with_bytes class_version at written packet within (inl (omega arith));
      hops = number_in-with_bytes hop_count at written packet within (inl (omega arith));
      pointer = number_in-with_bytes hop_pointer at written packet within (inl (omega arith));
      slid = number_in-with_bytes dr_slid at written packet within (inl (omega arith));
      dlid = number_in-with_bytes dr_dlid at written packet within (inl (omega arith));
    }

-- whatever its status word is, an answer is a packet
pub answer_parses : (packet payload : List ℕ) (word : ℕ) → length packet ≡ 256 → length payload ≡ 64 → fault_of packet ≡ None
    → fault_of (with_bytes 64 payload (with_number status_word word (with_number method 0x81 packet))) ≡ None
answer_parses packet payload word long whole parses =
    let first = with_number method 0x81 packet in
    let second = with_number status_word word first in
    let long1 : length first ≡ 256 = length-with_number method 0x81 packet (omega arith) ∙ long in
    let long2 : length second ≡ 256 = length-with_number status_word word first (omega arith) ∙ long1 in
    fault_of-alike (with_bytes 64 payload (with_number status_word word (with_number method 0x81 packet))) second
    (alike-with_bytes 64 payload second (omega arith) (omega arith))
    ∙ fault_of-alike second first (alike-with_number status_word word first (omega arith) refl refl refl refl refl refl refl)
    ∙ fault_of-alike first packet (alike-with_number method 0x81 packet (omega arith) refl refl refl refl refl refl refl)
    ∙ parses

-- another hop pointer within the path keeps a packet a packet
fault_by-pointer : (version class of_class hops pointer slid dlid other : ℕ) → (class ≡ 0x81 → other ≤ hops + 1)
    → fault_by version class of_class hops pointer slid dlid ≡ None → fault_by version class of_class hops other slid dlid ≡ None
unfolding fault_by
fault_by-pointer version class of_class hops pointer slid dlid other within h = grind (arith, nat_tests)

pub hop_pointer_parses : (packet : List ℕ) (pointer : ℕ) → length packet ≡ 256 → pointer < 256
    → (is_directed packet ≡ true → pointer ≤ number_in hop_count packet + 1) → fault_of packet ≡ None → fault_of (with_number hop_pointer pointer packet) ≡ None
hop_pointer_parses packet pointer long small within parses =
    let new = with_number hop_pointer pointer packet in
    let keeps : (f : Field) → are_apart f hop_pointer ≡ true
    → number_in f new ≡ number_in f packet = λ f apart. number_in-with_number_apart f hop_pointer pointer packet (omega arith) apart in
    fault_by-fields new
    ∙ (λ i. fault_by (keeps base_version refl i) (keeps mgmt_class refl i) (keeps class_version refl i) (keeps hop_count refl i)
    (number_in-with_number hop_pointer pointer packet (omega arith) small i) (keeps dr_slid refl i) (keeps dr_dlid refl i))
    ∙ fault_by-pointer (number_in base_version packet) (number_in mgmt_class packet) (number_in class_version packet) (number_in hop_count packet)
    (number_in hop_pointer packet) (number_in dr_slid packet) (number_in dr_dlid packet) pointer
    (λ e. within (eq-eqb _ _ e)) (sym (fault_by-fields packet) ∙ parses)

-- a number written into another field keeps it one
pub field_parses : (f : Field) (number : ℕ) (packet : List ℕ) → length packet ≡ 256 → f.at + f.len ≤ 256 → are_apart base_version f ≡ true
    → are_apart mgmt_class f ≡ true → are_apart class_version f ≡ true → are_apart hop_count f ≡ true → are_apart hop_pointer f ≡ true
    → are_apart dr_slid f ≡ true → are_apart dr_dlid f ≡ true → fault_of packet ≡ None → fault_of (with_number f number packet) ≡ None
field_parses f number packet long within a b c d e g h parses =
    fault_of-alike (with_number f number packet) packet (alike-with_number f number packet (omega arith) a b c d e g h) ∙ parses

-- so does a port written into one of the paths
pub path_parses : (at port : ℕ) (packet : List ℕ) → length packet ≡ 256 → 36 ≤ at → at < 256 → fault_of packet ≡ None
    → fault_of (with_number (record { at = at; len = 1 }) port packet) ≡ None
path_parses at port packet long behind within parses =
    fault_of-alike (with_number (record { at = at; len = 1 }) port packet) packet (alike-with_bytes at (big_bytes 1 port) packet (omega arith) behind) ∙ parses
