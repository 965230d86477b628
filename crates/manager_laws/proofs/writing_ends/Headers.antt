-- Which packets of a manager are Sets along a directed route of another attribute than SMInfo: those of the steps of a
-- writing, and no others.
use Rattle.std.proofs.Common.{◌≡◌, ◌<◌, ◌≤◌, ◌+◌, ◌^◌, inl, inr, ℕ, Bool, true, false, List, [], ◌++◌, get_or, length}
use Rattle.std.proofs.Common.{replicate, refl, sym, ap, ◌∙◌, arith}
use Rattle.std.proofs.lemmas.Bool.{cases_lt, eqb-true}
use Rattle.std.proofs.lemmas.List.{get_or_append_left, get_or_past, get_or-take, length-append, length-take}
use Rattle.std.specs.Prelude.{◌==◌, ◌&&◌, drop, not, take}
use Rattle.smp_bytes.specs.Field.{number_in, with_bytes, with_number, with_numbers}
use Rattle.smp_bytes.specs.Header.{directed_class, get_resp, lid_routed_class, set, sm_info}
use Rattle.smp_bytes.specs.Packet.{attribute_id, is_directed, method, mgmt_class, status_word}
use Rattle.smp_bytes.specs.Requests.{answer_packet, answer_status, directed, lid_routed, path_entries, request}
use Rattle.smp_bytes.specs.Requests.{request_entries}
use Rattle.smp_bytes.proofs.BitLaws.{byte-number_in}
use Rattle.smp_bytes.proofs.FieldLaws.{length-with_number, length-with_numbers, number_in-alike, number_in-with_number}
use Rattle.smp_bytes.proofs.FieldLaws.{number_in-with_numbers, number_in-with_numbers_apart}
use Rattle.smp_bytes.proofs.RequestLaws.{length-request}
use Rattle.manager_laws.specs.WritingEnds.{is_set}

-- what is written behind a byte leaves the byte
front : (i at : ℕ) (written bytes : List ℕ) → i < at → i < length bytes
    → get_or (with_bytes at written bytes) i 0 ≡ get_or bytes i 0
unfolding with_bytes
front i at written bytes before within =
    let long = length-take at bytes in
    get_or_append_left (take at bytes) (written ++ drop (at + length written) bytes) 0 i
    (omega (arith, long, before, within))
    ∙ get_or-take at bytes i 0 before

-- and as many bytes
still_within : (i at : ℕ) (written bytes : List ℕ) → i < at → i < length bytes
    → i < length (with_bytes at written bytes)
unfolding with_bytes
still_within i at written bytes before within =
    let long = length-take at bytes in
    let all = length-append (take at bytes) (written ++ drop (at + length written) bytes) in
    omega (arith, long, all, before, within)

-- requests ------------------------------------------------------------------------------------------------------

module _ (method_number attribute modifier tid : ℕ) where
  -- the bytes of the header of a directed request
  directed_byte : (i : ℕ) (path payload : List ℕ) → i < 64
      → get_or (directed method_number attribute modifier tid path payload) i 0
      ≡ get_or (with_numbers (path_entries (length path))
      (request directed_class method_number attribute modifier tid)) i 0
  directed_byte i path payload before =
      let made =
      with_numbers (path_entries (length path)) (request directed_class method_number attribute modifier tid) in
      let long : length made ≡ 256 =
      length-with_numbers 256 (path_entries (length path)) (request directed_class method_number attribute modifier tid)
      (length-request method_number attribute modifier tid directed_class) refl in
      front i 129 path (with_bytes 64 payload made) (omega (arith, before))
      (still_within i 64 payload made before (omega (arith, long, before)))
      ∙ front i 64 payload made before (omega (arith, long, before))

  pub directed_method : (path payload : List ℕ) → method_number < 256
      → number_in method (directed method_number attribute modifier tid path payload) ≡ method_number
  directed_method path payload small =
      let made =
      with_numbers (path_entries (length path)) (request directed_class method_number attribute modifier tid) in
      byte-number_in 3 (directed method_number attribute modifier tid path payload)
      ∙ directed_byte 3 path payload (omega arith)
      ∙ sym (byte-number_in 3 made)
      ∙ number_in-with_numbers_apart 256 method (path_entries (length path))
      (request directed_class method_number attribute modifier tid)
      (length-request method_number attribute modifier tid directed_class) refl
      ∙ number_in-with_numbers 256 (request_entries directed_class method_number attribute modifier tid)
      (replicate 256 0) 3 _ refl refl refl
      (omega (arith, small))

  pub directed_is : (path payload : List ℕ)
      → is_directed (directed method_number attribute modifier tid path payload) ≡ true
  directed_is path payload =
      let made =
      with_numbers (path_entries (length path)) (request directed_class method_number attribute modifier tid) in
      ap (λ n. n == directed_class) (
      byte-number_in 1 (directed method_number attribute modifier tid path payload)
      ∙ directed_byte 1 path payload (omega arith)
      ∙ sym (byte-number_in 1 made)
      ∙ number_in-with_numbers_apart 256 mgmt_class (path_entries (length path))
      (request directed_class method_number attribute modifier tid)
      (length-request method_number attribute modifier tid directed_class) refl
      ∙ number_in-with_numbers 256 (request_entries directed_class method_number attribute modifier tid)
      (replicate 256 0) 1 _ refl refl refl
      (omega arith))

  pub directed_attribute : (path payload : List ℕ) → attribute < 2 ^ 16
      → number_in attribute_id (directed method_number attribute modifier tid path payload) ≡ attribute
  directed_attribute path payload small =
      let made =
      with_numbers (path_entries (length path)) (request directed_class method_number attribute modifier tid) in
      number_in-alike attribute_id (directed method_number attribute modifier tid path payload) made
      (λ k low high. directed_byte k path payload (omega (arith, high)))
      ∙ number_in-with_numbers_apart 256 attribute_id (path_entries (length path))
      (request directed_class method_number attribute modifier tid)
      (length-request method_number attribute modifier tid directed_class) refl
      ∙ number_in-with_numbers 256 (request_entries directed_class method_number attribute modifier tid)
      (replicate 256 0) 5 _ refl refl refl
      (omega (arith, small))

  pub lid_routed_is : (payload : List ℕ) → is_directed (lid_routed method_number attribute modifier tid payload) ≡ false
  lid_routed_is payload =
      let made = request lid_routed_class method_number attribute modifier tid in
      let long = length-request method_number attribute modifier tid lid_routed_class in
      ap (λ n. n == directed_class) (
      byte-number_in 1 (lid_routed method_number attribute modifier tid payload)
      ∙ front 1 64 payload made (omega arith) (omega (arith, long))
      ∙ sym (byte-number_in 1 made)
      ∙ number_in-with_numbers 256 (request_entries lid_routed_class method_number attribute modifier tid)
      (replicate 256 0) 1 _ refl refl refl
      (omega arith))

-- answers -------------------------------------------------------------------------------------------------------

-- what names an attribute other than 0 has a method
pub has_method : (packet : List ℕ) → (number_in attribute_id packet == sm_info) ≡ true → 4 ≤ length packet
has_method packet e =
    elim (cases_lt 16 (length packet)) [
      | inl within ↦ omega (arith, within)
      | inr short ↦ let named = eqb-true (number_in attribute_id packet) sm_info e in
          let none =
          number_in-alike attribute_id packet []
          (λ k low high. get_or_past packet k 0 (omega (arith, short, low)) ∙ sym (get_or_past [] k 0 (omega arith))) in
          let wrong : 0 ≡ sm_info = sym none ∙ named in
          absurd (omega (arith, wrong))
    ]

pub answer_method : (packet : List ℕ) (status : ℕ) (payload : List ℕ) → 4 ≤ length packet
    → number_in method (answer_packet packet status payload) ≡ get_resp
answer_method packet status payload long =
    let named = with_number method get_resp packet in
    let judged = with_number status_word (answer_status packet status) named in
    let named_long = length-with_number method get_resp packet (omega (arith, long)) in
    byte-number_in 3 (answer_packet packet status payload)
    ∙ front 3 64 payload judged (omega arith) (still_within 3 4 _ named (omega arith) (omega (arith, named_long, long)))
    ∙ front 3 4 _ named (omega arith) (omega (arith, named_long, long))
    ∙ sym (byte-number_in 3 named)
    ∙ number_in-with_number method get_resp packet (omega (arith, long)) (omega arith)

-- Sets along a directed route ---------------------------------------------------------------------------------------

pub other_method : (packet : List ℕ) (n : ℕ) → number_in method packet ≡ n → (n == set) ≡ false → is_set packet ≡ false
other_method packet n is other =
    ap (λ k. (k == set) && rest) is ∙ ap (λ b. b && rest) other
  where
    rest : Bool
    rest = is_directed packet && not (number_in attribute_id packet == sm_info)

pub not_directed : (packet : List ℕ) → is_directed packet ≡ false → is_set packet ≡ false
not_directed packet e =
    ap (λ b. (number_in method packet == set) && (b && not (number_in attribute_id packet == sm_info))) e
    ∙ by_test (number_in method packet == set)
  where
    by_test : (b : Bool) → (b && false) ≡ false
    by_test true = refl
    by_test false = refl

pub for_managers : (packet : List ℕ) → number_in attribute_id packet ≡ sm_info → is_set packet ≡ false
for_managers packet e =
    ap (λ n. (number_in method packet == set) && (is_directed packet && not (n == sm_info))) e
    ∙ by_tests (number_in method packet == set) (is_directed packet)
  where
    by_tests : (a b : Bool) → (a && (b && false)) ≡ false
    by_tests true true = refl
    by_tests true false = refl
    by_tests false b = refl

pub sets : (attribute modifier tid : ℕ) (path payload : List ℕ) → (attribute == sm_info) ≡ false → attribute < 2 ^ 16
    → is_set (directed set attribute modifier tid path payload) ≡ true
sets attribute modifier tid path payload other small =
    let packet = directed set attribute modifier tid path payload in
    ap (λ n. (n == set) && (is_directed packet && not (number_in attribute_id packet == sm_info)))
    (directed_method set attribute modifier tid path payload (omega arith))
    ∙ ap (λ b. b && not (number_in attribute_id packet == sm_info))
    (directed_is set attribute modifier tid path payload)
    ∙ ap (λ n. not (n == sm_info)) (directed_attribute set attribute modifier tid path payload small)
    ∙ ap not other
