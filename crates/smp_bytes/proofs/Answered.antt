-- An answer holds what was given, and otherwise what the request holds.
use Rattle.std.proofs.Common.{◌≡◌, ℕ, ◌+◌, ◌/◌, ◌%◌, ◌^◌, ◌<◌, ◌≤◌, List, refl, sym, ap, ◌∙◌, arith, Bool, true, false, cond, ◌⊎◌, inl, inr, length, get_or}
use Rattle.std.specs.Prelude.{◌==◌}
use Rattle.std.proofs.lemmas.Bool.{eq-eqb}
use Rattle.byteorder.specs.Endian.{big_bytes}
use Rattle.smp_bytes.specs.Field.{number_in, bytes_in, with_number}
use Rattle.smp_bytes.proofs.FieldLaws.{get_or-with_bytes, length-with_bytes, length-with_number, number_in-with_bytes, number_in-with_number, number_in-with_number_apart}
use Rattle.smp_bytes.proofs.BitLaws.{byte-number_in}
use Rattle.smp_bytes.specs.Packet.{mgmt_class, method, status_word, attribute_data, is_directed, is_returning, is_response, status}
use Rattle.smp_bytes.specs.Requests.{answer_status, answer_packet}
use Rattle.smp_bytes.proofs.RequestLaws.{answer_parses}
use Rattle.smp_bytes.specs.ReadBack.{IsKeptInAnswer, AnswerReadsBack}
use Rattle.smp_bytes.proofs.OffsetLaws.{get_or-with_number}
use Rattle.smp_bytes.proofs.OffsetLaws.{get_or-with_bytes_inside, bytes_in-with_bytes}

-- the status word without the direction is the status that was given
status_given : (directed : Bool) (given : ℕ) → (directed ≡ true → given < 2 ^ 15)
    → cond directed (cond directed (2 ^ 15 + given) given % 2 ^ 15) (cond directed (2 ^ 15 + given) given) ≡ given
status_given true given small = let below : given < 2 ^ 15 = small refl in omega arith
status_given false given small = refl

word_fits : (directed : Bool) (given : ℕ) → given < 2 ^ 16 → (directed ≡ true → given < 2 ^ 15) → cond directed (2 ^ 15 + given) given < 2 ^ 16
word_fits true given fits small = let below : given < 2 ^ 15 = small refl in omega arith
word_fits false given fits small = fits

module _ (request : List ℕ) (given : ℕ) (payload : List ℕ) (long : length request ≡ 256) (whole : length payload ≡ 64) where
  -- the request with the method of an answer
  renamed : List ℕ
  renamed = with_number method 0x81 request

  -- and with its status
  judged : List ℕ
  judged = with_number status_word (answer_status request given) renamed

  length-renamed : length renamed ≡ 256
  unfolding renamed
  length-renamed = length-with_number method 0x81 request (omega arith) ∙ long

  length-judged : length judged ≡ 256
  unfolding judged
  length-judged = let l = length-renamed in length-with_number status_word (answer_status request given) renamed (omega arith) ∙ length-renamed

  class_stays : number_in mgmt_class (answer_packet request given payload) ≡ number_in mgmt_class request
  unfolding renamed judged
  class_stays =
      let l = length-renamed in
      let m = length-judged in
      number_in-with_bytes mgmt_class 64 payload judged (omega arith) (inl (omega arith))
      ∙ number_in-with_number_apart mgmt_class status_word (answer_status request given) renamed (omega arith) refl
      ∙ number_in-with_number_apart mgmt_class method 0x81 request (omega arith) refl

  direction_stays : is_directed (answer_packet request given payload) ≡ is_directed request
  direction_stays = ap (λ n. n == 0x81) class_stays

  method_is : number_in method (answer_packet request given payload) ≡ 0x81
  unfolding renamed judged
  method_is =
      let l = length-renamed in
      let m = length-judged in
      number_in-with_bytes method 64 payload judged (omega arith) (inl (omega arith))
      ∙ number_in-with_number_apart method status_word (answer_status request given) renamed (omega arith) refl
      ∙ number_in-with_number method 0x81 request (omega arith) (omega arith)

  response_is : is_response (answer_packet request given payload) ≡ true
  response_is = ap (λ n. n / 2 ^ 7 % 2 ^ 1 == 1) (sym (byte-number_in 3 (answer_packet request given payload)) ∙ method_is)

  word_is : answer_status request given < 2 ^ 16 → number_in status_word (answer_packet request given payload) ≡ answer_status request given
  unfolding renamed judged
  word_is fits =
      let l = length-renamed in
      let m = length-judged in
      number_in-with_bytes status_word 64 payload judged (omega arith) (inl (omega arith))
      ∙ number_in-with_number status_word (answer_status request given) renamed (omega arith) fits

  status_is : given < 2 ^ 16 → (is_directed request ≡ true → given < 2 ^ 15) → status (answer_packet request given payload) ≡ given
  status_is fits small =
      ap (λ (b : Bool). cond b (number_in status_word (answer_packet request given payload) % 2 ^ 15)
      (number_in status_word (answer_packet request given payload))) direction_stays
      ∙ ap (λ n. cond (is_directed request) (n % 2 ^ 15) n) (word_is (word_fits (is_directed request) given fits small))
      ∙ status_given (is_directed request) given small

  -- the byte with the direction
  high_byte : get_or (answer_packet request given payload) 4 0 ≡ answer_status request given / 256 % 256
  unfolding renamed judged
  high_byte =
      let l = length-renamed in
      let m = length-judged in
      get_or-with_bytes 64 payload judged 4 (omega arith) (inl (omega arith))
      ∙ get_or-with_bytes_inside 4 (big_bytes 2 (answer_status request given)) renamed 0 (omega arith) (omega arith)

  returning_is : (is_directed request ≡ true → given < 2 ^ 15) → is_directed request ≡ true → is_returning (answer_packet request given payload) ≡ true
  returning_is small directed =
      let below : given < 2 ^ 15 = small directed in
      let word : answer_status request given ≡ 2 ^ 15 + given = ap (λ (b : Bool). cond b (2 ^ 15 + given) given) directed in
      let bit : (2 ^ 15 + given) / 256 % 256 / 2 ^ 7 % 2 ^ 1 ≡ 1 = omega arith in
      ap (λ n. n / 2 ^ 7 % 2 ^ 1 == 1) (high_byte ∙ ap (λ n. n / 256 % 256) word) ∙ eq-eqb ((2 ^ 15 + given) / 256 % 256 / 2 ^ 7 % 2 ^ 1) 1 bit

  data_is : bytes_in attribute_data (answer_packet request given payload) ≡ payload
  unfolding renamed judged
  data_is =
      let m = length-judged in
      ap (λ n. bytes_in (record { at = 64; len = n }) (answer_packet request given payload)) (sym whole) ∙ bytes_in-with_bytes 64 payload judged (omega arith)

  -- a byte outside method, status and attribute
  stays : (offset : ℕ) → (offset < 64) ⊎ (128 ≤ offset) → (offset < 4) ⊎ (6 ≤ offset) → (offset < 3) ⊎ (4 ≤ offset)
      → get_or (answer_packet request given payload) offset 0 ≡ get_or request offset 0
  unfolding renamed judged
  stays offset no_data no_status no_method =
      let l = length-renamed in
      let m = length-judged in
      get_or-with_bytes 64 payload judged offset (omega arith) (behind no_data)
      ∙ get_or-with_number status_word (answer_status request given) renamed offset (omega arith) no_status
      ∙ get_or-with_number method 0x81 request offset (omega arith) no_method
    where
      behind : (offset < 64) ⊎ (128 ≤ offset) → (offset < 64) ⊎ (64 + length payload ≤ offset)
      behind (inl h) = inl h
      behind (inr h) = inr (omega arith)

  kept_is : (offset : ℕ) → IsKeptInAnswer offset → get_or (answer_packet request given payload) offset 0 ≡ get_or request offset 0
  kept_is offset (inl first) = stays offset (inl (omega arith)) (inl (omega arith)) (inl (omega arith))
  kept_is offset (inr (inl between)) = stays offset (inl between.1) (inr between.0) (inr (omega arith))
  kept_is offset (inr (inr last)) = stays offset (inr last) (inr (omega arith)) (inr (omega arith))

  length-answer : length (answer_packet request given payload) ≡ 256
  unfolding renamed judged
  length-answer = let m = length-judged in length-with_bytes 64 payload judged (omega arith) ∙ length-judged

pub answer_reads_back : AnswerReadsBack
answer_reads_back request given payload long parses whole fits small =
    record {
      count = length-answer request given payload long whole;
      parses = answer_parses request payload (answer_status request given) long whole parses;
      class = direction_stays request given payload long whole;
      method = method_is request given payload long whole;
      response = response_is request given payload long whole;
      returning = returning_is request given payload long whole small;
      status = status_is request given payload long whole fits small;
      attribute_data = data_is request given payload long whole;
      kept = kept_is request given payload long whole;
    }
