-- A status that is written is read, and the direction stays.
use Rattle.std.proofs.Common.{◌≡◌, ℕ, ◌+◌, ◌*◌, ◌/◌, ◌%◌, ◌^◌, ◌<◌, List, refl, ap, ◌∙◌, arith, Bool, true, false, cond, length, get_or}
use Rattle.std.specs.Prelude.{All, ◌==◌}
use Rattle.std.proofs.lemmas.List.{get_or-drop}
use Rattle.byteorder.specs.Endian.{big_bytes}
use Rattle.smp_bytes.specs.Field.{number_in, with_number}
use Rattle.smp_bytes.specs.Packet.{mgmt_class, status_word, is_directed, is_returning, status}
use Rattle.smp_bytes.specs.ReadBack.{StatusReadsBack}
use Rattle.smp_bytes.proofs.CopyLaws.{byte_at_offset}
use Rattle.smp_bytes.proofs.FieldLaws.{number_in-with_number, number_in-with_number_apart}
use Rattle.smp_bytes.proofs.OffsetLaws.{get_or-with_bytes_inside}

-- the status word of a packet with another status
word_given : Bool → ℕ → ℕ → ℕ
word_given directed word given = cond directed (word / 2 ^ 15 * 2 ^ 15 + given) given

word_given-fits : (directed : Bool) (word given : ℕ) → word < 2 ^ 16 → given < 2 ^ 16 → (directed ≡ true → given < 2 ^ 15)
    → word_given directed word given < 2 ^ 16
unfolding word_given
word_given-fits true word given fits small within = let below : given < 2 ^ 15 = within refl in omega arith
word_given-fits false word given fits small within = small

-- without the direction it is the status
status_given : (directed : Bool) (word given : ℕ) → (directed ≡ true → given < 2 ^ 15)
    → cond directed (word_given directed word given % 2 ^ 15) (word_given directed word given) ≡ given
unfolding word_given
status_given true word given within = let below : given < 2 ^ 15 = within refl in omega arith
status_given false word given within = refl

-- the direction is that of the word
direction_given : (high low given : ℕ) → high < 256 → low < 256 → given < 2 ^ 15
    → ((high * 256 + low) / 2 ^ 15 * 2 ^ 15 + given) / 256 % 256 / 2 ^ 7 % 2 ^ 1 ≡ high / 2 ^ 7 % 2 ^ 1
direction_given high low given h l small = omega arith

-- the two bytes of the status word
word_of_bytes : (packet : List ℕ) → number_in status_word packet ≡ get_or packet 4 0 * 256 + get_or packet 5 0
word_of_bytes packet = let high = get_or-drop 4 packet 0 0 in let low = get_or-drop 4 packet 1 0 in omega (arith, high, low)

module _ (packet : List ℕ) (given : ℕ) (long : length packet ≡ 256) (bytes : All (λ byte. byte < 256) packet) (fits : given < 2 ^ 16)
    (within : is_directed packet ≡ true → given < 2 ^ 15) where
  word : ℕ
  word = word_given (is_directed packet) (number_in status_word packet) given

  word_fits : word < 2 ^ 16
  unfolding word
  word_fits =
      let high = byte_at_offset packet bytes 4 in
      let low = byte_at_offset packet bytes 5 in
      let whole = word_of_bytes packet in
      word_given-fits (is_directed packet) (number_in status_word packet) given (omega arith) fits within

  class_stays : is_directed (with_number status_word word packet) ≡ is_directed packet
  class_stays = ap (λ n. n == 0x81) (number_in-with_number_apart mgmt_class status_word word packet (omega arith) refl)

  status_is : status (with_number status_word word packet) ≡ given
  unfolding word
  status_is =
      ap (λ (b : Bool). cond b (number_in status_word (with_number status_word word packet) % 2 ^ 15)
      (number_in status_word (with_number status_word word packet))) class_stays
      ∙ ap (λ n. cond (is_directed packet) (n % 2 ^ 15) n) (number_in-with_number status_word word packet (omega arith) word_fits)
      ∙ status_given (is_directed packet) (number_in status_word packet) given within

  direction_stays : is_directed packet ≡ true → is_returning (with_number status_word word packet) ≡ is_returning packet
  unfolding word word_given
  direction_stays directed =
      ap (λ n. n / 2 ^ 7 % 2 ^ 1 == 1) (get_or-with_bytes_inside 4 (big_bytes 2 word) packet 0 (omega arith) (omega arith)
      ∙ ap (λ (b : Bool). cond b (number_in status_word packet / 2 ^ 15 * 2 ^ 15 + given) given / 256 % 256) directed)
      ∙ ap (λ n. (n / 2 ^ 15 * 2 ^ 15 + given) / 256 % 256 / 2 ^ 7 % 2 ^ 1 == 1) (word_of_bytes packet)
      ∙ ap (λ n. n == 1) (direction_given (get_or packet 4 0) (get_or packet 5 0) given (byte_at_offset packet bytes 4) (byte_at_offset packet bytes 5)
      (within directed))

pub status_reads_back : StatusReadsBack
unfolding word word_given
status_reads_back packet given long bytes fits within =
    record {
      class = class_stays packet given long bytes fits within;
      status = status_is packet given long bytes fits within;
      returning = direction_stays packet given long bytes fits within;
    }
