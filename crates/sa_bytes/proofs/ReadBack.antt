-- Answers and paths hold what was given: each field is written once, and later writes are apart from it.
use Rattle.std.proofs.Common.{◌≡◌, ℕ, ◌+◌, ◌/◌, ◌%◌, ◌^◌, ◌<◌, ◌≤◌, List, refl, sym, ap, ◌∙◌, arith, true, inl, length, replicate, drop, Bool, false, subst}
use Rattle.std.specs.Prelude.{All, Some, slice_get, ◌==◌, if◌then◌else◌}
use Rattle.std.proofs.lemmas.List.{get_or-drop}
use Rattle.byteorder.specs.Numbers.{big_from-lt}
use Rattle.smp_bytes.specs.Field.{Field, Entry, number_in, with_numbers}
use Rattle.smp_bytes.specs.Packet.{method, transaction_id, attribute_id, attribute_modifier}
use Rattle.smp_bytes.proofs.BitLaws.{byte-number_in}
use Rattle.smp_bytes.proofs.CopyLaws.{byte_at_offset}
use Rattle.smp_bytes.proofs.FieldLaws.{is_apart_from, length-with_bytes, length-with_numbers, number_in-with_bytes, number_in-with_numbers, number_in-with_numbers_apart}
use Rattle.smp_bytes.proofs.OffsetLaws.{bytes_in-with_bytes}
use Rattle.attr_codec.specs.RoundTrip.{number_in-image}
use Rattle.sa_bytes.specs.Answer.{answer_entries, sa_answer}
use Rattle.sa_bytes.specs.MemberRecord.{member_entries}
use Rattle.sa_bytes.specs.PathRecord.{path_entries}
use Rattle.sa_bytes.specs.ReadBack.{MemberReadsBack, PathReadsBack, SaAnswerReadsBack}
use Rattle.sa_bytes.specs.SaPacket.{component_mask, sm_key}

pub path_back : PathReadsBack
path_back path fits =
    let es = path_entries path in
    λ j. record {
      service_id = number_in-image es fits 0 _ refl refl j;
      dgid_prefix = number_in-image es fits 1 _ refl refl j;
      dgid_guid = number_in-image es fits 2 _ refl refl j;
      sgid_prefix = number_in-image es fits 3 _ refl refl j;
      sgid_guid = number_in-image es fits 4 _ refl refl j;
      dlid = number_in-image es fits 5 _ refl refl j;
      slid = number_in-image es fits 6 _ refl refl j;
      flow_and_hops = number_in-image es fits 7 _ refl refl j;
      traffic_class = number_in-image es fits 8 _ refl refl j;
      reversible_and_count = number_in-image es fits 9 _ refl refl j;
      p_key = number_in-image es fits 10 _ refl refl j;
      qos_class_and_sl = number_in-image es fits 11 _ refl refl j;
      mtu = number_in-image es fits 12 _ refl refl j;
      rate = number_in-image es fits 13 _ refl refl j;
      packet_life_time = number_in-image es fits 14 _ refl refl j;
      preference = number_in-image es fits 15 _ refl refl j;
    }

pub member_back : MemberReadsBack
member_back member fits =
    let es = member_entries member in
    λ j. record {
      mgid_high = number_in-image es fits 0 _ refl refl j;
      mgid_low = number_in-image es fits 1 _ refl refl j;
      port_prefix = number_in-image es fits 2 _ refl refl j;
      port_guid = number_in-image es fits 3 _ refl refl j;
      q_key = number_in-image es fits 4 _ refl refl j;
      mlid = number_in-image es fits 5 _ refl refl j;
      mtu = number_in-image es fits 6 _ refl refl j;
      traffic_class = number_in-image es fits 7 _ refl refl j;
      p_key = number_in-image es fits 8 _ refl refl j;
      rate = number_in-image es fits 9 _ refl refl j;
      packet_life_time = number_in-image es fits 10 _ refl refl j;
      sl_flow_and_hops = number_in-image es fits 11 _ refl refl j;
      scope_and_state = number_in-image es fits 12 _ refl refl j;
      proxy_join = number_in-image es fits 13 _ refl refl j;
    }

-- the method of an answer is a byte with the R bit
answering_small : (asked : ℕ) (b : Bool) → (if b then 0x81 else 0x80 + asked % 0x80) < 256
answering_small asked true = omega arith
answering_small asked false = omega arith

-- what a packet is in RMPP fits
kind_fits : (b : Bool) → (if b then 0 else 0x0101FF00) < 256 ^ 4
kind_fits true = omega arith
kind_fits false = omega arith

segment_fits : (b : Bool) → (if b then 0 else 1) < 256 ^ 4
segment_fits true = omega arith
segment_fits false = omega arith

answering_answers : (asked : ℕ) (b : Bool) → ((if b then 0x81 else 0x80 + asked % 0x80) / 2 ^ 7 % 2 ^ 1 == 1) ≡ true
answering_answers asked true = refl
answering_answers asked false = let e : (0x80 + asked % 0x80) / 2 ^ 7 % 2 ^ 1 ≡ 1 = omega arith in ap (λ n. n == 1) e

module _ (request : List ℕ) (status payload offset : ℕ) (bytes : List ℕ) (short : length bytes ≤ 200) where
  -- the answer before its record is written
  header : List ℕ
  header = with_numbers (answer_entries request status payload offset) (replicate 256 0)

  length-header : length header ≡ 256
  unfolding header
  length-header = length-with_numbers 256 (answer_entries request status payload offset) (replicate 256 0) refl refl

  -- a field of the header is not touched by the record
  in_header : (f : Field) → f.at + f.len ≤ 56 → number_in f (sa_answer request status payload offset bytes) ≡ number_in f header
  unfolding header
  in_header f before =
      let long = length-header in
      number_in-with_bytes f 56 bytes header (omega arith) (inl before)

  -- the i-th field that is written holds its number
  written : (i : ℕ) (e : Entry) → e.field.at + e.field.len ≤ 56 → slice_get (answer_entries request status payload offset) i ≡ Some e
      → e.number < 256 ^ e.field.len → number_in e.field (sa_answer request status payload offset bytes) ≡ e.number
  unfolding header
  written i e before there small =
      in_header e.field before
      ∙ number_in-with_numbers 256 (answer_entries request status payload offset) (replicate 256 0) i e refl refl there small

  -- a field apart from them is 0
  not_written : (f : Field) → f.at + f.len ≤ 56 → is_apart_from 256 f (answer_entries request status payload offset) ≡ true
      → number_in f (sa_answer request status payload offset bytes) ≡ number_in f (replicate 256 0)
  unfolding header
  not_written f before apart =
      in_header f before
      ∙ number_in-with_numbers_apart 256 f (answer_entries request status payload offset) (replicate 256 0) refl apart

-- a number that was read fits in its field
read_fits : (f : Field) (request : List ℕ) → All (λ byte. byte < 256) request → number_in f request < 256 ^ f.len
read_fits f request all =
    big_from-lt 0 f.len (drop f.at request)
    (λ k. subst (λ (n : ℕ). n < 256) (sym (get_or-drop f.at request k 0)) (byte_at_offset request all (f.at + k)))

pub answer_back : SaAnswerReadsBack
unfolding header
answer_back request status payload offset bytes all status_fits payload_fits offset_fits short =
    let put = written request status payload offset bytes short in
    let none = not_written request status payload offset bytes short in
    let long = length-header request status payload offset bytes short in
    let asked = number_in method request in
    let method_is = put 3 _ (omega arith) refl (answering_small asked (asked == 0x02)) in
    record {
      count = length-with_bytes 56 bytes (header request status payload offset bytes short) (omega arith) ∙ long;
      base_version = put 0 _ (omega arith) refl (omega arith);
      class = put 1 _ (omega arith) refl (omega arith);
      class_version = put 2 _ (omega arith) refl (omega arith);
      method = method_is;
      response =
          ap (λ n. n / 2 ^ 7 % 2 ^ 1 == 1) (sym (byte-number_in 3 (sa_answer request status payload offset bytes)) ∙ method_is)
          ∙ answering_answers asked (asked == 0x02);
      status = put 4 _ (omega arith) refl status_fits;
      transaction_id = put 5 _ (omega arith) refl (read_fits transaction_id request all);
      attribute_id = put 6 _ (omega arith) refl (read_fits attribute_id request all);
      attribute_modifier = put 7 _ (omega arith) refl (read_fits attribute_modifier request all);
      rmpp_kind = put 8 _ (omega arith) refl (kind_fits (payload == 0));
      segment_number = put 9 _ (omega arith) refl (segment_fits (payload == 0));
      payload_length = put 10 _ (omega arith) refl payload_fits;
      sm_key = none sm_key (omega arith) refl;
      attribute_offset = put 11 _ (omega arith) refl offset_fits;
      component_mask = put 12 _ (omega arith) refl (read_fits component_mask request all);
      bytes = bytes_in-with_bytes 56 bytes (header request status payload offset bytes short) (omega arith);
    }
