-- An answer to a poll is taken for the answer to that poll.
use Rattle.std.proofs.Common.{◌≡◌, inl, inr, ℕ, suc, ◌+◌, ◌<◌, ◌≤◌, ◌^◌, Bool, true, false, ◌&&◌, not, List, [], ◌∷◌, length, replicate}
use Rattle.std.proofs.Common.{refl, sym, ap, ◌∙◌, arith}
use Rattle.std.proofs.lemmas.Bool.{and_from, eq-eqb, lt-leb}
use Rattle.std.proofs.lemmas.List.{length-replicate}
use Rattle.std.specs.Prelude.{Option, Some, None, ◌==◌, nat_le, slice_index}
use Rattle.smp_bytes.specs.Answers.{goes_by, has_ports, is_of, answers as is_answer}
use Rattle.smp_bytes.specs.Field.{Field, number_in}
use Rattle.smp_bytes.specs.Header.{get, get_resp, sm_info}
use Rattle.smp_bytes.specs.Packet.{attribute_id, attribute_modifier, hop_count, initial_path, is_directed, method, transaction_id}
use Rattle.smp_bytes.specs.ReadBack.{FitsRequest, HoldsAnswer, HoldsPath, HoldsRequest}
use Rattle.smp_bytes.specs.Requests.{answer_packet, directed, lid_routed}
use Rattle.smp_bytes.proofs.Answered.{answer_reads_back}
use Rattle.smp_bytes.proofs.FieldLaws.{number_in-alike}
use Rattle.smp_bytes.proofs.Made.{directed_reads_back, lid_routed_reads_back}
use Rattle.sm_manager.specs.Election.{path_of_way}
use Rattle.sm_manager.specs.declared.way.Way.{Way}
use Rattle.sm_manager.specs.declared.way.Way.TheVariants.{Along, ToLid}
use Rattle.sm_manager.specs.PollLaws.{AnswersReachPolls, IsTakenForPoll}

-- a packet with the ports of a path one by one has them
all_ports : (packet path : List ℕ) (from : ℕ) → ((i : ℕ) → i < length path → number_in (initial_path (from + i)) packet ≡ slice_index path i)
    → has_ports packet from path ≡ true
all_ports packet [] from each = refl
all_ports packet (port ∷ path) from each =
    and_from (number_in (initial_path from) packet == port) (has_ports packet (from + 1) path) (eq-eqb _ _ here) (all_ports packet path (from + 1) later)
  where
    here : number_in (initial_path from) packet ≡ port
    here = let same : from ≡ from + 0 = omega arith in ap (λ n. number_in (initial_path n) packet) same ∙ each 0 (omega arith)

    later : (i : ℕ) → i < length path → number_in (initial_path (from + 1 + i)) packet ≡ slice_index path i
    later i less =
        let same : from + 1 + i ≡ from + suc i = omega arith in
        ap (λ n. number_in (initial_path n) packet) same ∙ each (suc i) (omega (arith, less))

none_of_three : (a b c : Bool) → c ≡ false → (a && (b && c)) ≡ false
none_of_three true true c e = e
none_of_three true false c e = refl
none_of_three false b c e = refl

module _ (number status : ℕ) (payload : List ℕ) (few : number < 2 ^ 32) (small : status < 2 ^ 15) (whole : length payload ≡ 64) where
  fits : FitsRequest get sm_info 0 number (replicate 64 0)
  fits =
      record {
        method = omega arith;
        attribute_id = omega arith;
        attribute_modifier = omega arith;
        transaction_id = omega (arith, few);
        attribute_data = length-replicate {A = ℕ} 64 0;
      }

  module _ (request : List ℕ) (reads : HoldsRequest request get sm_info 0 number (replicate 64 0)) where
    holds : HoldsAnswer request (answer_packet request status payload) status payload
    holds = answer_reads_back request status payload reads.count reads.parses whole (omega (arith, small)) (λ _. small)

    same_field : (f : Field) → 6 ≤ f.at → f.at + f.len ≤ 64 → number_in f (answer_packet request status payload) ≡ number_in f request
    same_field f from to =
        number_in-alike f (answer_packet request status payload) request
        (λ id past less. holds.kept id (inr (inl (omega (arith, past, from), omega (arith, less, to)))))

    transaction : number_in transaction_id (answer_packet request status payload) ≡ number
    transaction = same_field transaction_id (omega arith) (omega arith) ∙ reads.transaction_id

    taken : (way : Way) → goes_by (answer_packet request status payload) (path_of_way way) ≡ true
        → IsTakenForPoll (answer_packet request status payload) number way
    taken way goes =
        let path = path_of_way way in
        let packet = answer_packet request status payload in
        record {
          answers = and_from (number_in method packet == get_resp) (is_answer packet number sm_info 0 path) (eq-eqb _ _ holds.method)
              (and_from (number == number_in transaction_id packet) (is_of packet sm_info 0 path) (eq-eqb _ _ (sym transaction))
              (and_from (number_in attribute_id packet == sm_info) (number_in attribute_modifier packet == 0 && goes_by packet path)
              (eq-eqb _ _ (same_field attribute_id (omega arith) (omega arith) ∙ reads.attribute_id))
              (and_from (number_in attribute_modifier packet == 0) (goes_by packet path)
              (eq-eqb _ _ (same_field attribute_modifier (omega arith) (omega arith) ∙ reads.attribute_modifier)) goes)));
          no_sweep = none_of_three (number_in method packet == get_resp) (is_directed packet) (nat_le (2 ^ 32) (number_in transaction_id packet))
              (lt-leb _ _ (let same = transaction in omega (arith, same, few)));
        }

    over_path : (path : List ℕ) → HoldsPath request path → goes_by (answer_packet request status payload) (Some path) ≡ true
    over_path path way =
        let packet = answer_packet request status payload in
        and_from (is_directed packet) (number_in hop_count packet == length path && has_ports packet 1 path)
        (holds.class ∙ ap (λ n. n == 0x81) way.class)
        (and_from (number_in hop_count packet == length path) (has_ports packet 1 path)
        (eq-eqb _ _ (same_field hop_count (omega arith) (omega arith) ∙ way.hop_count)) (all_ports packet path 1 each))
      where
        each : (i : ℕ) → i < length path → number_in (initial_path (1 + i)) (answer_packet request status payload) ≡ slice_index path i
        each i less =
            let same : 1 + i ≡ i + 1 = omega arith in
            number_in-alike (initial_path (1 + i)) (answer_packet request status payload) request (λ id past less. holds.kept id (inr (inr (omega (arith, past)))))
            ∙ ap (λ n. number_in (initial_path n) request) same ∙ way.ports i less

pub answers_reach_polls : AnswersReachPolls
answers_reach_polls number (ToLid lid) status payload few short small whole =
    let reads = lid_routed_reads_back get sm_info 0 number (replicate 64 0) (fits number status payload few small whole) in
    taken number status payload few small whole (lid_routed get sm_info 0 number (replicate 64 0)) reads.0 (ToLid lid)
    (ap not ((holds number status payload few small whole (lid_routed get sm_info 0 number (replicate 64 0)) reads.0).class
    ∙ ap (λ n. n == 0x81) reads.1.class))
answers_reach_polls number (Along path) status payload few short small whole =
    let reads = directed_reads_back get sm_info 0 number path (replicate 64 0) (fits number status payload few small whole) short in
    taken number status payload few small whole (directed get sm_info 0 number path (replicate 64 0)) reads.0 (Along path)
    (over_path number status payload few small whole (directed get sm_info 0 number path (replicate 64 0)) reads.0 path reads.1)
