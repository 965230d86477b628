-- An answer is the request's, and its status is 0 exactly if something is told.
use Rattle.std.proofs.Common.{◌≡◌, ◌≢◌, ◌≤◌, ◌<◌, ◌⊎◌, inl, inr, ℕ, List, [], Bool, true, false, cond, ◌==◌, refl, sym, ap, ◌∙◌, length, arith, ◌^◌}
use Rattle.std.proofs.lemmas.Bool.{eqb-true, true≢false}
use Rattle.smp_bytes.specs.Field.{number_in}
use Rattle.smp_bytes.specs.Packet.{attribute_id, method}
use Rattle.smp_bytes.proofs.FieldLaws.{length-with_numbers}
use Rattle.sa_bytes.specs.ClassPortInfo.{class_port_info_bytes, info_entries}
use Rattle.sa_bytes.specs.Numbers.{sa_done}
use Rattle.sa_bytes.specs.MemberRecord.{member_entries, member_record_bytes}
use Rattle.sa_bytes.specs.PathRecord.{path_entries, path_record_bytes}
use Rattle.sa_bytes.specs.declared.member_record.MemberRecord.{MemberRecord}
use Rattle.sa_bytes.proofs.ReadBack.{answer_back}
use Rattle.sa_bytes.proofs.Records.{node_length, port_length}
use Rattle.sa_answers.specs.AnswerLaws.{AnswersAreTheRequests, DoneIfTold, IsEmptyTable}
use Rattle.sa_answers.specs.Reply.{as_table, bytes_of, offset_of, other_reply, payload_of, reply_to, reply_to_change, reply_to_get, status_of, table_payload}
use Rattle.sa_answers.specs.Told.{Told}
use Rattle.sa_answers.proofs.Gets.{change_of_group, is_empty, is_of_group, no_empty_get}
use Rattle.sa_answers.specs.declared.reply.SaRefusal.TheVariants.{NotSupported, NoRecords, TooManyRecords, InsufficientComponents, InvalidGid, InvalidRequest}
use Rattle.sa_answers.specs.declared.reply.Reply.{Reply}
use Rattle.sa_answers.specs.declared.reply.Reply.TheVariants.{Refused, Info, Path, Node, Port, Member, Empty}
use Rattle.sa_bytes.specs.declared.path_record.PathRecord.{PathRecord}
use Rattle.std.specs.Prelude.{replicate}

-- a path has 64 bytes
path_length : (path : PathRecord) → length (path_record_bytes path) ≡ 64
path_length path = length-with_numbers 64 (path_entries path) (replicate 64 0) refl refl

-- a membership has 64, with those that fill it up
member_length : (r : MemberRecord) → length (member_record_bytes r) ≡ 64
member_length r = length-with_numbers 64 (member_entries r) (replicate 64 0) refl refl

-- ClassPortInfo has 72
info_length : length class_port_info_bytes ≡ 72
info_length = length-with_numbers 72 info_entries (replicate 72 0) refl refl

short : (r : Reply) → length (bytes_of r) ≤ 200
short (Refused refusal) = omega arith
short Info = omega (arith, info_length)
short (Path path) = omega (arith, path_length path)
short (Node r) = omega (arith, node_length r)
short (Port r) = omega (arith, port_length r)
short (Member r) = omega (arith, member_length r)
short Empty = omega arith

status_fits : (r : Reply) → status_of r < 2 ^ 16
status_fits (Refused NotSupported) = omega arith
status_fits (Refused NoRecords) = omega arith
status_fits (Refused TooManyRecords) = omega arith
status_fits (Refused InsufficientComponents) = omega arith
status_fits (Refused InvalidGid) = omega arith
status_fits (Refused InvalidRequest) = omega arith
status_fits Info = omega arith
status_fits (Path path) = omega arith
status_fits (Node r) = omega arith
status_fits (Port r) = omega arith
status_fits (Member r) = omega arith
status_fits Empty = omega arith

offset_fits : (r : Reply) → offset_of r < 2 ^ 16
offset_fits (Refused refusal) = omega arith
offset_fits Info = omega arith
offset_fits (Path path) = omega arith
offset_fits (Node r) = omega arith
offset_fits (Port r) = omega arith
offset_fits (Member r) = omega arith
offset_fits Empty = omega arith

payload_fits : (r : Reply) → table_payload r < 2 ^ 32
payload_fits (Refused refusal) = omega arith
payload_fits Info = omega arith
payload_fits (Path path) = omega arith
payload_fits (Node r) = omega arith
payload_fits (Port r) = omega arith
payload_fits (Member r) = omega arith
payload_fits Empty = omega arith

method_fits : (b : Bool) (r : Reply) → cond b (table_payload r) 0 < 2 ^ 32
method_fits true r = payload_fits r
method_fits false r = omega arith

pub answers_back : AnswersAreTheRequests
answers_back told request all =
    let r = reply_to told request in
    answer_back request (status_of r) (payload_of (number_in method request) r) (offset_of r) (bytes_of r) all (status_fits r)
    (method_fits (number_in method request == 0x12) r) (offset_fits r) (short r)

-- a reply that has bytes has the status 0, and one with the status 0 has bytes, or is a table without a record
has_bytes : (r : Reply) → status_of r ≡ sa_done → (bytes_of r ≢ []) ⊎ (r ≡ Empty)
has_bytes (Refused NotSupported) e = absurd (cc)
has_bytes (Refused NoRecords) e = absurd (cc)
has_bytes (Refused TooManyRecords) e = absurd (cc)
has_bytes (Refused InsufficientComponents) e = absurd (cc)
has_bytes (Refused InvalidGid) e = absurd (cc)
has_bytes (Refused InvalidRequest) e = absurd (cc)
has_bytes Info e = inl (λ none. omega (arith, info_length, ap length none))
has_bytes (Path path) e = inl (λ none. omega (arith, path_length path, ap length none))
has_bytes (Node r) e = inl (λ none. omega (arith, node_length r, ap length none))
has_bytes (Port r) e = inl (λ none. omega (arith, port_length r, ap length none))
has_bytes (Member r) e = inl (λ none. omega (arith, member_length r, ap length none))
has_bytes Empty e = inr refl

is_done : (r : Reply) → bytes_of r ≢ [] → status_of r ≡ sa_done
is_done (Refused refusal) some = absurd (some refl)
is_done Info some = refl
is_done (Path path) some = refl
is_done (Node r) some = refl
is_done (Port r) some = refl
is_done (Member r) some = refl
is_done Empty some = refl

-- only a Get that is refused for want of a record makes a table without one
no_record : (r : Reply) → is_empty r ≡ false → as_table r ≡ Empty → r ≡ Refused NoRecords
no_record (Refused NoRecords) some e = refl
no_record (Refused NotSupported) some e = absurd (cc)
no_record (Refused TooManyRecords) some e = absurd (cc)
no_record (Refused InsufficientComponents) some e = absurd (cc)
no_record (Refused InvalidGid) some e = absurd (cc)
no_record (Refused InvalidRequest) some e = absurd (cc)
no_record Info some e = absurd (cc)
no_record (Path path) some e = absurd (cc)
no_record (Node r) some e = absurd (cc)
no_record (Port r) some e = absurd (cc)
no_record (Member r) some e = absurd (cc)
no_record Empty some e = absurd (cc)

empty_is : (told : Told) (request : List ℕ) → reply_to told request ≡ Empty → IsEmptyTable told request
empty_is told request e = go (number_in method request == 0x01) (number_in method request == 0x12) refl e
  where
    go : (a b : Bool) → (number_in method request == 0x12) ≡ b
        → cond a (reply_to_get told (number_in attribute_id request) request) (cond b (as_table (reply_to_get told (number_in attribute_id request) request)) (reply_to_change told request)) ≡ Empty
        → IsEmptyTable told request
    go true b is u = absurd (true≢false (ap is_empty (sym u) ∙ no_empty_get told (number_in attribute_id request) request))
    go false true is u =
        (eqb-true (number_in method request) 0x12 is, no_record (reply_to_get told (number_in attribute_id request) request) (no_empty_get told (number_in attribute_id request) request) u)
    go false false is u = absurd (true≢false (sym (change_of_group told request) ∙ ap is_of_group u))

-- such a table has the status 0
empty_done : (told : Told) (request : List ℕ) → IsEmptyTable told request → reply_to told request ≡ Empty
empty_done told request (is_table, none) =
    (λ i. cond (is_table i == 0x01) (none i) (cond (is_table i == 0x12) (as_table (none i)) (reply_to_change told request)))

pub done_if_bytes : DoneIfTold
done_if_bytes told request = (
  (λ e. elim (has_bytes (reply_to told request) e) [ inl some ↦ inl some | inr empty ↦ inr (empty_is told request empty) ]),
  (λ either. elim either [
    | inl some ↦ is_done (reply_to told request) some
    | inr empty ↦ ap status_of (empty_done told request empty)
  ]),
)
