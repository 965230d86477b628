-- The answer to a request of subnet administration. InfiniBand Architecture Specification, Volume 1: management
-- methods; subnet administration, methods.
use Rattle.std.specs.Prelude.{ℕ, ◌+◌, ◌%◌, List, [], ◌∷◌, replicate, ◌==◌, if◌then◌else◌}
use Rattle.smp_bytes.specs.Field.{Entry, number_in, with_bytes, with_numbers}
use Rattle.smp_bytes.specs.Packet.{base_version, mgmt_class, class_version, method, status_word, transaction_id, attribute_id, attribute_modifier}
use Rattle.sa_bytes.specs.Numbers.{sa_class, sa_version, sa_set, sa_get_resp}
use Rattle.sa_bytes.specs.SaPacket.{attribute_offset, component_mask, payload_length, record_data, rmpp_kind, segment_number}

-- the method of the answer to a request with the method `asked`: GetResp for Set, and otherwise the same method with
-- the R bit set
abbrev pub answering : ℕ → ℕ
answering asked = if asked == sa_set then sa_get_resp else 0x80 + asked % 0x80

-- what a packet with a payload is in RMPP: version 1, data, without a response time, active, the first and the last; 0
-- if it has none
abbrev pub kind_of : ℕ → ℕ
kind_of payload = if payload == 0 then 0 else 0x0101FF00

-- the number of the only segment of a payload; 0 if there is none
abbrev pub segment_of : ℕ → ℕ
segment_of payload = if payload == 0 then 0 else 1

-- each field of the answer to `request` that may be other than 0, with its number
abbrev pub answer_entries : List ℕ → ℕ → ℕ → ℕ → List Entry
answer_entries request status payload offset =
    record { field = base_version; number = 1 } ∷ record { field = mgmt_class; number = sa_class }
    ∷ record { field = class_version; number = sa_version }
    ∷ record { field = method; number = answering (number_in method request) }
    ∷ record { field = status_word; number = status }
    ∷ record { field = transaction_id; number = number_in transaction_id request }
    ∷ record { field = attribute_id; number = number_in attribute_id request }
    ∷ record { field = attribute_modifier; number = number_in attribute_modifier request }
    ∷ record { field = rmpp_kind; number = kind_of payload }
    ∷ record { field = segment_number; number = segment_of payload }
    ∷ record { field = payload_length; number = payload }
    ∷ record { field = attribute_offset; number = offset }
    ∷ record { field = component_mask; number = number_in component_mask request } ∷ []

-- the answer to `request`, with a status, the number of bytes of its payload if it is a table, and otherwise 0,
-- AttributeOffset, and the bytes of a record, or none
abbrev pub sa_answer : List ℕ → ℕ → ℕ → ℕ → List ℕ → List ℕ
sa_answer request status payload offset bytes =
    with_bytes record_data.at bytes (with_numbers (answer_entries request status payload offset) (replicate 256 0))
