-- Built packets: directed and LID-routed requests, and the answer to a request. InfiniBand Architecture Specification,
-- Volume 1: SMP formats; management methods; directed route SMPs.
use Rattle.std.specs.Prelude.{ℕ, ◌+◌, ◌*◌, ◌/◌, ◌^◌, Bool, true, false, List, [], ◌∷◌, length, replicate, if◌then◌else◌}
use Rattle.smp_bytes.specs.Header.{lid_routed_class, directed_class, get_resp}
use Rattle.smp_bytes.specs.Field.{Entry, number_in, with_bytes, with_number, with_numbers}
use Rattle.smp_bytes.specs.Packet.{base_version, mgmt_class, class_version, method, status_word, hop_count, transaction_id, attribute_id, attribute_modifier, attribute_data, initial_path, dr_slid, dr_dlid, permissive_lid, is_directed}

-- the fields that requests of both classes have, with their numbers
abbrev pub request_entries : ℕ → ℕ → ℕ → ℕ → ℕ → List Entry
request_entries class method_number attribute modifier tid =
    record { field = base_version; number = 1 } ∷ record { field = mgmt_class; number = class }
    ∷ record { field = class_version; number = 1 } ∷ record { field = method; number = method_number }
    ∷ record { field = transaction_id; number = tid } ∷ record { field = attribute_id; number = attribute }
    ∷ record { field = attribute_modifier; number = modifier } ∷ []

-- the further fields of a directed request, with their numbers. The request has `hops` hops and no LID-routed part
abbrev pub path_entries : ℕ → List Entry
path_entries hops =
    record { field = hop_count; number = hops } ∷ record { field = dr_slid; number = permissive_lid }
    ∷ record { field = dr_dlid; number = permissive_lid } ∷ []

-- 256 bytes with the fields that requests of both classes have, and 0 elsewhere
abbrev pub request : ℕ → ℕ → ℕ → ℕ → ℕ → List ℕ
request class method_number attribute modifier tid =
    with_numbers (request_entries class method_number attribute modifier tid) (replicate 256 0)

-- a LID-routed request, with the attribute `payload`
abbrev pub lid_routed : ℕ → ℕ → ℕ → ℕ → List ℕ → List ℕ
lid_routed method_number attribute modifier tid payload =
    with_bytes attribute_data.at payload (request lid_routed_class method_number attribute modifier tid)

-- a directed request along the ports of `path`, with the attribute `payload`
abbrev pub directed : ℕ → ℕ → ℕ → ℕ → List ℕ → List ℕ → List ℕ
directed method_number attribute modifier tid path payload =
    with_bytes (initial_path 1).at path (with_bytes attribute_data.at payload
    (with_numbers (path_entries (length path)) (request directed_class method_number attribute modifier tid)))

-- the status word of an answer to `packet` with the status `status`; the D bit is set if `packet` is directed
abbrev pub answer_status : List ℕ → ℕ → ℕ
answer_status packet status = if is_directed packet then 2 ^ 15 + status else status

-- the answer to the request `packet`: method, status and attribute are replaced, and everything else is unchanged
abbrev pub answer_packet : List ℕ → ℕ → List ℕ → List ℕ
answer_packet packet status payload =
    with_bytes attribute_data.at payload
    (with_number status_word (answer_status packet status) (with_number method get_resp packet))

-- the status word of `packet` once `status` is written; a directed packet keeps its D bit
abbrev pub word_with_status : List ℕ → ℕ → ℕ
word_with_status packet status =
    if is_directed packet then number_in status_word packet / 2 ^ 15 * 2 ^ 15 + status else status

-- 1 for true, 0 for false
abbrev pub flag : Bool → ℕ
flag true = 1
flag false = 0
