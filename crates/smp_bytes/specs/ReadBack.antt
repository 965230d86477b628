-- What built packets contain: requests, answers, and a packet after its status is written. InfiniBand Architecture
-- Specification, Volume 1: SMP formats; management methods; directed route SMPs.
use Rattle.std.specs.Prelude.{◌≡◌, ℕ, ◌+◌, ◌^◌, ◌<◌, ◌≤◌, ◌⊎◌, List, All, length, slice_index, None, true}
use Rattle.smp_bytes.specs.Field.{Field, number_in, bytes_in, with_number}
use Rattle.smp_bytes.specs.Packet.{base_version, mgmt_class, class_version, method, status_word, transaction_id, attribute_id, attribute_modifier, m_key, attribute_data, hop_pointer, hop_count, dr_slid, dr_dlid, initial_path, return_path, permissive_lid, max_hops, is_directed, is_response, is_returning, status, fault_of}
use Rattle.smp_bytes.specs.Header.{lid_routed_class, directed_class, get_resp}
use Rattle.smp_bytes.specs.Requests.{directed, lid_routed, answer_packet, word_with_status}

-- the reserved bytes after AttributeID
abbrev pub reserved_after_attribute_id : Field
reserved_after_attribute_id = record { at = 18; len = 2 }

-- `packet` has 256 bytes and no fault. It has the given method, TransactionID, attribute, modifier and payload. Its
-- versions are 1, and its status, its M_Key and the reserved bytes after AttributeID are 0
pub record HoldsRequest (packet : List ℕ) (method_number attribute modifier tid : ℕ) (payload : List ℕ) : Type 0 where
  pub count : length packet ≡ 256
  pub parses : fault_of packet ≡ None
  pub base_version : number_in base_version packet ≡ 1
  pub class_version : number_in class_version packet ≡ 1
  pub method : number_in method packet ≡ method_number
  pub status_word : number_in status_word packet ≡ 0
  pub transaction_id : number_in transaction_id packet ≡ tid
  pub attribute_id : number_in attribute_id packet ≡ attribute
  pub reserved : number_in reserved_after_attribute_id packet ≡ 0
  pub attribute_modifier : number_in attribute_modifier packet ≡ modifier
  pub m_key : number_in m_key packet ≡ 0
  pub attribute_data : bytes_in attribute_data packet ≡ payload

-- `packet` is directed along `path`, with no LID-routed part. HopPointer is 0. InitialPath is 0 except for the ports
-- of `path`. ReturnPath and the reserved bytes after DrDLID are 0
pub record HoldsPath (packet path : List ℕ) : Type 0 where
  pub class : number_in mgmt_class packet ≡ directed_class
  pub hop_pointer : number_in hop_pointer packet ≡ 0
  pub hop_count : number_in hop_count packet ≡ length path
  pub dr_slid : number_in dr_slid packet ≡ permissive_lid
  pub dr_dlid : number_in dr_dlid packet ≡ permissive_lid
  pub reserved : number_in (record { at = 36; len = 28 }) packet ≡ 0
  pub unused : number_in (initial_path 0) packet ≡ 0
  pub ports : (i : ℕ) → i < length path → number_in (initial_path (i + 1)) packet ≡ slice_index path i
  pub behind : (i : ℕ) → length path < i → i < 64 → number_in (initial_path i) packet ≡ 0
  pub return_path : (i : ℕ) → i < 64 → number_in (return_path i) packet ≡ 0

-- `packet` is LID routed, and is 0 in the bytes that only directed packets use
pub record HoldsNoPath (packet : List ℕ) : Type 0 where
  pub class : number_in mgmt_class packet ≡ lid_routed_class
  pub no_hops : number_in (record { at = 6; len = 2 }) packet ≡ 0
  pub reserved_before : number_in (record { at = 32; len = 32 }) packet ≡ 0
  pub reserved_behind : number_in (record { at = 128; len = 128 }) packet ≡ 0

-- each given number fits in its field of a request, and `payload` has 64 bytes
pub record FitsRequest (method_number attribute modifier tid : ℕ) (payload : List ℕ) : Type 0 where
  pub method : method_number < 2 ^ 8
  pub attribute_id : attribute < 2 ^ 16
  pub attribute_modifier : modifier < 2 ^ 32
  pub transaction_id : tid < 2 ^ 64
  pub attribute_data : length payload ≡ 64

-- if what a directed request is built from fits (`FitsRequest`) and `path` has at most 63 ports, the request contains
-- it
abbrev pub DirectedReadsBack : Type 0
DirectedReadsBack =
    (method_number attribute modifier tid : ℕ) (path payload : List ℕ)
    → FitsRequest method_number attribute modifier tid payload → length path ≤ max_hops
    → HoldsRequest (directed method_number attribute modifier tid path payload) method_number attribute modifier tid
    payload
    × HoldsPath (directed method_number attribute modifier tid path payload) path

-- if what a LID-routed request is built from fits (`FitsRequest`), the request contains it
abbrev pub LidRoutedReadsBack : Type 0
LidRoutedReadsBack =
    (method_number attribute modifier tid : ℕ) (payload : List ℕ)
    → FitsRequest method_number attribute modifier tid payload
    → HoldsRequest (lid_routed method_number attribute modifier tid payload) method_number attribute modifier tid
    payload
    × HoldsNoPath (lid_routed method_number attribute modifier tid payload)

-- the byte at `offset` is outside the method, the status and the 64 bytes of the attribute
abbrev pub IsKeptInAnswer : ℕ → Type 0
IsKeptInAnswer offset = (offset < 3) ⊎ (((6 ≤ offset) × (offset < 64)) ⊎ (128 ≤ offset))

-- `answer` is a packet of the class of `request`, with the method GetResp, the status `given` and the attribute
-- `payload`. If `request` is directed, the D bit of `answer` is set. All other bytes are those of `request`
pub record HoldsAnswer (request answer : List ℕ) (given : ℕ) (payload : List ℕ) : Type 0 where
  pub count : length answer ≡ 256
  pub parses : fault_of answer ≡ None
  pub class : is_directed answer ≡ is_directed request
  pub method : number_in method answer ≡ get_resp
  pub response : is_response answer ≡ true
  pub returning : is_directed request ≡ true → is_returning answer ≡ true
  pub status : status answer ≡ given
  pub attribute_data : bytes_in attribute_data answer ≡ payload
  pub kept : (offset : ℕ) → IsKeptInAnswer offset → slice_index answer offset ≡ slice_index request offset

-- if `payload` has 64 bytes and the status `given` fits, the answer to the packet `request` contains both
-- (`HoldsAnswer`). `given` fits if it is below 2^16 and, if `request` is directed, below 2^15
abbrev pub AnswerReadsBack : Type 0
AnswerReadsBack =
    (request : List ℕ) (given : ℕ) (payload : List ℕ) → length request ≡ 256 → fault_of request ≡ None → length payload
    ≡ 64
    → given < 2 ^ 16 → (is_directed request ≡ true → given < 2 ^ 15)
    → HoldsAnswer request (answer_packet request given payload) given payload

-- `new` has the status `given` and the class of `old` and, if `old` is directed, the D bit of `old`
pub record HoldsStatus (old new : List ℕ) (given : ℕ) : Type 0 where
  pub class : is_directed new ≡ is_directed old
  pub status : status new ≡ given
  pub returning : is_directed old ≡ true → is_returning new ≡ is_returning old

-- if the status `given` fits, it is read back from a packet of 256 bytes into which it was written (`HoldsStatus`).
-- `given` fits if it is below 2^16 and, if the packet is directed, below 2^15, since the highest bit is then the D
-- bit
abbrev pub StatusReadsBack : Type 0
StatusReadsBack =
    (packet : List ℕ) (given : ℕ) → length packet ≡ 256 → All (λ byte. byte < 256) packet
    → given < 2 ^ 16 → (is_directed packet ≡ true → given < 2 ^ 15)
    → HoldsStatus packet (with_number status_word (word_with_status packet given) packet) given
