-- What answers and records contain. InfiniBand Architecture Specification, Volume 1: subnet administration, SA
-- management datagrams; PathRecord; NodeRecord; PortInfoRecord.
use Rattle.std.specs.Prelude.{◌≡◌, ℕ, ◌^◌, ◌<◌, ◌≤◌, List, All, drop, length, take, true}
use Rattle.smp_bytes.specs.Field.{bytes_in, number_in}
use Rattle.smp_bytes.specs.Packet.{base_version, mgmt_class, class_version, method, status_word, transaction_id, attribute_id, attribute_modifier, is_response}
use Rattle.sa_bytes.specs.Numbers.{sa_class, sa_version}
use Rattle.sa_bytes.specs.SaPacket.{attribute_offset, component_mask, payload_length, record_data, rmpp_kind, segment_number, sm_key}
use Rattle.attr_codec.specs.NodeInfo.{node_info_bytes}
use Rattle.sa_bytes.specs.Answer.{answering, kind_of, sa_answer, segment_of}
use Rattle.sa_bytes.specs.MemberRecord.{FitsMemberRecord, member_record_bytes, member_record_in}
use Rattle.sa_bytes.specs.NodeRecord.{node_info_data, node_lid, node_record_bytes}
use Rattle.sa_bytes.specs.PathRecord.{FitsPathRecord, path_record_bytes, path_record_in}
use Rattle.sa_bytes.specs.PortInfoRecord.{port_info_data, port_info_record_bytes, port_lid, port_number}
use Rattle.sa_bytes.specs.declared.member_record.MemberRecord.{MemberRecord}
use Rattle.sa_bytes.specs.declared.node_record.NodeRecord.{NodeRecord}
use Rattle.sa_bytes.specs.declared.port_info_record.PortInfoRecord.{PortInfoRecord}
use Rattle.sa_bytes.specs.declared.path_record.PathRecord.{PathRecord}

-- `answer` is a packet of subnet administration that answers `request`: it has the request's TransactionID, attribute,
-- modifier and component mask, and the method that answers the request's. It has the status, the AttributeOffset and
-- the bytes that are given. It is alone if it has no payload, and otherwise the only packet of a table (`kind_of`). It
-- names no SM_Key
pub record HoldsSaAnswer (request answer : List ℕ) (given payload offset : ℕ) (written : List ℕ) : Type 0 where
  pub count : length answer ≡ 256
  pub base_version : number_in base_version answer ≡ 1
  pub class : number_in mgmt_class answer ≡ sa_class
  pub class_version : number_in class_version answer ≡ sa_version
  pub method : number_in method answer ≡ answering (number_in method request)
  pub response : is_response answer ≡ true
  pub status : number_in status_word answer ≡ given
  pub transaction_id : number_in transaction_id answer ≡ number_in transaction_id request
  pub attribute_id : number_in attribute_id answer ≡ number_in attribute_id request
  pub attribute_modifier : number_in attribute_modifier answer ≡ number_in attribute_modifier request
  pub rmpp_kind : number_in rmpp_kind answer ≡ kind_of payload
  pub segment_number : number_in segment_number answer ≡ segment_of payload
  pub payload_length : number_in payload_length answer ≡ payload
  pub sm_key : number_in sm_key answer ≡ 0
  pub attribute_offset : number_in attribute_offset answer ≡ offset
  pub component_mask : number_in component_mask answer ≡ number_in component_mask request
  pub bytes : take (length written) (drop record_data.at answer) ≡ written

-- what `sa_answer` makes of a request answers it (`HoldsSaAnswer`), if the status and the offset fit and there is room
-- for the bytes
abbrev pub SaAnswerReadsBack : Type 0
SaAnswerReadsBack =
    (request : List ℕ) (status payload offset : ℕ) (bytes : List ℕ) → All (λ byte. byte < 256) request
    → status < 2 ^ 16 → payload < 2 ^ 32 → offset < 2 ^ 16 → length bytes ≤ 200
    → HoldsSaAnswer request (sa_answer request status payload offset bytes) status payload offset bytes

-- a path whose numbers fit in their fields is read back from the bytes that spell it
abbrev pub PathReadsBack : Type 0
PathReadsBack = (path : PathRecord) → FitsPathRecord path → path_record_in (path_record_bytes path) ≡ path

-- a membership whose numbers fit in their fields is read back from the bytes that spell it
abbrev pub MemberReadsBack : Type 0
MemberReadsBack =
    (member : MemberRecord) → FitsMemberRecord member → member_record_in (member_record_bytes member) ≡ member

-- the record of a node has its LID, if that fits, and NodeInfo
abbrev pub NodeReadsBack : Type 0
NodeReadsBack =
    (r : NodeRecord) → r.lid < 2 ^ 16
    → (number_in node_lid (node_record_bytes r) ≡ r.lid)
    × (bytes_in node_info_data (node_record_bytes r) ≡ node_info_bytes r.info)

-- the record of a port has its LID and the port's number, if they fit, and PortInfo, if this has 64 bytes
abbrev pub PortReadsBack : Type 0
PortReadsBack =
    (r : PortInfoRecord) → r.lid < 2 ^ 16 → r.port < 2 ^ 8 → length r.info ≡ 64
    → (number_in port_lid (port_info_record_bytes r) ≡ r.lid)
    × (number_in port_number (port_info_record_bytes r) ≡ r.port)
    × (bytes_in port_info_data (port_info_record_bytes r) ≡ r.info)
