-- What is answered to a request, and the packet that says so. InfiniBand Architecture Specification, Volume 1: subnet
-- administration, methods, attributes and status.
use Rattle.std.specs.Prelude.{ℕ, ◌==◌, ◌&&◌, ◌||◌, List, [], if◌then◌else◌}
use Rattle.smp_bytes.specs.Field.{bytes_in, number_in}
use Rattle.smp_bytes.specs.Packet.{attribute_id, method}
use Rattle.attr_codec.specs.NodeInfo.{node_info_in}
use Rattle.sa_bytes.specs.Answer.{sa_answer}
use Rattle.sa_bytes.specs.ClassPortInfo.{class_port_info_bytes}
use Rattle.sa_bytes.specs.MemberRecord.{member_record_bytes, member_record_in}
use Rattle.sa_bytes.specs.Numbers.{class_port_info, insufficient_components, invalid_gid, invalid_request, member_record, no_records, node_record, not_supported, path_record, port_info_record}
use Rattle.sa_bytes.specs.Numbers.{sa_delete, sa_done, sa_get, sa_get_table, sa_set, too_many_records}
use Rattle.sa_bytes.specs.NodeRecord.{node_record_bytes}
use Rattle.sa_bytes.specs.PathRecord.{path_record_bytes, path_record_in}
use Rattle.sa_bytes.specs.PortInfoRecord.{port_info_record_bytes}
use Rattle.sa_bytes.specs.SaPacket.{attribute_data, component_mask, lid_data, path_data, port_data}
use Rattle.sa_answers.specs.MemberReply.{group_reply, member_reply}
use Rattle.sa_answers.specs.NodeReply.{node_reply}
use Rattle.sa_answers.specs.PathReply.{path_reply}
use Rattle.sa_answers.specs.PortReply.{port_reply}
use Rattle.sa_answers.specs.Told.{Told}
use Rattle.sa_answers.specs.declared.reply.SaRefusal.{SaRefusal}
use Rattle.sa_answers.specs.declared.reply.SaRefusal.TheVariants.{NotSupported, NoRecords, TooManyRecords, InsufficientComponents, InvalidGid, InvalidRequest}
use Rattle.sa_answers.specs.declared.reply.Reply.{Reply}
use Rattle.sa_answers.specs.declared.reply.Reply.TheVariants.{Refused, Info, Path, Node, Port, Member, Empty}

-- the status that says why a request is refused
abbrev pub refusal_status : SaRefusal → ℕ
refusal_status NotSupported = not_supported
refusal_status NoRecords = no_records
refusal_status TooManyRecords = too_many_records
refusal_status InsufficientComponents = insufficient_components
refusal_status InvalidGid = invalid_gid
refusal_status InvalidRequest = invalid_request

-- the reply to a request for a group, or for one record of another attribute than those of paths, nodes and ports
abbrev pub other_reply : Told → ℕ → List ℕ → Reply
other_reply told attribute request =
    if attribute == member_record
    then group_reply told (number_in component_mask request) (member_record_in (bytes_in path_data request))
    else Refused NotSupported

-- the reply to a request for one record of the attribute `attribute`, which is not a path
abbrev pub record_reply : Told → ℕ → List ℕ → Reply
record_reply told attribute request =
    if attribute == node_record
    then node_reply told (number_in component_mask request) (number_in lid_data request)
    (node_info_in (bytes_in attribute_data request))
    else (if attribute == port_info_record
    then port_reply told (number_in component_mask request) (number_in lid_data request) (number_in port_data request)
    else other_reply told attribute request)

-- the reply to a request for one record of the attribute `attribute`
abbrev pub reply_to_get : Told → ℕ → List ℕ → Reply
reply_to_get told attribute request =
    if attribute == class_port_info then Info
    else (if attribute == path_record
    then path_reply told (number_in component_mask request) (path_record_in (bytes_in path_data request))
    else record_reply told attribute request)

-- the reply to a request for a table, where a Get with the same components is replied to as given: a table of one
-- record, or of none if no record is as the request asks. Other tables are not supported
abbrev pub as_table : Reply → Reply
as_table (Refused NoRecords) = Empty
as_table (Refused NotSupported) = Refused NotSupported
as_table (Refused TooManyRecords) = Refused NotSupported
as_table (Refused InsufficientComponents) = Refused NotSupported
as_table (Refused InvalidGid) = Refused NotSupported
as_table (Refused InvalidRequest) = Refused NotSupported
as_table Info = Refused NotSupported
as_table (Path path) = Path path
as_table (Node r) = Node r
as_table (Port r) = Port r
as_table (Member r) = Member r
as_table Empty = Empty

-- the reply to a request of another method: Set and Delete of MCMemberRecord are supported
abbrev pub reply_to_change : Told → List ℕ → Reply
reply_to_change told request =
    if (number_in method request == sa_set || number_in method request == sa_delete)
    && number_in attribute_id request == member_record
    then member_reply told (number_in component_mask request) (member_record_in (bytes_in path_data request))
    else Refused NotSupported

-- the reply to a request: Get of ClassPortInfo, PathRecord, NodeRecord, PortInfoRecord and MCMemberRecord is supported,
-- GetTable of these records where no more than one is as the request asks, and Set and Delete of MCMemberRecord
abbrev pub reply_to : Told → List ℕ → Reply
reply_to told request =
    if number_in method request == sa_get then reply_to_get told (number_in attribute_id request) request
    else (if number_in method request == sa_get_table
    then as_table (reply_to_get told (number_in attribute_id request) request) else reply_to_change told request)

-- the status of a reply
abbrev pub status_of : Reply → ℕ
status_of (Refused refusal) = refusal_status refusal
status_of Info = sa_done
status_of (Path path) = sa_done
status_of (Node r) = sa_done
status_of (Port r) = sa_done
status_of (Member r) = sa_done
status_of Empty = sa_done

-- AttributeOffset of a reply, in units of 8 bytes: a path has 64 bytes, a node 112, a port 72, a membership 56 with the
-- bytes that fill the last unit. ClassPortInfo is no record
abbrev pub offset_of : Reply → ℕ
offset_of (Refused refusal) = 0
offset_of Info = 0
offset_of (Path path) = 8
offset_of (Node r) = 14
offset_of (Port r) = 9
offset_of (Member r) = 7
offset_of Empty = 0

-- the bytes of a reply; none if the request is refused, or the table has no record
abbrev pub bytes_of : Reply → List ℕ
bytes_of (Refused refusal) = []
bytes_of Info = class_port_info_bytes
bytes_of (Path path) = path_record_bytes path
bytes_of (Node r) = node_record_bytes r
bytes_of (Port r) = port_info_record_bytes r
bytes_of (Member r) = member_record_bytes r
bytes_of Empty = []

-- the number of bytes of a table from SM_Key to the end of its records; 0 for what is no table
abbrev pub table_payload : Reply → ℕ
table_payload (Refused refusal) = 0
table_payload Info = 0
table_payload (Path path) = 84
table_payload (Node r) = 132
table_payload (Port r) = 92
table_payload (Member r) = 76
table_payload Empty = 20

-- the same for the reply to a request with the method `asked`
abbrev pub payload_of : ℕ → Reply → ℕ
payload_of asked reply = if asked == sa_get_table then table_payload reply else 0

-- the packet that answers a request
abbrev pub answer_to : Told → List ℕ → List ℕ
answer_to told request =
    sa_answer request (status_of (reply_to told request))
    (payload_of (number_in method request) (reply_to told request)) (offset_of (reply_to told request))
    (bytes_of (reply_to told request))
