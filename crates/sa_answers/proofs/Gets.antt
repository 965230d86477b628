-- What a Get is replied to with, and a table for it.
use Rattle.std.proofs.Common.{◌≡◌, ℕ, Bool, true, false, cond, ◌==◌, ◌&&◌, ◌||◌, List, Option, None, Some, refl}
use Rattle.std.specs.Prelude.{nat_lt}
use Rattle.smp_bytes.specs.Field.{bytes_in, number_in}
use Rattle.attr_codec.specs.NodeInfo.{node_info_in}
use Rattle.subnet_view.specs.declared.end_port.EndPort.{EndPort}
use Rattle.lid_assign.specs.Lids.{lid_of, owner_of}
use Rattle.sweep.specs.Images.{image_at}
use Rattle.smp_bytes.specs.Packet.{attribute_id, method}
use Rattle.sa_bytes.specs.MemberRecord.{member_record_in}
use Rattle.sa_bytes.specs.PathRecord.{path_record_in}
use Rattle.sa_bytes.specs.SaPacket.{attribute_data, component_mask, lid_data, path_data, port_data}
use Rattle.sa_bytes.specs.declared.node_record.NodeRecord.{NodeRecord}
use Rattle.sa_bytes.specs.declared.path_record.PathRecord.{PathRecord}
use Rattle.sa_answers.specs.Ends.{end_asked}
use Rattle.sa_answers.specs.MemberReply.{asks_for_others, broadcast_group, join_fault, member_of, reply_with}
use Rattle.sa_answers.specs.NodeReply.{description_bit, first_node, nodes_suited, only_node}
use Rattle.sa_answers.specs.PathReply.{gives, path_between, path_or_none, path_reply, reply_between, source_said, target_said}
use Rattle.sa_answers.specs.PortReply.{end_port_lid_bit, goes_by, most_of_mask, port_num_bit, port_told, port_with, reply_of_owner}
use Rattle.sa_answers.specs.Reply.{as_table, other_reply, record_reply, reply_to_change, reply_to_get}
use Rattle.sa_answers.specs.Told.{Told}
use Rattle.sa_answers.specs.declared.ends.EndAsked.{EndAsked}
use Rattle.sa_answers.specs.declared.ends.EndAsked.TheVariants.{Nobody, Unknown, Known}
use Rattle.sa_answers.specs.declared.reply.Reply.{Reply}
use Rattle.sa_answers.specs.declared.reply.Reply.TheVariants.{Refused, Info, Path, Node, Port, Member, Empty}
use Rattle.sa_answers.specs.declared.reply.SaRefusal.{SaRefusal}
use Rattle.sa_answers.specs.declared.reply.SaRefusal.TheVariants.{NotSupported, NoRecords, TooManyRecords, InsufficientComponents, InvalidGid, InvalidRequest}

-- a reply is a table without a record
abbrev pub is_empty : Reply → Bool
is_empty (Refused refusal) = false
is_empty Info = false
is_empty (Path path) = false
is_empty (Node r) = false
is_empty (Port r) = false
is_empty (Member r) = false
is_empty Empty = true

-- a reply is a refusal, or about a group
abbrev pub is_of_group : Reply → Bool
is_of_group (Refused refusal) = true
is_of_group Info = false
is_of_group (Path path) = false
is_of_group (Node r) = false
is_of_group (Port r) = false
is_of_group (Member r) = true
is_of_group Empty = false

-- a request of another method is replied to so
pub change_of_group : (told : Told) (request : List ℕ) → is_of_group (reply_to_change told request) ≡ true
change_of_group told request =
    go ((number_in method request == 0x02 || number_in method request == 0x15) && number_in attribute_id request == 0x0038) told.multicast
    (join_fault told (number_in component_mask request) (member_record_in (bytes_in path_data request)))
  where
    go : (b m : Bool) (o : Option SaRefusal)
        → is_of_group (cond b (cond m (reply_with o (member_of (number_in component_mask request) (member_record_in (bytes_in path_data request)))) (Refused NotSupported))
        (Refused NotSupported)) ≡ true
    go true true None = refl
    go true true (Some refusal) = refl
    go true false o = refl
    go false m o = refl

-- and so is one for a record of another attribute than those of paths, nodes and ports
pub other_of_group : (told : Told) (attribute : ℕ) (request : List ℕ) → is_of_group (other_reply told attribute request) ≡ true
other_of_group told attribute request =
    go (attribute == 0x0038) told.multicast (asks_for_others (number_in component_mask request) (member_record_in (bytes_in path_data request)))
  where
    go : (b m a : Bool) → is_of_group (cond b (cond m (cond a (Refused NoRecords) (Member broadcast_group)) (Refused NotSupported)) (Refused NotSupported)) ≡ true
    go true true true = refl
    go true true false = refl
    go true false a = refl
    go false m a = refl

-- such a reply is not empty
group_not_empty : (r : Reply) → is_of_group r ≡ true → is_empty r ≡ false
group_not_empty (Refused refusal) e = refl
group_not_empty Info e = refl
group_not_empty (Path path) e = refl
group_not_empty (Node r) e = refl
group_not_empty (Port r) e = refl
group_not_empty (Member r) e = refl
group_not_empty Empty e = absurd (cc)

none_between : (told : Told) (mask : ℕ) (asked : PathRecord) (s d : EndAsked) → is_empty (reply_between told mask asked s d) ≡ false
none_between told mask asked (Known source slid) (Known target dlid) = go (path_between told mask asked source slid target dlid)
  where
    go : (o : Option PathRecord) → is_empty (path_or_none o) ≡ false
    go None = refl
    go (Some path) = refl
none_between told mask asked Unknown d = refl
none_between told mask asked Nobody Unknown = refl
none_between told mask asked (Known source slid) Unknown = refl
none_between told mask asked Nobody Nobody = refl
none_between told mask asked Nobody (Known target dlid) = refl
none_between told mask asked (Known source slid) Nobody = refl

none_of_node : (count : ℕ) (o : Option NodeRecord) → is_empty (only_node count o) ≡ false
none_of_node count None = refl
none_of_node count (Some r) = go (count == 1)
  where
    go : (b : Bool) → is_empty (cond b (Node r) (Refused TooManyRecords)) ≡ false
    go true = refl
    go false = refl

none_of_port : (told : Told) (e : EndPort) (port : ℕ) → is_empty (port_told told e port) ≡ false
none_of_port told e port = go (lid_of told.plan.given e) (image_at told.images e.node port)
  where
    go : (l : Option ℕ) (i : Option (List ℕ)) → is_empty (port_with told e port l i) ≡ false
    go None i = refl
    go (Some l) None = refl
    go (Some l) (Some i) = refl

none_of_owner : (told : Told) (named : Bool) (port : ℕ) (o : Option EndPort) → is_empty (reply_of_owner told named port o) ≡ false
none_of_owner told named port None = refl
none_of_owner told named port (Some e) = go named (goes_by e port) (e.port == 0)
  where
    go : (n g z : Bool)
        → is_empty (cond n (cond g (port_told told e port) (Refused NoRecords)) (cond z (Refused TooManyRecords) (port_told told e e.port))) ≡ false
    go true true z = none_of_port told e port
    go true false z = refl
    go false g true = refl
    go false g false = none_of_port told e e.port

none_of_record : (told : Told) (attribute : ℕ) (request : List ℕ) → is_empty (record_reply told attribute request) ≡ false
none_of_record told attribute request =
    let mask = number_in component_mask request in
    let lid = number_in lid_data request in
    let info = node_info_in (bytes_in attribute_data request) in
    go (attribute == 0x0011) (attribute == 0x0012) (gives mask description_bit) (nat_lt most_of_mask mask) (gives mask end_port_lid_bit)
    (nodes_suited told mask lid info) (first_node told mask lid info) (gives mask port_num_bit) (number_in port_data request) (owner_of told.plan.given lid)
  where
    go : (a b d m l : Bool) (count : ℕ) (first : Option NodeRecord) (named : Bool) (port : ℕ) (owner : Option EndPort)
        → is_empty (cond a (cond d (Refused NotSupported) (only_node count first))
        (cond b (cond m (Refused NotSupported) (cond l (reply_of_owner told named port owner) (Refused InsufficientComponents))) (other_reply told attribute request))) ≡ false
    go true b true m l count first named port owner = refl
    go true b false m l count first named port owner = none_of_node count first
    go false true d true l count first named port owner = refl
    go false true d false true count first named port owner = none_of_owner told named port owner
    go false true d false false count first named port owner = refl
    go false false d m l count first named port owner =
        group_not_empty (other_reply told attribute request) (other_of_group told attribute request)

-- a Get is not replied to with a table
pub no_empty_get : (told : Told) (attribute : ℕ) (request : List ℕ) → is_empty (reply_to_get told attribute request) ≡ false
no_empty_get told attribute request = go (attribute == 0x0001) (attribute == 0x0035)
  where
    go : (b c : Bool)
        → is_empty (cond b Info (cond c (path_reply told (number_in component_mask request) (path_record_in (bytes_in path_data request)))
        (record_reply told attribute request))) ≡ false
    go true c = refl
    go false true =
        let mask = number_in component_mask request in
        let asked = path_record_in (bytes_in path_data request) in
        none_between told mask asked (end_asked told (source_said mask asked)) (end_asked told (target_said mask asked))
    go false false = none_of_record told attribute request

-- a path in a table is that of a Get
pub table_path : (r : Reply) (path : PathRecord) → as_table r ≡ Path path → r ≡ Path path
table_path (Refused NoRecords) path e = absurd (cc)
table_path (Refused NotSupported) path e = absurd (cc)
table_path (Refused TooManyRecords) path e = absurd (cc)
table_path (Refused InsufficientComponents) path e = absurd (cc)
table_path (Refused InvalidGid) path e = absurd (cc)
table_path (Refused InvalidRequest) path e = absurd (cc)
table_path Info path e = absurd (cc)
table_path (Path p) path e = e
table_path (Node r) path e = absurd (cc)
table_path (Port r) path e = absurd (cc)
table_path (Member r) path e = absurd (cc)
table_path Empty path e = absurd (cc)
