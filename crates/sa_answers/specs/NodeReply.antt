-- The node that a request asks for. InfiniBand Architecture Specification, Volume 1: subnet administration, NodeRecord.
use Rattle.std.specs.Prelude.{ℕ, ◌==◌, ◌&&◌, ◌||◌, Bool, false, not, Option, Some, None, option_and_then, count_by, if◌then◌else◌}
use Rattle.std.specs.List.{find}
use Rattle.std.specs.Option.{option_map_or}
use Rattle.smp_bytes.specs.declared.node_type.NodeType.{NodeType}
use Rattle.attr_codec.specs.NodeTypeNumber.{number_of_type}
use Rattle.attr_codec.specs.declared.node_info.NodeInfo.{NodeInfo}
use Rattle.reply_facts.specs.Known.{node_of, port_guid_of}
use Rattle.subnet_view.specs.declared.end_port.EndPort.{EndPort}
use Rattle.lid_assign.specs.Lids.{owner_of}
use Rattle.sa_bytes.specs.declared.node_record.NodeRecord.{NodeRecord}
use Rattle.sa_answers.specs.PathReply.{gives}
use Rattle.sa_answers.specs.Told.{Told}
use Rattle.sa_answers.specs.declared.reply.SaRefusal.TheVariants.{NotSupported, NoRecords, TooManyRecords}
use Rattle.sa_answers.specs.declared.reply.Reply.{Reply}
use Rattle.sa_answers.specs.declared.reply.Reply.TheVariants.{Refused, Node}

-- what is told of a node ---------------------------------------------------------------------------------

-- NodeInfo of a node at an end port, given the node's type and number of ports and the port GUID. What facts do not say
-- is 0, but for PartitionCap, which is the least that a node has
abbrev pub info_of : EndPort → NodeType × ℕ → ℕ → NodeInfo
info_of e node guid =
    record {
      base_version = 1;
      class_version = 1;
      node_type = number_of_type node.0;
      num_ports = node.1;
      system_image_guid = 0;
      node_guid = e.node;
      port_guid = guid;
      partition_cap = 1;
      device_id = 0;
      revision = 0;
      local_port_num = e.port;
      vendor_id = 0;
    }

-- the record of an end port with its first LID, given its node's type and number of ports, and its port GUID; None if
-- they are not known
abbrev pub node_with : EndPort × ℕ → Option (NodeType × ℕ) → Option ℕ → Option NodeRecord
node_with x (Some node) (Some guid) = Some (record { lid = x.1; info = info_of x.0 node guid })
node_with x _ _ = None

-- the record of an end port with its first LID
abbrev pub node_told : Told → EndPort × ℕ → Option NodeRecord
node_told told x = node_with x (node_of told.cells x.0.node) (port_guid_of told.cells x.0.node x.0.port)

-- what is asked ------------------------------------------------------------------------------------------

-- the bit of LID, a component of NodeRecord
abbrev pub node_lid_bit : ℕ
node_lid_bit = 0

-- the bit of NodeDescription, a component of NodeRecord
abbrev pub description_bit : ℕ
description_bit = 14

-- whether a component is as a request asks, if the request gives the component with the bit `bit`
abbrev pub asks : ℕ → ℕ → ℕ → ℕ → Bool
asks mask bit asked value = not (gives mask bit) || asked == value

-- whether an end port owns the LID `lid`
abbrev pub is_owner : Told → ℕ → EndPort → Bool
is_owner told lid e = option_map_or (λ o. o.node == e.node && o.port == e.port) (owner_of told.plan.given lid) false

-- whether versions, type and number of ports are as a request asks
abbrev pub suits_kind : ℕ → NodeInfo → NodeInfo → Bool
suits_kind mask asked info =
    asks mask 2 asked.base_version info.base_version
    && (asks mask 3 asked.class_version info.class_version
    && (asks mask 4 asked.node_type info.node_type && asks mask 5 asked.num_ports info.num_ports))

-- whether GUIDs are as a request asks
abbrev pub suits_guids : ℕ → NodeInfo → NodeInfo → Bool
suits_guids mask asked info =
    asks mask 6 asked.system_image_guid info.system_image_guid
    && (asks mask 7 asked.node_guid info.node_guid && asks mask 8 asked.port_guid info.port_guid)

-- whether the other components of NodeInfo are as a request asks
abbrev pub suits_device : ℕ → NodeInfo → NodeInfo → Bool
suits_device mask asked info =
    asks mask 9 asked.partition_cap info.partition_cap
    && (asks mask 10 asked.device_id info.device_id
    && (asks mask 11 asked.revision info.revision
    && (asks mask 12 asked.local_port_num info.local_port_num && asks mask 13 asked.vendor_id info.vendor_id)))

-- whether NodeInfo is as a request asks
abbrev pub suits_info : ℕ → NodeInfo → NodeInfo → Bool
suits_info mask asked info =
    suits_kind mask asked info && (suits_guids mask asked info && suits_device mask asked info)

-- whether an end port with a LID has a record, which is as a request asks. If the request gives a LID, it is one of
-- those of the end port
abbrev pub suits_node : Told → ℕ → ℕ → NodeInfo → EndPort × ℕ → Bool
suits_node told mask lid asked x =
    (not (gives mask node_lid_bit) || is_owner told lid x.0)
    && option_map_or (λ r. suits_info mask asked r.info) (node_told told x) false

-- the reply ----------------------------------------------------------------------------------------------

-- the reply to a request for one node, given the number of records that are as it asks, and the first of them
abbrev pub only_node : ℕ → Option NodeRecord → Reply
only_node count None = Refused NoRecords
only_node count (Some r) = if count == 1 then Node r else Refused TooManyRecords

-- the number of end ports whose records are as a request asks
abbrev pub nodes_suited : Told → ℕ → ℕ → NodeInfo → ℕ
nodes_suited told mask lid asked = count_by (suits_node told mask lid asked) told.plan.given.ports

-- the first of them, with its first LID
abbrev pub first_suited : Told → ℕ → ℕ → NodeInfo → Option (EndPort × ℕ)
first_suited told mask lid asked = find (suits_node told mask lid asked) told.plan.given.ports

-- the record of the first of them
abbrev pub first_node : Told → ℕ → ℕ → NodeInfo → Option NodeRecord
first_node told mask lid asked = option_and_then (node_told told) (first_suited told mask lid asked)

-- the reply to a request for a node: a request by NodeDescription is not supported
abbrev pub node_reply : Told → ℕ → ℕ → NodeInfo → Reply
node_reply told mask lid asked =
    if gives mask description_bit then Refused NotSupported
    else only_node (nodes_suited told mask lid asked) (first_node told mask lid asked)
