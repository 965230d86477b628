-- What a report says: its first fault, or the facts about the node that answered. InfiniBand Architecture
-- Specification, Volume 1: subnet management, NodeInfo, PortInfo and SwitchInfo; directed route SMPs.
use Rattle.std.specs.Prelude.{ℕ, Bool, false, ◌&&◌, ◌||◌, not, List, [], ◌∷◌, nat_lt, nat_le, ◌==◌, if◌then◌else◌, Option, Some, None, is_some, option_map}
use Rattle.smp_bytes.specs.declared.node_type.NodeType.{NodeType}
use Rattle.smp_bytes.specs.NodeType.{is_switch}
use Rattle.smp_bytes.specs.Header.{get_resp, done, node_info, switch_info, port_info}
use Rattle.smp_bytes.specs.Field.{number_in, bits_in, bytes_in}
use Rattle.smp_bytes.specs.Packet.{fault_of, is_directed, is_returning, status, method, hop_pointer, hop_count, attribute_id, attribute_modifier, attribute_data}
use Rattle.attr_codec.specs.declared.node_info.NodeInfo.{NodeInfo}
use Rattle.attr_codec.specs.NodeInfo.{node_info_in}
use Rattle.attr_codec.specs.NodeTypeNumber.{type_of_number}
use Rattle.attr_codec.specs.PortInfo.{base_lid, port_state}
use Rattle.attr_codec.specs.SwitchInfo.{linear_fdb_cap}
use Rattle.fact_join.specs.declared.cell.Cell.{Cell}
use Rattle.fact_join.specs.declared.cell.Cell.TheVariants.{Known}
use Rattle.reply_facts.specs.Sighting.{is_cabled_port}
use Rattle.reply_facts.specs.declared.key.Key.{Key}
use Rattle.reply_facts.specs.declared.key.Key.TheVariants.{Node, PortGuid, Link, Port, Claim, Cap}
use Rattle.reply_facts.specs.declared.report.Context.{Context}
use Rattle.reply_facts.specs.declared.report.Context.TheVariants.{Start, Via, About}
use Rattle.reply_facts.specs.declared.report.Report.{Report}
use Rattle.reply_facts.specs.declared.report_fault.ReportFault.{ReportFault}
use Rattle.reply_facts.specs.declared.report_fault.ReportFault.TheVariants as fault
use Rattle.reply_facts.specs.declared.value.Value.{Value}
use Rattle.reply_facts.specs.declared.value.Value.TheVariants.{Kind, Guid, Peer, Up, Lid, Count}

-- faults ------------------------------------------------------------------------------

-- the first of two faults, or the second if the first is None; None if both are None
abbrev pub or_else : Option ReportFault → Option ReportFault → Option ReportFault
or_else None next = next
or_else (Some first) next = Some first

-- the first reason why `packet` is not a GetResp with status 0 that has come back along a directed route; None if
-- `packet` is such an answer
abbrev pub answer_fault : List ℕ → Option ReportFault
answer_fault packet =
    if not (is_directed packet) then Some fault.Class
    else if not (number_in method packet == get_resp) then Some fault.Method
    else if not (is_returning packet && number_in hop_pointer packet == 0) then Some fault.Direction
    else if not (status packet == done) then Some fault.Status
    else None

-- whether the context fits an answer with NodeInfo to a request of `hops` hops. `Start`, the sender's own node, fits
-- 0 hops. `Via` fits 1 hop or more. `About` does not fit any answer with NodeInfo
abbrev pub fits_node_info : Context → ℕ → Bool
fits_node_info Start hops = hops == 0
fits_node_info (Via guid port) hops = nat_lt 0 hops
fits_node_info (About guid) hops = false

-- whether a node of type `kind` can have been asked through `port`. Port 0 is possible only at the manager's own node
-- (`Start`), and only if that node is a switch. In the context `Via`, the port `via` must be from 1 to 254
abbrev pub may_be_asked_by : Context → NodeType → ℕ → Bool
may_be_asked_by Start kind port = is_switch kind || nat_lt 0 port
may_be_asked_by (Via guid via) kind port = nat_lt 0 port && is_cabled_port via
may_be_asked_by (About guid) kind port = nat_lt 0 port

-- whether the ports in `info` are in range: NumPorts is from 1 to 254, LocalPortNum is at most NumPorts, and the node
-- may be asked through LocalPortNum (`may_be_asked_by`)
abbrev pub are_ports_in_range : Context → NodeType → NodeInfo → Bool
are_ports_in_range context kind info =
    is_cabled_port info.num_ports && nat_le info.local_port_num info.num_ports
    && may_be_asked_by context kind info.local_port_num

-- the fault of an answer with NodeInfo: `NodeType` if the type is None, which stands for a reserved type; otherwise
-- `Port` if a port is out of range; None if neither is the case
abbrev pub kind_fault : Context → NodeInfo → Option NodeType → Option ReportFault
kind_fault context info None = Some fault.NodeType
kind_fault context info (Some kind) = if are_ports_in_range context kind info then None else Some fault.Port

-- the NodeInfo that `packet` carries
abbrev pub node_info_of : List ℕ → NodeInfo
node_info_of packet = node_info_in (bytes_in attribute_data packet)

-- the first fault of an answer with NodeInfo: a context that does not fit, a reserved type, or a port out of range;
-- None if the answer has no fault
abbrev pub node_info_fault : Context → List ℕ → Option ReportFault
node_info_fault context packet =
    if not (fits_node_info context (number_in hop_count packet)) then Some fault.Context
    else kind_fault context (node_info_of packet) (type_of_number (node_info_of packet).node_type)

-- the last node that the request's path leaves, and the port by which the path leaves it; None unless the context is
-- `Via`
abbrev pub via_of : Context → Option (ℕ × ℕ)
via_of Start = None
via_of (Via guid port) = Some (guid, port)
via_of (About guid) = None

-- the node that the reply is about; None unless the context is `About`
abbrev pub about_of : Context → Option ℕ
about_of Start = None
about_of (Via guid port) = None
about_of (About guid) = Some guid

-- the fault `Context` if the context is not `About`, as answers with PortInfo or SwitchInfo need; None if it is `About`
abbrev pub about_fault : Context → Option ReportFault
about_fault context = if is_some (about_of context) then None else Some fault.Context

-- the first fault of an answer with PortInfo: a context that is not `About`, or a modifier over 254. The modifier is
-- the number of the port. None if the answer has no fault
abbrev pub port_info_fault : Context → List ℕ → Option ReportFault
port_info_fault context packet =
    or_else (about_fault context) (if nat_lt 254 (number_in attribute_modifier packet) then Some fault.Modifier else
    None)

-- the first fault of an answer according to its attribute: an attribute other than NodeInfo, PortInfo and SwitchInfo,
-- or a fault of an answer with that attribute. None if the answer has no fault
abbrev pub attribute_fault : Context → List ℕ → Option ReportFault
attribute_fault context packet =
    if number_in attribute_id packet == node_info then node_info_fault context packet
    else if number_in attribute_id packet == port_info then port_info_fault context packet
    else if number_in attribute_id packet == switch_info then about_fault context
    else Some fault.Attribute

-- the first fault of the bytes of a reply, as a packet and then as an answer; None if they have none
abbrev pub packet_fault : List ℕ → Option ReportFault
packet_fault packet = or_else (option_map fault.Smp (fault_of packet)) (answer_fault packet)

-- the first fault of the reply `packet`, as an answer and then according to its attribute; None if the reply has no
-- fault. `packet` must be a packet
abbrev pub reply_fault : Context → List ℕ → Option ReportFault
reply_fault context packet = or_else (answer_fault packet) (attribute_fault context packet)

-- the first fault of a report: generation 0, then a fault of its packet, then a fault according to its attribute;
-- None if the report has no fault
abbrev pub report_fault : Report → Option ReportFault
report_fault report =
    if report.generation == 0 then Some fault.Generation
    else or_else (packet_fault report.bytes) (attribute_fault report.context report.bytes)

-- facts -------------------------------------------------------------------------------

-- sightings: keys, each with the cell that is reported for it
abbrev pub Sightings : Type 0
Sightings = List (Key × Cell Value)

-- the port whose GUID is in NodeInfo: port 0 of a switch, and otherwise `local_port`, the port that was asked
abbrev pub guid_port : NodeType → ℕ → ℕ
guid_port kind local_port = if is_switch kind then 0 else local_port

-- the link between the port that was asked and the port before it on the path, once from each end; none unless the
-- context is `Via`
abbrev pub sightings_of_link : ℕ → Context → NodeInfo → Sightings
sightings_of_link generation (Via peer port) info =
    (Link info.node_guid info.local_port_num, Known generation (Peer peer port)) ∷
    (Link peer port, Known generation (Peer info.node_guid info.local_port_num)) ∷ []
sightings_of_link generation Start info = []
sightings_of_link generation (About guid) info = []

-- the facts of an answer with the NodeInfo `info`: the type and port count of the node, a port's GUID and, if the
-- context is `Via`, the link. No facts if the type is None, which stands for a reserved type
abbrev pub sightings_of_kind : ℕ → Context → NodeInfo → Option NodeType → Sightings
sightings_of_kind generation context info None = []
sightings_of_kind generation context info (Some kind) =
    (Node info.node_guid, Known generation (Kind kind info.num_ports))
    ∷ (PortGuid info.node_guid (guid_port kind info.local_port_num), Known generation (Guid info.port_guid))
    ∷ sightings_of_link generation context info

-- the facts of an answer with NodeInfo: the type and port count of the node, a port's GUID and, if the context is
-- `Via`, the link by which the request came. No facts if the type is reserved
abbrev pub sightings_by_node_info : ℕ → Context → List ℕ → Sightings
sightings_by_node_info generation context packet =
    sightings_of_kind generation context (node_info_of packet) (type_of_number (node_info_of packet).node_type)

-- whether a port with this state number is up. Initialize, Armed and Active are up; Down, NoChange and reserved numbers
-- are not
abbrev pub is_up_state : ℕ → Bool
is_up_state state = nat_le 2 state && nat_le state 4

-- the bytes of the attribute in `packet`
abbrev pub payload_of : List ℕ → List ℕ
payload_of packet = bytes_in attribute_data packet

-- the facts of an answer with PortInfo: whether the port that the modifier names is up, and the LID that this port
-- claims; none unless the context is `About`
abbrev pub sightings_by_port_info : ℕ → Context → List ℕ → Sightings
sightings_by_port_info generation (About node) packet = (
  Port node (number_in attribute_modifier packet),
  Known generation
      (Up (is_up_state (bits_in port_state (payload_of packet)))),
)
    ∷ (
      Claim node (number_in attribute_modifier packet),
      Known generation
          (Lid (number_in base_lid (payload_of packet))),
    ) ∷ []
sightings_by_port_info generation Start packet = []
sightings_by_port_info generation (Via guid port) packet = []

-- the fact of an answer with SwitchInfo: how many LIDs the switch's forwarding table has room for; none unless the
-- context is `About`
abbrev pub sightings_by_switch_info : ℕ → Context → List ℕ → Sightings
sightings_by_switch_info generation (About node) packet =
    (Cap node, Known generation (Count (number_in linear_fdb_cap (payload_of packet)))) ∷ []
sightings_by_switch_info generation Start packet = []
sightings_by_switch_info generation (Via guid port) packet = []

-- the facts of an answer according to its attribute. An answer that has neither NodeInfo nor PortInfo is read as
-- SwitchInfo
abbrev pub sightings_by_packet : ℕ → Context → List ℕ → Sightings
sightings_by_packet generation context packet =
    if number_in attribute_id packet == node_info then sightings_by_node_info generation context packet
    else if number_in attribute_id packet == port_info then sightings_by_port_info generation context packet
    else sightings_by_switch_info generation context packet

-- the sightings of `report`, as if it had no fault
abbrev pub sightings_of : Report → Sightings
sightings_of report = sightings_by_packet report.generation report.context report.bytes
