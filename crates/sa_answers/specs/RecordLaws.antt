-- What is told of nodes and ports. InfiniBand Architecture Specification, Volume 1: subnet administration, NodeRecord,
-- PortInfoRecord.
use Rattle.std.specs.Prelude.{◌≡◌, ◌⊎◌, ℕ, Bool, ◌==◌, List, Contains, Some, true, false, count_by}
use Rattle.smp_bytes.specs.Field.{bytes_in, number_in}
use Rattle.smp_bytes.specs.Packet.{attribute_id, method}
use Rattle.smp_bytes.specs.declared.node_type.NodeType.{NodeType}
use Rattle.attr_codec.specs.NodeInfo.{node_info_in}
use Rattle.reply_facts.specs.Known.{node_of, port_guid_of}
use Rattle.subnet_view.specs.declared.end_port.EndPort.{EndPort}
use Rattle.lid_assign.specs.Lids.{lid_of, owner_of}
use Rattle.sweep.specs.Images.{image_at}
use Rattle.sa_bytes.specs.Numbers.{node_record, port_info_record, sa_get, sa_get_table}
use Rattle.sa_bytes.specs.SaPacket.{attribute_data, component_mask, lid_data, port_data}
use Rattle.sa_bytes.specs.declared.node_record.NodeRecord.{NodeRecord}
use Rattle.sa_bytes.specs.declared.port_info_record.PortInfoRecord.{PortInfoRecord}
use Rattle.sa_answers.specs.NodeReply.{description_bit, info_of, suits_node}
use Rattle.sa_answers.specs.PathReply.{gives}
use Rattle.sa_answers.specs.PortReply.{goes_by, info_at}
use Rattle.sa_answers.specs.Reply.{reply_to}
use Rattle.sa_answers.specs.Told.{Told}
use Rattle.sa_answers.specs.declared.reply.Reply.TheVariants.{Node, Port}

-- the request is a Get or a GetTable of records with the attribute `attribute`
abbrev pub AsksFor : ℕ → List ℕ → Type 0
AsksFor attribute request =
    ((number_in method request ≡ sa_get) ⊎ (number_in method request ≡ sa_get_table))
    × (number_in attribute_id request ≡ attribute)

-- whether an end port with its first LID has a record that is as a request asks
abbrev pub suits_request : Told → List ℕ → EndPort × ℕ → Bool
suits_request told request =
    suits_node told (number_in component_mask request) (number_in lid_data request)
    (node_info_in (bytes_in attribute_data request))

-- `r` is the record of an end port to which the plan gives a LID: its first LID, and by the facts its port GUID, and
-- the type and the number of ports of its node. It is as the request asks, and no other end port has a record that is
pub record IsOnlyNode (told : Told) (request : List ℕ) (r : NodeRecord) : Type 0 where
  pub end : EndPort
  pub lid : ℕ
  pub node : NodeType × ℕ
  pub guid : ℕ
  pub given : Contains told.plan.given.ports (end, lid)
  pub node_is : node_of told.cells end.node ≡ Some node
  pub guid_is : port_guid_of told.cells end.node end.port ≡ Some guid
  pub lid_is : r.lid ≡ lid
  pub info_is : r.info ≡ info_of end node guid
  pub suits : suits_request told request (end, lid) ≡ true
  pub no_others : count_by (suits_request told request) told.plan.given.ports ≡ 1

-- each node that is told is that of the only end port that is as the request asks (`IsOnlyNode`)
abbrev pub NodesToldAreThePlans : Type 0
NodesToldAreThePlans =
    (told : Told) (request : List ℕ) (r : NodeRecord) → reply_to told request ≡ Node r
    → AsksFor node_record request × IsOnlyNode told request r

-- `r` is the record of a port of the owner of the LID in the request: the first LID of the owner, and the PortInfo that
-- the sweep read of the port, as it is told (`info_at`)
pub record IsPortOfOwner (told : Told) (request : List ℕ) (r : PortInfoRecord) : Type 0 where
  pub end : EndPort
  pub lid : ℕ
  pub image : List ℕ
  pub owner : owner_of told.plan.given (number_in lid_data request) ≡ Some end
  pub first : lid_of told.plan.given end ≡ Some lid
  pub goes : goes_by end r.port ≡ true
  pub image_is : image_at told.images end.node r.port ≡ Some image
  pub lid_is : r.lid ≡ lid
  pub info_is : r.info ≡ info_at told end lid r.port image

-- each port that is told is one of the owner of the LID in the request (`IsPortOfOwner`)
abbrev pub PortsToldAreThePlans : Type 0
PortsToldAreThePlans =
    (told : Told) (request : List ℕ) (r : PortInfoRecord) → reply_to told request ≡ Port r
    → AsksFor port_info_record request × IsPortOfOwner told request r

-- if exactly one end port has a record that is as the request asks, and the request does not ask for a NodeDescription,
-- a node is told
abbrev pub NodesAreTold : Type 0
NodesAreTold =
    (told : Told) (request : List ℕ) → AsksFor node_record request
    → gives (number_in component_mask request) description_bit ≡ false
    → count_by (suits_request told request) told.plan.given.ports ≡ 1
    → (r : NodeRecord) × (reply_to told request ≡ Node r)

-- a request asks for the port `port` of the node of the end port `e`, by the LID of `e`: it names the port, or `e` is a
-- port of an adapter, and the request names none
abbrev pub AsksForPort : List ℕ → EndPort → ℕ → Type 0
AsksForPort request e port =
    ((number_in component_mask request ≡ 3) × (number_in port_data request ≡ port) × (goes_by e port ≡ true))
    ⊎ ((number_in component_mask request ≡ 1) × ((e.port == 0) ≡ false) × (port ≡ e.port))

-- if the sweep kept the PortInfo of a port, a request for it by the LID of its end port is answered with it
abbrev pub PortsAreTold : Type 0
PortsAreTold =
    (told : Told) (request : List ℕ) (e : EndPort) (port lid : ℕ) (image : List ℕ) → AsksFor port_info_record request
    → owner_of told.plan.given (number_in lid_data request) ≡ Some e → AsksForPort request e port
    → lid_of told.plan.given e ≡ Some lid → image_at told.images e.node port ≡ Some image
    → reply_to told request ≡ Port (record { lid = lid; port = port; info = info_at told e lid port image })
