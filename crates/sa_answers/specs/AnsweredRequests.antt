-- Which requests for a path are answered with one. InfiniBand Architecture Specification, Volume 1: addressing, GIDs and
-- LIDs; subnet administration, PathRecord.
use Rattle.std.specs.Prelude.{◌≡◌, ◌≢◌, ℕ, ◌||◌, true, false, List, Contains, Some, IsTrue, if◌then◌else◌}
use Rattle.smp_bytes.specs.Field.{bytes_in, number_in}
use Rattle.smp_bytes.specs.Packet.{attribute_id, method}
use Rattle.fabric_model.specs.declared.cable.NodePort.{NodePort}
use Rattle.fabric_model.specs.Fabric.{Fabric, IsEndPort}
use Rattle.fabric_model.specs.FabricWalks.{IsJoinedTo}
use Rattle.fact_store.specs.View.{Facts, cells_of}
use Rattle.reply_facts.specs.Known.{port_guid_of}
use Rattle.subnet_view.specs.declared.end_port.EndPort.{EndPort}
use Rattle.subnet_view.specs.FabricAgreement.{Covers, HasEndPort}
use Rattle.lid_assign.specs.Lids.{IsNoRoom, lid_of, owner_of}
use Rattle.lft_blocks.specs.InForce.{IsInForceWithin}
use Rattle.lft_blocks.specs.Plan.{plan_of}
use Rattle.lft_blocks.specs.Rule.{RuleValue}
use Rattle.plan_steps.specs.Carried.{link_local_prefix}
use Rattle.sa_bytes.specs.Numbers.{path_record, sa_get}
use Rattle.sa_bytes.specs.PathRecord.{path_record_in}
use Rattle.sa_bytes.specs.SaPacket.{component_mask, path_data}
use Rattle.sa_bytes.specs.declared.path_record.PathRecord.{PathRecord}
use Rattle.sa_answers.specs.PathLaws.{PathHeld}
use Rattle.sa_answers.specs.PathReply.{exactly, life_of, source_said, suits_path, target_said}
use Rattle.sa_answers.specs.Reply.{reply_to}
use Rattle.sa_answers.specs.Told.{Told}
use Rattle.sa_answers.specs.declared.ends.EndSaid.{EndSaid}
use Rattle.sa_answers.specs.declared.reply.Reply.TheVariants.{Path, Refused}
use Rattle.sa_answers.specs.declared.reply.SaRefusal.TheVariants.{NoRecords}

-- `guid` is the port GUID of the end port `e`, and of no other end port that the plan gives a LID
pub record IsGuidOf (told : Told) (guid : ℕ) (e : EndPort) : Type 0 where
  pub its : port_guid_of told.cells e.node e.port ≡ Some guid
  pub no_others : (x : EndPort × ℕ) → Contains told.plan.given.ports x
      → port_guid_of told.cells x.0.node x.0.port ≡ Some guid → x.0 ≡ e

-- what a request says of an end of a path names the end port `e` by a GID, by a LID or by both. `lid` is the LID that is
-- given; if none is, it is the first LID of `e`
pub record NamesEnd (told : Told) (said : EndSaid) (e : EndPort) (lid : ℕ) : Type 0 where
  pub named : (said.by_gid || said.by_lid) ≡ true
  pub gid : IsTrue said.by_gid → (said.prefix ≡ link_local_prefix) × IsGuidOf told said.guid e
  pub lid_given : IsTrue said.by_lid → said.lid ≡ lid
  pub no_lid : said.by_lid ≡ false → lid_of told.plan.given e ≡ Some lid
  pub owned : owner_of told.plan.given lid ≡ Some e

-- the component mask of a request
abbrev pub mask_of : List ℕ → ℕ
mask_of request = number_in component_mask request

-- the path record of a request
abbrev pub asked_in : List ℕ → PathRecord
asked_in request = path_record_in (bytes_in path_data request)

-- the request is a Get of a PathRecord, and names `source` with `slid` and `target` with `dlid`
pub record AsksForPath (told : Told) (request : List ℕ) (source : EndPort) (slid : ℕ) (target : EndPort) (dlid : ℕ)
    : Type 0 where
  pub is_get : number_in method request ≡ sa_get
  pub of_path : number_in attribute_id request ≡ path_record
  pub from : NamesEnd told (source_said (mask_of request) (asked_in request)) source slid
  pub to : NamesEnd told (target_said (mask_of request) (asked_in request)) target dlid

-- `f` holds a path from `source` with `slid` to `target` with `dlid`. If it suits the request (`suits_path`), it is the
-- answer; otherwise the request is refused, since there is no such record
pub record IsAnswered (told : Told) (f : Fabric) (request : List ℕ) (source : EndPort) (slid : ℕ) (target : EndPort)
    (dlid : ℕ) : Type 0 where
  pub path : PathRecord
  pub held : PathHeld told f path
  pub from_source : held.source ≡ source
  pub to_target : held.target ≡ target
  pub slid_is : path.slid ≡ slid
  pub dlid_is : path.dlid ≡ dlid
  pub life_is : path.packet_life_time ≡ exactly (life_of source target)
  pub reply_is : reply_to told request
      ≡ (if suits_path (mask_of request) (asked_in request) path then Path path else Refused NoRecords)

-- a request for the path between two end ports of a part. The plan that is told of is that of some facts, which had room
-- for their LIDs. These facts and those that are told of, perhaps newer ones, describe the part, which is what an end
-- port is joined to, and the part holds the plan
pub record PathAsked : Type 0 where
  pub told : Told
  pub rule : RuleValue
  pub lmc : ℕ
  pub planned : Facts
  pub has_room : ¬ (IsNoRoom lmc (cells_of planned))
  pub plan_is : told.plan ≡ plan_of rule lmc (cells_of planned)
  pub fabric : Fabric
  pub origin : NodePort
  pub is_origin : IsEndPort fabric origin
  pub covers : Covers (IsJoinedTo fabric origin) (cells_of planned) fabric
  pub in_force : IsInForceWithin (IsJoinedTo fabric origin) told.cells told.plan fabric
  pub source : EndPort
  pub target : EndPort
  pub from : HasEndPort (IsJoinedTo fabric origin) fabric source.node source.port
  pub to : HasEndPort (IsJoinedTo fabric origin) fabric target.node target.port
  pub slid : ℕ
  pub dlid : ℕ
  pub request : List ℕ
  pub asks : AsksForPath told request source slid target dlid

-- each such request is answered with the path, if the path suits it (`IsAnswered`)
abbrev pub PathsAreTold : Type 0
PathsAreTold = (a : PathAsked) → IsAnswered a.told a.fabric a.request a.source a.slid a.target a.dlid

-- some such request, for the path between two different end ports, is answered with a path
abbrev pub SomePathIsTold : Type 0
SomePathIsTold = (a : PathAsked) × (a.source ≢ a.target) × (path : PathRecord) × (reply_to a.told a.request ≡ Path path)
