-- Which ports join a multicast group. InfiniBand Architecture Specification, Volume 1: subnet administration,
-- MCMemberRecord.
use Rattle.std.specs.Prelude.{◌≡◌, ◌≢◌, ℕ, ◌%◌, ◌^◌, true, List, Contains, Some}
use Rattle.smp_bytes.specs.Field.{bytes_in, number_in}
use Rattle.smp_bytes.specs.LidRange.{lid_end}
use Rattle.smp_bytes.specs.Packet.{attribute_id, method}
use Rattle.reply_facts.specs.Known.{port_guid_of}
use Rattle.subnet_view.specs.declared.end_port.EndPort.{EndPort}
use Rattle.plan_steps.specs.Carried.{link_local_prefix}
use Rattle.sa_bytes.specs.MemberRecord.{member_record_in}
use Rattle.sa_bytes.specs.Numbers.{member_record, sa_set}
use Rattle.sa_bytes.specs.SaPacket.{component_mask, path_data}
use Rattle.sa_bytes.specs.declared.member_record.MemberRecord.{MemberRecord}
use Rattle.sa_answers.specs.MemberReply.{is_broadcast, member_of}
use Rattle.sa_answers.specs.Reply.{reply_to}
use Rattle.sa_answers.specs.Told.{Told}
use Rattle.sa_answers.specs.declared.reply.Reply.TheVariants.{Member}

-- the MCMemberRecord of a request
abbrev pub member_in : List ℕ → MemberRecord
member_in request = member_record_in (bytes_in path_data request)

-- the manager writes the multicast tree, and `asked` is of a port of an adapter that the plan gives a LID; `told_of` has
-- the multicast LID of the tree
pub record Joins (told : Told) (asked told_of : MemberRecord) : Type 0 where
  pub has_tree : told.multicast ≡ true
  pub lid : told_of.mlid ≡ lid_end
  pub prefix : asked.port_prefix ≡ link_local_prefix
  pub end : EndPort × ℕ
  pub planned : Contains told.plan.given.ports end
  pub guid : port_guid_of told.cells end.0.node end.0.port ≡ Some asked.port_guid
  pub of_adapter : end.0.port ≢ 0

-- a port that is told that it joined is a port of an adapter, with a LID by the plan (`Joins`)
abbrev pub JoinedPortsAreAdapters : Type 0
JoinedPortsAreAdapters = (told : Told) (request : List ℕ) (r : MemberRecord) → number_in method request ≡ sa_set
    → reply_to told request ≡ Member r → Joins told (member_in request) r

-- the request asks for the broadcast group of the default partition as a host's kernel does when its IPoIB comes up: by
-- MGID, PortGID, P_Key and JoinState alone
pub record AsksForBroadcast (request : List ℕ) : Type 0 where
  pub is_set : number_in method request ≡ sa_set
  pub of_member : number_in attribute_id request ≡ member_record
  pub mask : number_in component_mask request ≡ 0x10083
  pub group : is_broadcast (member_in request) ≡ true
  pub partition : (member_in request).p_key % 2 ^ 15 ≡ 0x7FFF
  pub prefix : (member_in request).port_prefix ≡ link_local_prefix

-- the request's port is that of the adapter port `e`, which the plan gives a LID, and of no other
pub record IsFrom (told : Told) (request : List ℕ) (e : EndPort × ℕ) : Type 0 where
  pub planned : Contains told.plan.given.ports e
  pub of_adapter : e.0.port ≢ 0
  pub guid : port_guid_of told.cells e.0.node e.0.port ≡ Some (member_in request).port_guid
  pub no_others : (x : EndPort × ℕ) → Contains told.plan.given.ports x
      → port_guid_of told.cells x.0.node x.0.port ≡ Some (member_in request).port_guid → x ≡ e

-- if the manager writes the multicast tree, such a request of a port of an adapter, which the plan gives a LID, is
-- answered with the membership that it asks for
abbrev pub BroadcastIsJoined : Type 0
BroadcastIsJoined = (told : Told) (request : List ℕ) (e : EndPort × ℕ) → told.multicast ≡ true → AsksForBroadcast request
    → IsFrom told request e → reply_to told request ≡ Member (member_of 0x10083 (member_in request))
