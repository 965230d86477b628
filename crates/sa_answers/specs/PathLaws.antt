-- The path that is told is the path that is held. InfiniBand Architecture Specification, Volume 1: subnet
-- administration, PathRecord; switches, unicast forwarding by the linear forwarding table.
use Rattle.std.specs.Prelude.{◌≡◌, ◌≤◌, ◌⊎◌, ℕ, List, [], ◌∷◌, Contains, Some}
use Rattle.fabric_model.specs.declared.cable.NodePort.{NodePort}
use Rattle.fabric_model.specs.Fabric.{Fabric, IsEndPort, IsPortNamed}
use Rattle.fabric_model.specs.FabricWalks.{IsJoinedTo}
use Rattle.fabric_model.specs.Forwarding.{Hop, IsDelivered}
use Rattle.fact_store.specs.View.{Facts, cells_of}
use Rattle.reply_facts.specs.Known.{port_guid_of}
use Rattle.subnet_view.specs.declared.end_port.EndPort.{EndPort}
use Rattle.subnet_view.specs.FabricAgreement.{HasEndPort}
use Rattle.lid_assign.specs.Lids.{IsNoRoom, owner_of}
use Rattle.lft_blocks.specs.InForce.{IsInForceWithin}
use Rattle.lft_blocks.specs.Plan.{plan_of}
use Rattle.lft_blocks.specs.Rule.{RuleValue}
use Rattle.sa_bytes.specs.declared.path_record.PathRecord.{PathRecord}
use Rattle.sa_answers.specs.Bound.{bound_at}
use Rattle.sa_answers.specs.PathReply.{exactly}
use Rattle.sa_answers.specs.Rates.{rate_number}
use Rattle.sa_answers.specs.Reply.{reply_to}
use Rattle.sa_answers.specs.Told.{Told}
use Rattle.sa_answers.specs.Way.{Wire, ports_of}
use Rattle.sa_answers.specs.declared.reply.Reply.TheVariants.{Path}

-- `hops` are the wires of the fabric whose ports have these names, in this order
abbrev pub AreWires : Fabric → List Wire → List Hop → Type 0
AreWires f [] [] = Unit {0}
AreWires f [] (h ∷ hops) = ⊥
AreWires f (w ∷ wires) [] = ⊥
AreWires f (w ∷ wires) (h ∷ hops) =
    IsPortNamed f w.out.0 w.out.1 h.out × IsPortNamed f w.into.0 w.into.1 h.into × AreWires f wires hops

-- a packet for `lid` from `source` is delivered at `target`, along the wires with these names
pub record Carries (f : Fabric) (lid : ℕ) (source target : EndPort) (wires : List Wire) : Type 0 where
  pub from : NodePort
  pub from_named : IsPortNamed f source.node source.port from
  pub to : NodePort
  pub to_named : IsPortNamed f target.node target.port to
  pub hops : List Hop
  pub wires_are : AreWires f wires hops
  pub delivered : IsDelivered f lid from hops to

-- a packet passes the port `p` on its way there or back: it is one of both end ports, or a wire joins it
abbrev pub IsPassed : EndPort → EndPort → List Wire → List Wire → ℕ × ℕ → Type 0
IsPassed source target there back p =
    (p ≡ (source.node, source.port)) ⊎ (p ≡ (target.node, target.port)) ⊎ Contains (ports_of there) p
    ⊎ Contains (ports_of back) p

-- `n` is the least value of the ports that are passed: one of them has it, and none has a lesser one
pub record IsLeastOf (value : ℕ × ℕ → ℕ) (is_passed : ℕ × ℕ → Type 0) (n : ℕ) : Type 0 where
  pub port : ℕ × ℕ
  pub passed : is_passed port
  pub is_its : value port ≡ n
  pub none_less : (p : ℕ × ℕ) → is_passed p → n ≤ value p

-- `f` holds the path: packets from the port with the GUID of SGID with DLID arrive at the port with the GUID of DGID,
-- and back with SLID. MTU and rate are the least that the PortInfo of a port that they pass there or back lets through
pub record PathHeld (told : Told) (f : Fabric) (path : PathRecord) : Type 0 where
  pub source : EndPort
  pub target : EndPort
  pub sgid : port_guid_of told.cells source.node source.port ≡ Some path.sgid_guid
  pub dgid : port_guid_of told.cells target.node target.port ≡ Some path.dgid_guid
  pub there : List Wire
  pub back : List Wire
  pub arrives : Carries f path.dlid source target there
  pub returns : Carries f path.slid target source back
  pub mtu : ℕ
  pub rate : ℕ
  pub least_mtu : IsLeastOf (λ p. (bound_at told p).mtu) (IsPassed source target there back) mtu
  pub least_rate : IsLeastOf (λ p. (bound_at told p).rate) (IsPassed source target there back) rate
  pub mtu_told : path.mtu ≡ exactly mtu
  pub rate_told : path.rate ≡ exactly (rate_number rate)

-- suppose the plan that is told of is that of some facts, which had room for their LIDs. The facts that are told of,
-- perhaps newer ones, describe the part that an end port is joined to, and this part holds the plan. Then it holds each
-- path that is told from an end port of the part (`PathHeld`)
abbrev pub PathsToldAreHeld : Type 0
PathsToldAreHeld =
    (told : Told) (rule : RuleValue) (lmc : ℕ) (planned : Facts) → ¬ (IsNoRoom lmc (cells_of planned))
    → told.plan ≡ plan_of rule lmc (cells_of planned)
    → (f : Fabric) (origin : NodePort) → IsEndPort f origin
    → IsInForceWithin (IsJoinedTo f origin) told.cells told.plan f
    → (request : List ℕ) (path : PathRecord) → reply_to told request ≡ Path path
    → (source : EndPort) → owner_of told.plan.given path.slid ≡ Some source
    → HasEndPort (IsJoinedTo f origin) f source.node source.port
    → PathHeld told f path
