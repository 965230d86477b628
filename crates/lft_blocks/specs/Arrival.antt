-- How each packet for a LID of a plan arrives if a fabric holds the plan. InfiniBand Architecture Specification, Volume
-- 1: subnet management, PortInfo (LID), SwitchInfo (LinearFDBTop) and LinearForwardingTable; switches, unicast
-- forwarding by the linear forwarding table.
use Rattle.std.specs.Prelude.{◌≡◌, ◌≢◌, ◌≤◌, ℕ, Bool, not, ◌&&◌, List, [], ◌∷◌, map, filter, length, count_by}
use Rattle.std.specs.Prelude.{AllPairs, Some, slice_get}
use Rattle.std.specs.Option.{option_map_or}
use Rattle.std.specs.List.Sorted.{IsStrictlyIncreasing}
use Rattle.fabric_model.specs.declared.cable.NodePort.{NodePort}
use Rattle.fabric_model.specs.Fabric.{Fabric, IsEndPort, is_switch_at, IsPortNamed}
use Rattle.fabric_model.specs.FabricWalks.{IsJoinedTo, IsConnected}
use Rattle.fabric_model.specs.Forwarding.{Hop, IsDelivered}
use Rattle.fact_store.specs.View.{Facts, cells_of}
use Rattle.subnet_view.specs.declared.end_port.EndPort.{EndPort}
use Rattle.subnet_view.specs.Reading.{Cells}
use Rattle.subnet_view.specs.FabricAgreement.{Part, WholeFabric, HasEndPort}
use Rattle.lid_assign.specs.Lids.{IsNoRoom, owner_of}
use Rattle.subnet_view.specs.Graph.{graph_of}
use Rattle.subnet_view.specs.Routing.{Routing, IsRouting}
use Rattle.lft_blocks.specs.Rule.{RuleValue, routing_by}
use Rattle.lft_blocks.specs.Plan.{PlanValue, plan_by, plan_of}
use Rattle.lft_blocks.specs.InForce.{IsInForce, IsInForceWithin}

-- the GUID of the node of port `p`; 0 if there is no node
abbrev pub guid_at : Fabric → NodePort → ℕ
guid_at f p = option_map_or (λ node. node.guid) (slice_get f.nodes p.node) 0

-- whether the wire of the hop `h` leads from a switch to a switch
abbrev pub is_between_switches : Fabric → Hop → Bool
is_between_switches f h = is_switch_at f h.out.node && is_switch_at f h.into.node

-- the hops along wires between switches
abbrev pub switch_hops : Fabric → List Hop → List Hop
switch_hops f hops = filter (is_between_switches f) hops

-- the GUIDs of the switches that a packet from `source` passes along `hops`, from the first to the last
abbrev pub switches_met : Fabric → NodePort → List Hop → List ℕ
switches_met f source hops = map (guid_at f) (filter (λ p. is_switch_at f p.node) (source ∷ map (λ h. h.into) hops))

-- the numbers of the channels between switches that a packet takes along `hops`, from the first to the last
abbrev pub channels_taken : Routing → Fabric → List Hop → List ℕ
channels_taken rule f hops = map (λ h. rule.channel (guid_at f h.out) (guid_at f h.into)) (switch_hops f hops)

-- the last of some numbers; `d` if there are none
abbrev pub last_or : ℕ → List ℕ → ℕ
last_or d [] = d
last_or d (x ∷ xs) = last_or x xs

-- `n` is the cost of `rule` from the first of the switches to the last; true if there are no switches
abbrev pub IsCostAlong : Routing → List ℕ → ℕ → Type 0
IsCostAlong rule [] n = Unit {0}
IsCostAlong rule (s ∷ switches) n = rule.cost s (last_or s switches) ≡ Some n

-- the hops are a way of `rule`. They take as many wires between switches as the cost from the first switch to the last,
-- and at most two other wires. They pass no switch twice, and the numbers of their channels rise
pub record IsRoutedWay (rule : Routing) (f : Fabric) (source : NodePort) (hops : List Hop) : Type 0 where
  pub at_cost : IsCostAlong rule (switches_met f source hops) (length (switch_hops f hops))
  pub no_switch_twice : AllPairs (λ a b. a ≢ b) (switches_met f source hops)
  pub adapter_wires : count_by (λ h. not (is_between_switches f h)) hops ≤ 2
  pub channels_rise : IsStrictlyIncreasing (channels_taken rule f hops)

-- a packet for `lid` from `source` is delivered at `owner`, which is a port of the part, along a way of `rule`
pub record ArrivesBy (rule : Routing) (part : Part) (f : Fabric) (lid : ℕ) (source : NodePort) (owner : EndPort) : Type
    0 where
  pub target : NodePort
  pub is_owner : IsPortNamed f owner.node owner.port target
  pub in_part : part target
  pub hops : List Hop
  pub delivered : IsDelivered f lid source hops target
  pub way : IsRoutedWay rule f source hops

-- a packet for `lid` from `source` is delivered at `owner`, which is a port of the part, along a way of a rule that
-- can be asked for
abbrev pub Arrives : RuleValue → Part → Cells → Fabric → ℕ → NodePort → EndPort → Type 0
Arrives rule part cells f lid source owner = ArrivesBy (routing_by rule cells) part f lid source owner

-- if the plan is in force in a part, packets arrive there: a packet from each end port of the part, for each LID of
-- the plan, is delivered at the LID's owner, along a way of `rule`. The part is what an end port is joined to
abbrev pub EveryPacketArrivesBy : Routing → Cells → PlanValue → Type 0
EveryPacketArrivesBy rule cells plan =
    (f : Fabric) (origin : NodePort) → IsEndPort f origin → IsInForce (IsJoinedTo f origin) cells plan f
    → (source : NodePort) → IsEndPort f source → IsJoinedTo f origin source
    → (lid : ℕ) (owner : EndPort) → owner_of plan.given lid ≡ Some owner
    → ArrivesBy rule (IsJoinedTo f origin) f lid source owner

-- suppose a set of facts has room for its LIDs. If its plan under any rule of routing is in force in a part, every
-- packet arrives there (`EveryPacketArrivesBy`)
abbrev pub PacketsArriveByEachRouting : Type 0
PacketsArriveByEachRouting = (lmc : ℕ) (facts : Facts) (rule : Routing) → IsRouting (graph_of (cells_of facts)) rule
    → ¬ (IsNoRoom lmc (cells_of facts))
    → EveryPacketArrivesBy rule (cells_of facts) (plan_by rule lmc (cells_of facts))

-- suppose a set of facts has room for its LIDs and describes the part that an end port is joined to, and this part
-- holds the plan of the facts under a rule of routing. Then a packet from each end port of the part, for each LID of
-- the plan that an end port of the part owns, arrives, whatever else the facts contain
abbrev pub PacketsArriveWhereCovered : Type 0
PacketsArriveWhereCovered =
    (lmc : ℕ) (facts : Facts) (rule : Routing) → IsRouting (graph_of (cells_of facts)) rule
    → ¬ (IsNoRoom lmc (cells_of facts))
    → (f : Fabric) (origin : NodePort) → IsEndPort f origin
    → IsInForceWithin (IsJoinedTo f origin) (cells_of facts) (plan_by rule lmc (cells_of facts)) f
    → (source : NodePort) → IsEndPort f source → IsJoinedTo f origin source
    → (lid : ℕ) (owner : EndPort) → owner_of (plan_by rule lmc (cells_of facts)).given lid ≡ Some owner
    → HasEndPort (IsJoinedTo f origin) f owner.node owner.port
    → ArrivesBy rule (IsJoinedTo f origin) f lid source owner

-- if the plan is in force in a part, every packet arrives there (`EveryPacketArrivesBy`), under a rule that can be
-- asked for
abbrev pub EveryPacketArrives : RuleValue → Cells → PlanValue → Type 0
EveryPacketArrives rule cells plan = EveryPacketArrivesBy (routing_by rule cells) cells plan

-- if the plan is in force in the whole of a connected fabric, a packet from each end port, for each LID of the plan,
-- arrives
abbrev pub EveryPacketArrivesIfConnected : RuleValue → Cells → PlanValue → Type 0
EveryPacketArrivesIfConnected rule cells plan = (f : Fabric) → IsConnected f → IsInForce WholeFabric cells plan f
    → (source : NodePort) → IsEndPort f source
    → (lid : ℕ) (owner : EndPort) → owner_of plan.given lid ≡ Some owner
    → Arrives rule WholeFabric cells f lid source owner

-- if a set of facts has room for its LIDs, and its plan is in force in the whole of a connected fabric, every packet
-- arrives
abbrev pub PacketsArriveIfConnected : Type 0
PacketsArriveIfConnected = (rule : RuleValue) (lmc : ℕ) (facts : Facts) → ¬ (IsNoRoom lmc (cells_of facts))
    → EveryPacketArrivesIfConnected rule (cells_of facts) (plan_of rule lmc (cells_of facts))
