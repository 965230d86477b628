-- A fabric whose switches change their tables while a packet travels. Its wiring does not change. InfiniBand
-- Architecture Specification, Volume 1: switches, unicast forwarding by the linear forwarding table; subnet management,
-- LinearForwardingTable and SwitchInfo (LinearFDBTop), which are written block by block.
use Rattle.std.specs.Prelude.{◌≡◌, ◌≤◌, ◌⊎◌, ℕ, suc, ◌+◌, ◌*◌, List, [], ◌∷◌, length, Some, IsTrue}
use Rattle.fabric_model.specs.declared.cable.NodePort.{NodePort}
use Rattle.fabric_model.specs.declared.course.Course.TheVariants.{Delivers, LeavesBy}
use Rattle.smp_bytes.specs.NodeType.{is_switch}
use Rattle.fabric_model.specs.Fabric.{Node, Fabric, IsEndPort, owns, IsPortNamed}
use Rattle.fabric_model.specs.FabricWalks.{IsJoinedTo}
use Rattle.fabric_model.specs.Forwarding.{Standing, sent_from, arrived_at, course, Hop}
use Rattle.fact_store.specs.View.{Facts, cells_of}
use Rattle.subnet_view.specs.declared.end_port.EndPort.{EndPort}
use Rattle.subnet_view.specs.Reading.{Cells, switches}
use Rattle.subnet_view.specs.FabricAgreement.{Part, IsEndPortIn}
use Rattle.held_tables.specs.declared.held.HeldLid.{HeldLid}
use Rattle.held_tables.specs.Held.{HeldPlan}
use Rattle.packet_walks.specs.declared.cause.Cause.{Cause}
use Rattle.packet_walks.specs.declared.packet_end.End.TheVariants.{Taken, Lost}
use Rattle.packet_walks.specs.declared.next_hop.NextHop.TheVariants.{Ends}
use Rattle.packet_walks.specs.Fabrics.{IsSeenIn}
use Rattle.packet_walks.specs.HopsByTables.{IsBrought}
use Rattle.held_tables.specs.Tables.{counted, entry_for, entry_of, top_of}
use Rattle.next_tables.specs.SettledRule.{step_at}
use Rattle.next_tables.specs.NextTables.{IsKept, StepRuleValue, next_tables, settled_first}

-- the effective entry of the node `number` for `lid`, according to the top and the table of the node's agent in the
-- fabric `now`
abbrev pub entry_now : Fabric → ℕ → ℕ → ℕ
entry_now now lid number = counted lid (now.top number) (now.entry number lid)

-- for `lid`, `entry` is the held or the next entry of switch `g`; or, if the held tables drop the packet at `g`, any
-- entry
abbrev pub IsLooseEntry : Cells → HeldPlan → HeldPlan → ℕ → ℕ → ℕ → Type 0
IsLooseEntry cells held next lid g entry =
    (entry ≡ entry_for held lid g)
    ⊎ ((entry ≡ entry_for next lid g) ⊎ ((x : ℕ) × (cause : Cause) × (step_at cells held lid g ≡ Ends (Lost x cause))))

-- `now` has the nodes and cables of `before`, and an end port of `part` owns `lid` exactly when it owned `lid` in
-- `before`
pub record StandsStill (part : Part) (lid : ℕ) (before now : Fabric) : Type 0 where
  pub nodes : now.nodes ≡ before.nodes
  pub cables : (p : NodePort) → now.across p ≡ before.across p
  pub owners : (port : NodePort) (node : Node) → IsEndPortIn part before port node
      → owns now port lid ≡ owns before port lid

-- `now` has the nodes and cables of `before`, and `lid` has the same owners among the end ports of `part`. For `lid`,
-- each switch of `part` has its held or its next entry; or, if the held tables drop the packet there, any entry
pub record IsInChange (part : Part) (cells : Cells) (held next : HeldPlan) (lid : ℕ) (before now : Fabric) : Type 0
  where
    pub still : StandsStill part lid before now
    pub entries : (port : NodePort) (node : Node) → IsEndPortIn part before port node → IsTrue (is_switch node.kind)
        → IsLooseEntry cells held next lid node.guid (entry_now now lid port.node)

-- each of `fabrics` is in the change from `before` (`IsInChange`); `fabrics k` is the fabric when a packet has passed
-- `k` wires
abbrev pub ChangesMeanwhile : Part → Cells → HeldPlan → HeldPlan → ℕ → Fabric → (ℕ → Fabric) → Type 0
ChangesMeanwhile part cells held next lid before fabrics =
    (k : ℕ) → IsInChange part cells held next lid before (fabrics k)

-- `now` has the nodes and cables of `before`, and `lid` has the same owners among the end ports of `part`. Each
-- switch of `part` has its old or its next top, and its old or its next entry for `lid`; the top and the entry may be
-- written in any order
pub record IsBeingWritten (part : Part) (next : HeldPlan) (lid : ℕ) (before now : Fabric) : Type 0 where
  pub still : StandsStill part lid before now
  pub tops : (port : NodePort) (node : Node) → IsEndPortIn part before port node → IsTrue (is_switch node.kind)
      → (now.top port.node ≡ before.top port.node) ⊎ (now.top port.node ≡ top_of next node.guid)
  pub entries : (port : NodePort) (node : Node) → IsEndPortIn part before port node → IsTrue (is_switch node.kind)
      → (now.entry port.node lid ≡ before.entry port.node lid)
      ⊎ (now.entry port.node lid ≡ entry_of next node.guid lid)

-- a packet for `lid` goes from `s` to `end` along the given wires, one after the other; each node forwards the packet
-- as the fabric is when the packet is there
abbrev pub GoesMeanwhile : (ℕ → Fabric) → ℕ → Standing → List Hop → Standing → Type 0
GoesMeanwhile fabrics lid s [] end = s ≡ end
GoesMeanwhile fabrics lid s (h ∷ hops) end =
    let now = fabrics 0 in
    (course now lid s ≡ LeavesBy h.out) × (now.across h.out ≡ Some h.into)
    × GoesMeanwhile (λ k. fabrics (suc k)) lid (arrived_at h.into) hops end

-- a packet for `lid` from `source` is delivered at `target` along `hops`; each node acts as the fabric is when the
-- packet reaches the node
abbrev pub IsDeliveredMeanwhile : (ℕ → Fabric) → ℕ → NodePort → List Hop → NodePort → Type 0
IsDeliveredMeanwhile fabrics lid source hops target =
    (end : Standing) × GoesMeanwhile fabrics lid (sent_from source) hops end
    × (course (fabrics (length hops)) lid end ≡ Delivers target)

-- a packet for `lid` from `source` is delivered at the end port `e` and nowhere else, along at most `most` wires
pub record ArrivesMeanwhile (fabrics : ℕ → Fabric) (lid : ℕ) (source : NodePort) (e : EndPort) (most : ℕ) : Type 0 where
  pub hops : List Hop
  pub target : NodePort
  pub named : IsPortNamed (fabrics 0) e.node e.port target
  pub delivered : IsDeliveredMeanwhile fabrics lid source hops target
  pub few : length hops ≤ most
  pub nowhere_else : (others : List Hop) (other : NodePort) → IsDeliveredMeanwhile fabrics lid source others other
      → other ≡ target

-- suppose the facts describe all that is joined to the end port `origin`, and at first the end ports and switches
-- there hold the tables. Let a LID other than 0 be held by the end port of `line` alone, in the held tables and in
-- the plan. Then, while switches change, each at its own time, to the next tables by settled entries, a packet for
-- the LID that an end port there sends and that the held tables deliver is delivered along at most 2n + 1 wires,
-- where n is the number of usable switches
abbrev pub PacketsArriveWhileTablesChange : Type 0
PacketsArriveWhileTablesChange =
    (facts : Facts) (held plan : HeldPlan) (line : HeldLid) (before : Fabric) (origin : NodePort)
    → IsEndPort before origin
    → IsSeenIn (IsJoinedTo before origin) (cells_of facts) held before → 1 ≤ line.lid → IsKept held plan line
    → (fabrics : ℕ → Fabric)
    → ChangesMeanwhile (IsJoinedTo before origin) (cells_of facts) held (next_tables (cells_of facts) settled_first held plan)
    line.lid before fabrics
    → (source : NodePort) (node : Node) → IsEndPortIn (IsJoinedTo before origin) before source node
    → IsBrought (cells_of facts) held line.lid (record {
      node = node.guid;
      port =
          source.port;
    }) (Some (Taken line.port))
    → ArrivesMeanwhile fabrics line.lid source line.port (2 * length (switches (cells_of facts)) + 1)

-- if at first the facts describe the part that is joined to `origin`, and the part holds the held tables
-- (`IsSeenIn`), a fabric whose tables are being written is in the change (`IsInChange`) by each rule of steps
abbrev pub WrittenTablesAreInChange : Type 0
WrittenTablesAreInChange =
    (facts : Facts) (rule : StepRuleValue) (held plan : HeldPlan) (lid : ℕ) (before now : Fabric) (origin : NodePort)
    → IsSeenIn (IsJoinedTo before origin) (cells_of facts) held before
    → IsBeingWritten (IsJoinedTo before origin) (next_tables (cells_of facts) rule held plan) lid before now
    → IsInChange (IsJoinedTo before origin) (cells_of facts) held (next_tables (cells_of facts) rule held plan) lid before
    now
