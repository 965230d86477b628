-- The laws of a step by an order of switches: no credit loop, no lost packet, and an end in the goal.
use Rattle.std.specs.Prelude.{◌≡◌, ◌≤◌, ◌<◌, ◌⊎◌, ℕ, suc, ◌+◌, ◌*◌, true, List, Some, length, slice_get}
use Rattle.fabric_model.specs.declared.cable.NodePort.{NodePort}
use Rattle.fabric_model.specs.Fabric.{Node, Fabric, IsEndPort}
use Rattle.fabric_model.specs.FabricWalks.{IsJoinedTo}
use Rattle.fact_store.specs.View.{Facts, cells_of}
use Rattle.subnet_view.specs.FabricAgreement.{IsEndPortIn}
use Rattle.packet_walks.specs.Fabrics.{IsSeenIn}
use Rattle.next_tables.specs.ChangingFabric.{ArrivesMeanwhile, ChangesMeanwhile}
use Rattle.subnet_view.specs.declared.end_port.EndPort.{EndPort}
use Rattle.subnet_view.specs.Reading.{Cells, switches}
use Rattle.held_tables.specs.declared.held.HeldLid.{HeldLid}
use Rattle.held_tables.specs.Held.{HeldPlan}
use Rattle.audit_channels.specs.ChannelOrders.{IsCycle}
use Rattle.packet_walks.specs.declared.packet_end.End.{End}
use Rattle.packet_walks.specs.declared.packet_end.End.TheVariants.{Taken}
use Rattle.packet_walks.specs.declared.next_hop.NextHop.TheVariants.{To, Ends}
use Rattle.held_tables.specs.Tables.{owners_of, entry_for}
use Rattle.packet_walks.specs.EndsBySwitch.{IsEndOf}
use Rattle.packet_walks.specs.HopsByTables.{IsBrought, next_hops_of}
use Rattle.next_tables.specs.Mixtures.{IsBroughtBy, IsLoose, IsMixed, RiseInStep, WaitsMixed}
use Rattle.next_tables.specs.SettledRule.{step_at}
use Rattle.next_tables.specs.NextTables.{IsKept, by_order, next_tables, ordered_for}
use Rattle.next_tables.specs.OrderRule.{IsChoice, IsNextByOrder, IsTriedByOrder, numbers_by}
use Rattle.next_tables.specs.SwitchPositions.{IsOrder, AreApart, IsWired, Leads, is_up, switch_at, TurnsWell, AreRight, position_at}

-- if the held tables and the goal are right by the order for `lid`, and `next` is a choice between them, no packet
-- for `lid` goes down and then up, whatever the mixture is when the packet reaches a switch and whatever the mixture
-- is when the packet leaves the switch
abbrev pub NoBadTurn : Type 0
NoBadTurn =
    (cells : Cells) (q : ℕ → ℕ) (held goal next : HeldPlan) (lid : ℕ) → AreRight cells q held lid
    → AreRight cells q goal lid → IsChoice cells q held goal lid next
    → (before now : HeldPlan) → IsMixed cells held next lid before → IsMixed cells held next lid now
    → TurnsWell cells q before now lid

-- if the held tables and the goal are right by the order for `lid`, and `next` is a choice between them, `next` is
-- right by the order for `lid` too
abbrev pub NextAreRight : Type 0
NextAreRight =
    (cells : Cells) (q : ℕ → ℕ) (held goal next : HeldPlan) (lid : ℕ) → AreRight cells q held lid
    → AreRight cells q goal lid → IsChoice cells q held goal lid next → AreRight cells q next lid

-- `q` is an order, the held tables and the goal are right by `q` for every LID, and `next` is a choice between them
pub record IsStep (cells : Cells) (q : ℕ → ℕ) (held goal next : HeldPlan) : Type 0 where
  pub order : IsOrder cells q
  pub held_right : (lid : ℕ) → 1 ≤ lid → AreRight cells q held lid
  pub goal_right : (lid : ℕ) → 1 ≤ lid → AreRight cells q goal lid
  pub choice : (lid : ℕ) → 1 ≤ lid → IsChoice cells q held goal lid next

-- in a step by an order, the channels' numbers by the order (`numbers_by`) rise from each channel to the channels that
-- it waits for, whatever the mixtures are
abbrev pub NumbersRiseByOrder : Type 0
NumbersRiseByOrder =
    (cells : Cells) (q : ℕ → ℕ) (held goal next : HeldPlan) → IsStep cells q held goal next
    → RiseInStep cells held next (numbers_by cells q)

-- in a step by an order, channels never wait in a credit loop, whatever the mixtures are
abbrev pub NoCycleByOrder : Type 0
NoCycleByOrder =
    (cells : Cells) (q : ℕ → ℕ) (held goal next : HeldPlan) → IsStep cells q held goal next
    → (cycle : List ℕ) → ¬ (IsCycle (WaitsMixed cells held next) cycle)

-- the next entries by the order are a choice between the held tables and the goal (`IsChoice`)
abbrev pub RuleIsChoice : Type 0
RuleIsChoice =
    (cells : Cells) (q : ℕ → ℕ) (held goal next : HeldPlan) (line : HeldLid) → IsNextByOrder cells q held goal line next
    → IsChoice cells q held goal line.lid next

-- the next entries by the order are the tried entries or, at a switch from which the packet does not arrive along
-- these, 255
abbrev pub RuleIsTried : Type 0
RuleIsTried =
    (cells : Cells) (q : ℕ → ℕ) (held goal next : HeldPlan) (line : HeldLid) → IsNextByOrder cells q held goal line next
    → IsTriedByOrder cells q held goal line next

-- for the LID of `line`, the held tables and the goal are right by the order `q` and have the same owners. The next
-- entries are the tried ones; at a switch from which the packet does not arrive along these, 255 is possible too
pub record IsLineStep (cells : Cells) (q : ℕ → ℕ) (held goal : HeldPlan) (line : HeldLid) (next : HeldPlan) : Type 0
  where
    pub order : IsOrder cells q
    pub owners : owners_of goal line.lid ≡ owners_of held line.lid
    pub held_right : AreRight cells q held line.lid
    pub goal_right : AreRight cells q goal line.lid
    pub is_next : IsTriedByOrder cells q held goal line next

-- in a step of a line by an order (`IsLineStep`), a packet that the held tables deliver at the end port is delivered
-- there under any loose mixtures of the held and the next tables, even if the mixture changes while the packet
-- travels
abbrev pub NoneIsLostByOrder : Type 0
NoneIsLostByOrder =
    (cells : Cells) (q : ℕ → ℕ) (held goal next : HeldPlan) (line : HeldLid) → IsLineStep cells q held goal line next
    → (mixed : ℕ → HeldPlan) → ((k : ℕ) → IsLoose cells held next line.lid (mixed k))
    → (source : EndPort) → IsBrought cells held line.lid source (Some (Taken line.port))
    → IsBroughtBy cells mixed line.lid source (Taken line.port)

-- `tables` deliver a packet for the LID of `line` from the switch at index `i` at the port of `line`
abbrev pub DeliverFrom : Cells → HeldPlan → HeldLid → ℕ → Type 0
DeliverFrom cells tables line i = IsEndOf (next_hops_of cells tables line.lid) (To i) (Some (Taken line.port))

-- `tables n` are the tables for the LID of `line` after n steps by the order `q` towards a goal. Two different
-- switches that a wire joins never have equal positions. The first tables and the goal are right by the order, and
-- have the same owners of the LID. If a switch forwards packets under the first tables to a switch from which the
-- goal delivers, the goal delivers from the former switch too
pub record AreStepsByOrder (cells : Cells) (q : ℕ → ℕ) (goal : HeldPlan) (line : HeldLid) (tables : ℕ → HeldPlan)
    : Type 0 where
  pub order : IsOrder cells q
  pub apart : AreApart cells q
  pub owners : owners_of goal line.lid ≡ owners_of (tables 0) line.lid
  pub held_right : AreRight cells q (tables 0) line.lid
  pub goal_right : AreRight cells q goal line.lid
  pub covers : (i j : ℕ) → Leads cells (tables 0) line.lid i j → DeliverFrom cells goal line j
      → DeliverFrom cells goal line i
  pub steps : (n : ℕ) → IsTriedByOrder cells q (tables n) goal line (tables (suc n))

-- `depth` bounds the number of steps after which a switch has the goal's entry. It is at least 1, and greater than
-- the depth of the next switch under the goal, if the goal delivers from there. If the goal's entry leads up, it is
-- also greater than the depth of each earlier switch with a wire to this one from which the goal delivers
pub record IsDepth (cells : Cells) (q : ℕ → ℕ) (goal : HeldPlan) (line : HeldLid) (depth : ℕ → ℕ) : Type 0 where
  pub first : (i : ℕ) → 1 ≤ depth i
  pub next : (i j : ℕ) → Leads cells goal line.lid i j → DeliverFrom cells goal line j → depth j < depth i
  pub earlier : (i j x : ℕ) → Leads cells goal line.lid i j → is_up q i j ≡ true → x < length (switches cells)
      → DeliverFrom cells goal line x → q x < q i → IsWired cells x i → depth x < depth i

-- in steps by an order, a switch from which the goal delivers has the goal's entry after at least as many steps as
-- the switch's depth (`IsDepth`), and the tables then deliver from this switch
abbrev pub EndInTheGoal : Type 0
EndInTheGoal =
    (cells : Cells) (q : ℕ → ℕ) (goal : HeldPlan) (line : HeldLid) (tables : ℕ → HeldPlan)
    → AreStepsByOrder cells q goal line tables
    → (depth : ℕ → ℕ) → IsDepth cells q goal line depth
    → (i g m : ℕ) → slice_get (switches cells) i ≡ Some g → DeliverFrom cells goal line i → depth i ≤ m
    → (entry_for (tables m) line.lid g ≡ entry_for goal line.lid g) × DeliverFrom cells (tables m) line i

-- in steps by an order, a switch from which the goal delivers has the goal's entry after 2n or more steps, where n is
-- the number of switches, and the tables then deliver from this switch
abbrev pub EndInTwiceAsMany : Type 0
EndInTwiceAsMany =
    (cells : Cells) (q : ℕ → ℕ) (goal : HeldPlan) (line : HeldLid) (tables : ℕ → HeldPlan)
    → AreStepsByOrder cells q goal line tables
    → (i g m : ℕ) → slice_get (switches cells) i ≡ Some g → DeliverFrom cells goal line i
    → 2 * length (switches cells) ≤ m
    → (entry_for (tables m) line.lid g ≡ entry_for goal line.lid g) × DeliverFrom cells (tables m) line i

-- in steps by an order, each packet that arrives under the goal arrives after 2n or more steps, where n is the number
-- of switches
abbrev pub HealByOrder : Type 0
HealByOrder =
    (cells : Cells) (q : ℕ → ℕ) (goal : HeldPlan) (line : HeldLid) (tables : ℕ → HeldPlan)
    → AreStepsByOrder cells q goal line tables
    → (source : EndPort) → IsBrought cells goal line.lid source (Some (Taken line.port))
    → (m : ℕ) → 2 * length (switches cells) ≤ m
    → IsBrought cells (tables m) line.lid source (Some (Taken line.port))

-- suppose each step by an order takes exactly the next entries, and the goal delivers from each switch from which the
-- first tables send packets straight to the end port. Then the tables after 2n or more steps (at least one), where n
-- is the number of switches, are right by each order by which the goal is right
abbrev pub EndRightByAny : Type 0
EndRightByAny =
    (cells : Cells) (q : ℕ → ℕ) (goal : HeldPlan) (line : HeldLid) (tables : ℕ → HeldPlan)
    → AreStepsByOrder cells q goal line tables
    → ((n : ℕ) → IsNextByOrder cells q (tables n) goal line (tables (suc n)))
    → ((i : ℕ) → i < length (switches cells) → step_at cells (tables 0) line.lid (switch_at cells i)
    ≡ Ends (Taken line.port) → DeliverFrom cells goal line i)
    → (other : ℕ → ℕ) → AreRight cells other goal line.lid
    → (m : ℕ) → 1 ≤ m → 2 * length (switches cells) ≤ m → AreRight cells other (tables m) line.lid

-- if the held tables and the goal are right by the order for `lid`, and `next` is a choice between them, a packet for
-- `lid`, wherever it is sent, ends under any mixtures of the held and the next tables, and does not loop forever
abbrev pub AllEndByOrder : Type 0
AllEndByOrder =
    (cells : Cells) (q : ℕ → ℕ) (held goal next : HeldPlan) (lid : ℕ) → IsOrder cells q → AreRight cells q held lid
    → AreRight cells q goal lid → IsChoice cells q held goal lid next
    → (mixed : ℕ → HeldPlan) → ((k : ℕ) → IsMixed cells held next lid (mixed k))
    → (source : EndPort) → (last : End) × IsBroughtBy cells mixed lid source last

-- if a LID has the same owners in the held tables and in the goal, each switch delivers a packet for the LID under
-- the next tables of a step by an order, or has the entry 255
abbrev pub NextDeliverOrDropByOrder : Type 0
NextDeliverOrDropByOrder =
    (cells : Cells) (q : ℕ → ℕ) (held goal next : HeldPlan) (line : HeldLid)
    → owners_of goal line.lid ≡ owners_of held line.lid → IsNextByOrder cells q held goal line next
    → (i g : ℕ) → slice_get (switches cells) i ≡ Some g
    → (entry_for next line.lid g ≡ 255) ⊎ DeliverFrom cells next line i

-- `next` has the goal's owners and, for each LID, the next entries by the order `q`
pub record AreNextByOrder (cells : Cells) (q : ℕ → ℕ) (held goal next : HeldPlan) : Type 0 where
  pub owners : (lid : ℕ) → owners_of next lid ≡ owners_of goal lid
  pub entries : (i g lid : ℕ) → slice_get (switches cells) i ≡ Some g
      → entry_for next lid g ≡ ordered_for cells q held goal lid (owners_of goal lid) i g

-- if the held tables and the goal are right by the order for every LID, the next tables by the order are a step, and
-- are right by the order for every LID
abbrev pub AllAreStep : Type 0
AllAreStep =
    (cells : Cells) (q : ℕ → ℕ) (held goal next : HeldPlan) → IsOrder cells q
    → ((lid : ℕ) → 1 ≤ lid → AreRight cells q held lid) → ((lid : ℕ) → 1 ≤ lid → AreRight cells q goal lid)
    → AreNextByOrder cells q held goal next
    → IsStep cells q held goal next × ((lid : ℕ) → 1 ≤ lid → AreRight cells q next lid)

-- for a LID that one end port alone holds in the held tables and in the goal, the next tables by the order have the
-- next entries towards that end port
abbrev pub AllFollowTheRule : Type 0
AllFollowTheRule =
    (cells : Cells) (q : ℕ → ℕ) (held goal next : HeldPlan) (line : HeldLid) → AreNextByOrder cells q held goal next
    → IsKept held goal line → IsNextByOrder cells q held goal line next

-- suppose the facts describe all that is joined to the end port `origin`, at first the end ports and switches there
-- hold the tables, and the LID of `line` is not 0. Then in a step of a line by an order (`IsLineStep`), while
-- switches change to the next tables, each at its own time, a packet that an end port there sends and that the held
-- tables deliver at the port of `line` is delivered there along at most 2n + 1 wires, where n is the number of usable
-- switches
abbrev pub PacketsArriveByOrder : Type 0
PacketsArriveByOrder =
    (facts : Facts) (q : ℕ → ℕ) (held goal next : HeldPlan) (line : HeldLid) (before : Fabric) (origin : NodePort)
    → IsEndPort before origin
    → IsSeenIn (IsJoinedTo before origin) (cells_of facts) held before → 1 ≤ line.lid
    → IsLineStep (cells_of facts) q held goal line next
    → (fabrics : ℕ → Fabric)
    → ChangesMeanwhile (IsJoinedTo before origin) (cells_of facts) held next line.lid before fabrics
    → (source : NodePort) (node : Node) → IsEndPortIn (IsJoinedTo before origin) before source node
    → IsBrought (cells_of facts) held line.lid (record {
      node = node.guid;
      port =
          source.port;
    }) (Some (Taken line.port))
    → ArrivesMeanwhile fabrics line.lid source line.port (2 * length (switches (cells_of facts)) + 1)

-- the tables that `next_tables` gives by an order have the goal's owners and the next entries by that order
abbrev pub OrderedTablesAreNext : Type 0
OrderedTablesAreNext =
    (facts : Facts) (positions : List ℕ) (held goal : HeldPlan)
    → AreNextByOrder (cells_of facts) (position_at positions) held goal
    (next_tables (cells_of facts) (by_order positions) held goal)
