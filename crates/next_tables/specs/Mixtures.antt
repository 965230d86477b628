-- What becomes of packets while switches change from the held tables to the next tables, each block at its own time.
use Rattle.std.specs.Prelude.{◌≡◌, ◌≤◌, ◌<◌, ◌⊎◌, ℕ, zero, suc, List, Contains, Option, Some, slice_get, slice_index_or}
use Rattle.port_graph.specs.declared.edge.Edge.{Edge}
use Rattle.audit_channels.specs.ChannelOrders.{IsCycle}
use Rattle.audit_channels.specs.Column.{TakesAcross}
use Rattle.subnet_view.specs.declared.end_port.EndPort.{EndPort}
use Rattle.subnet_view.specs.Reading.{Cells, switches}
use Rattle.held_tables.specs.declared.held.HeldLid.{HeldLid}
use Rattle.held_tables.specs.Held.{HeldPlan}
use Rattle.packet_walks.specs.declared.cause.Cause.{Cause}
use Rattle.packet_walks.specs.declared.packet_end.End.{End}
use Rattle.packet_walks.specs.declared.packet_end.End.TheVariants.{Taken, Lost}
use Rattle.packet_walks.specs.declared.next_hop.NextHop.{NextHop}
use Rattle.packet_walks.specs.declared.next_hop.NextHop.TheVariants.{To, Ends}
use Rattle.packet_walks.specs.Edges.{edges_of}
use Rattle.held_tables.specs.Switches.{sender_of}
use Rattle.held_tables.specs.Tables.{owners_of, entry_for}
use Rattle.packet_walks.specs.EndsBySwitch.{IsEndOf, after, onward}
use Rattle.packet_walks.specs.HopsByTables.{IsBrought, first_hop, next_hops_of}
use Rattle.next_tables.specs.SettledRule.{step_at, IsNext}

-- `mixed` has for `lid`, at each usable switch, the effective entry of `held` or of `next`, and the owners of `held`
pub record IsMixed (cells : Cells) (held next : HeldPlan) (lid : ℕ) (mixed : HeldPlan) : Type 0 where
  pub owners : owners_of mixed lid ≡ owners_of held lid
  pub entries : (g : ℕ) → Contains (switches cells) g → (entry_for mixed lid g ≡ entry_for held lid g)
      ⊎ (entry_for mixed lid g ≡ entry_for next lid g)

-- the hop that is reached from the hop `s` by `n` steps; step number `k`, counted from 0, goes along the next hops
-- `steps k`
abbrev pub after_by : ℕ → (ℕ → List NextHop) → NextHop → NextHop
after_by zero steps s = s
after_by (suc n) steps s = after_by n (λ k. steps (suc k)) (onward (steps 0) s)

-- the packet that `e` sends for `lid` ends at `end` under tables that change; `tables k` are the tables when the
-- packet has passed `k` switches
abbrev pub IsBroughtBy : Cells → (ℕ → HeldPlan) → ℕ → EndPort → End → Type 0
IsBroughtBy cells tables lid e end =
    (n : ℕ) × (after_by n (λ k. next_hops_of cells (tables k) lid)
    (first_hop (owners_of (tables 0) lid) (sender_of cells e)) ≡ Ends end)

-- for `lid`, `mixed` has the owners of `held` and, at each usable switch, the entry of `held` or of `next`. If the
-- held tables drop the packet at a switch, the switch may have any entry, since its top may be raised before its
-- blocks are written
pub record IsLoose (cells : Cells) (held next : HeldPlan) (lid : ℕ) (mixed : HeldPlan) : Type 0 where
  pub owners : owners_of mixed lid ≡ owners_of held lid
  pub entries : (g : ℕ) → Contains (switches cells) g
      → (entry_for mixed lid g ≡ entry_for held lid g)
      ⊎ ((entry_for mixed lid g ≡ entry_for next lid g)
      ⊎ ((x : ℕ) × (cause : Cause) × (step_at cells held lid g ≡ Ends (Lost x cause))))

-- if the LID has the same owners in the plan and in the held tables, and `next` has the next entries for the LID, a
-- packet that the held tables deliver at the end port of `line` is delivered there under any loose mixtures
-- (`IsLoose`) of the held and the next tables
abbrev pub NoneIsLost : Type 0
NoneIsLost =
    (cells : Cells) (held plan next : HeldPlan) (line : HeldLid) → owners_of plan line.lid ≡ owners_of held line.lid
    → IsNext cells held plan line next
    → (mixed : ℕ → HeldPlan) → ((k : ℕ) → IsLoose cells held next line.lid (mixed k))
    → (source : EndPort) → IsBrought cells held line.lid source (Some (Taken line.port))
    → IsBroughtBy cells mixed line.lid source (Taken line.port)

-- if the LID has the same owners in the plan and in the held tables, and `next` has the next entries for the LID,
-- each switch delivers a packet for the LID under the next tables, or has the entry 255
abbrev pub NextDeliverOrDrop : Type 0
NextDeliverOrDrop =
    (cells : Cells) (held plan next : HeldPlan) (line : HeldLid) → owners_of plan line.lid ≡ owners_of held line.lid
    → IsNext cells held plan line next
    → (i g : ℕ) → slice_get (switches cells) i ≡ Some g
    → (entry_for next line.lid g ≡ 255) ⊎ IsEndOf (next_hops_of cells next line.lid) (To i) (Some (Taken line.port))

-- if the LID has the same owners in the plan and in the held tables, and `next` has the next entries for the LID, a
-- packet for the LID that does not loop under the held tables does not loop under any mixtures of the held and the
-- next tables
abbrev pub NoneGoesRound : Type 0
NoneGoesRound =
    (cells : Cells) (held plan next : HeldPlan) (line : HeldLid) → owners_of plan line.lid ≡ owners_of held line.lid
    → IsNext cells held plan line next → (mixed : ℕ → HeldPlan) → ((k : ℕ) → IsMixed cells held next line.lid (mixed k))
    → (source : EndPort) (end : End) → IsBrought cells held line.lid source (Some end) → (last : End)
    × IsBroughtBy cells mixed line.lid source last

-- for the LID of `line`, `tables n` are the tables after n steps towards the plan, and the first tables have the plan's
-- owners of the LID
pub record AreSteps (cells : Cells) (plan : HeldPlan) (line : HeldLid) (tables : ℕ → HeldPlan) : Type 0 where
  pub owners : owners_of plan line.lid ≡ owners_of (tables 0) line.lid
  pub steps : (n : ℕ) → IsNext cells (tables n) plan line (tables (suc n))

-- in steps towards a plan, if the plan delivers a packet for the LID of `line` from a switch after n hops, the switch
-- has the plan's entry after n or more steps
abbrev pub EndInThePlan : Type 0
EndInThePlan =
    (cells : Cells) (plan : HeldPlan) (line : HeldLid) (tables : ℕ → HeldPlan) → AreSteps cells plan line tables
    → (i g n m : ℕ) → slice_get (switches cells) i ≡ Some g → after n (next_hops_of cells plan line.lid) (To i)
    ≡ Ends (Taken line.port) → n ≤ m
    → entry_for (tables m) line.lid g ≡ entry_for plan line.lid g

-- if a LID has the same owners in the plan and in the held tables, and a step changes no entry for the LID, each
-- switch from which the plan delivers has the plan's entry for the LID
abbrev pub StillIsThePlan : Type 0
StillIsThePlan =
    (cells : Cells) (held plan : HeldPlan) (line : HeldLid) → owners_of plan line.lid ≡ owners_of held line.lid
    → IsNext cells held plan line held
    → (i g n : ℕ) → slice_get (switches cells) i ≡ Some g → after n (next_hops_of cells plan line.lid) (To i)
    ≡ Ends (Taken line.port)
    → entry_for held line.lid g ≡ entry_for plan line.lid g

-- in steps towards a plan, each packet for the LID of `line` that arrives under the plan arrives under the tables
-- after two steps
abbrev pub HealInTwo : Type 0
HealInTwo =
    (cells : Cells) (plan : HeldPlan) (line : HeldLid) (tables : ℕ → HeldPlan) → AreSteps cells plan line tables
    → (source : EndPort) → IsBrought cells plan line.lid source (Some (Taken line.port))
    → IsBrought cells (tables 2) line.lid source (Some (Taken line.port))

-- a packet leaves some switch on `channel`, along that switch's edge in `before`, and then leaves the next switch on
-- `next`, along the next switch's edge in `now`
abbrev pub TakesBy : List (Option Edge) → List (Option Edge) → ℕ → ℕ → Type 0
TakesBy before now channel next = (switch : ℕ) × TakesAcross before now switch channel next

-- a packet takes channel `a` and then `b`, each by an edge of `held` or of `next`
abbrev pub TakesInStep : List (Option Edge) → List (Option Edge) → ℕ → ℕ → Type 0
TakesInStep held next a b =
    TakesBy held held a b ⊎ (TakesBy held next a b ⊎ (TakesBy next held a b ⊎ TakesBy next next a b))

-- channel `a` waits for channel `b`: packets for `lid` that took `a` under the tables `before` take `b` next under
-- the tables `now`
abbrev pub WaitsAcross : Cells → HeldPlan → HeldPlan → ℕ → ℕ → ℕ → Type 0
WaitsAcross cells before now lid a b = TakesBy (edges_of cells before lid) (edges_of cells now lid) a b

-- packets for `lid` take channel `a` and then channel `b`, each under the held or the next tables
abbrev pub WaitsInStep : Cells → HeldPlan → HeldPlan → ℕ → ℕ → ℕ → Type 0
WaitsInStep cells held next lid a b = TakesInStep (edges_of cells held lid) (edges_of cells next lid) a b

-- if a channel waits for another for `lid` while tables change from one mixture to another, packets for `lid` take
-- each of the two channels along an edge of the held or of the next tables
abbrev pub MixturesWaitSo : Type 0
MixturesWaitSo =
    (cells : Cells) (held next before now : HeldPlan) (lid : ℕ) → IsMixed cells held next lid before
    → IsMixed cells held next lid now
    → (a b : ℕ) → WaitsAcross cells before now lid a b → WaitsInStep cells held next lid a b

-- in a step, the number of each channel is less than the number of each channel that it waits for, for every LID,
-- whether or not a port holds the LID
abbrev pub RiseInStep : Cells → HeldPlan → HeldPlan → List ℕ → Type 0
RiseInStep cells held next numbers =
    (lid a b : ℕ) → 1 ≤ lid → WaitsInStep cells held next lid a b → slice_index_or numbers a 0
    < slice_index_or numbers b 0

-- channel `a` waits for channel `b`: for some LID, packets that took `a` by one mixture of the held and the next
-- tables take `b` next under a mixture, perhaps another
pub record WaitsMixed (cells : Cells) (held next : HeldPlan) (a b : ℕ) : Type 0 where
  pub lid : ℕ
  pub is_lid : 1 ≤ lid
  pub before : HeldPlan
  pub now : HeldPlan
  pub before_is : IsMixed cells held next lid before
  pub now_is : IsMixed cells held next lid now
  pub waits : WaitsAcross cells before now lid a b

-- if numbers of channels rise in a step, channels never wait in a credit loop, whatever the mixtures
abbrev pub NoCycleInStep : Type 0
NoCycleInStep =
    (cells : Cells) (held next : HeldPlan) (numbers : List ℕ) → RiseInStep cells held next numbers
    → (cycle : List ℕ) → ¬ (IsCycle (WaitsMixed cells held next) cycle)
