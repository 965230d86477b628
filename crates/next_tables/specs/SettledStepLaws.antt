-- Laws of the next tables, for a LID that one end port alone holds in the held tables and in the plan.
use Rattle.std.specs.Prelude.{◌≡◌, ◌≤◌, ℕ, zero, suc, Contains, Some, slice_get}
use Rattle.subnet_view.specs.declared.end_port.EndPort.{EndPort}
use Rattle.subnet_view.specs.Reading.{Cells, switches}
use Rattle.held_tables.specs.declared.held.HeldLid.{HeldLid}
use Rattle.held_tables.specs.Held.{HeldPlan}
use Rattle.packet_walks.specs.declared.packet_end.End.{End}
use Rattle.packet_walks.specs.declared.packet_end.End.TheVariants.{Taken}
use Rattle.packet_walks.specs.declared.next_hop.NextHop.TheVariants.{To, Ends}
use Rattle.held_tables.specs.Tables.{entry_for, owners_of, top_of}
use Rattle.packet_walks.specs.EndsBySwitch.{after}
use Rattle.packet_walks.specs.HopsByTables.{IsBrought, next_hops_of}
use Rattle.next_tables.specs.Mixtures.{IsBroughtBy, IsLoose, IsMixed}
use Rattle.next_tables.specs.SettledRule.{IsNext}
use Rattle.next_tables.specs.NextTables.{IsKept, StepRuleValue, next_at, next_tables, next_top, settled_first}

-- `next` has the plan's owners of each LID and, at each usable switch, the greater of its tops in `held` and in
-- `plan`, and the next entry for each LID
pub record AreNextTables (cells : Cells) (rule : StepRuleValue) (held plan next : HeldPlan) : Type 0 where
  pub owners : (lid : ℕ) → owners_of next lid ≡ owners_of plan lid
  pub tops : (g : ℕ) → Contains (switches cells) g → top_of next g ≡ next_top held plan g
  pub entries : (g lid : ℕ) → Contains (switches cells) g → entry_for next lid g
      ≡ next_at cells rule held plan lid g

-- the tables of `next_tables` have the plan's owners of each LID and, at each usable switch, the greater of its tops
-- in the held tables and in the plan, and the next entries
abbrev pub NextTablesAreSo : Type 0
NextTablesAreSo =
    (cells : Cells) (rule : StepRuleValue) (held plan : HeldPlan)
    → AreNextTables cells rule held plan (next_tables cells rule held plan)

-- the next tables by settled entries have the next entries for a LID that the same end port alone holds in the held
-- tables and in the plan
abbrev pub StepsFollowTheRule : Type 0
StepsFollowTheRule = (cells : Cells) (held plan : HeldPlan) (line : HeldLid) → IsKept held plan line
    → IsNext cells held plan line (next_tables cells settled_first held plan)

-- if the end port of `line` alone holds the LID in the held tables and in the plan, a packet that the held tables
-- deliver at this end port is delivered there under any loose mixtures (`IsLoose`) of the held tables and the next
-- ones by settled entries
abbrev pub StepsLoseNone : Type 0
StepsLoseNone =
    (cells : Cells) (held plan : HeldPlan) (line : HeldLid) → IsKept held plan line
    → (mixed : ℕ → HeldPlan) → ((k : ℕ) → IsLoose cells held (next_tables cells settled_first held plan) line.lid (mixed k))
    → (source : EndPort) → IsBrought cells held line.lid source (Some (Taken line.port))
    → IsBroughtBy cells mixed line.lid source (Taken line.port)

-- if the same end port alone holds a LID in the held tables and in the plan, a packet for the LID that does not loop
-- under the held tables does not loop under any mixtures of the held tables and the next ones by settled entries
abbrev pub StepsSendNoneRound : Type 0
StepsSendNoneRound =
    (cells : Cells) (held plan : HeldPlan) (line : HeldLid) → IsKept held plan line
    → (mixed : ℕ → HeldPlan) → ((k : ℕ) → IsMixed cells held (next_tables cells settled_first held plan) line.lid (mixed k))
    → (source : EndPort) (end : End) → IsBrought cells held line.lid source (Some end) → (last : End)
    × IsBroughtBy cells mixed line.lid source last

-- the tables after `n` steps by settled entries from `held` towards `plan`
abbrev pub stepped : Cells → HeldPlan → HeldPlan → ℕ → HeldPlan
stepped cells plan held zero = held
stepped cells plan held (suc n) = next_tables cells settled_first (stepped cells plan held n) plan

-- if the end port of `line` alone holds the LID in the held tables and in the plan, a switch from which the plan
-- delivers after n hops has the plan's entry after n or more steps by settled entries
abbrev pub StepsEndInThePlan : Type 0
StepsEndInThePlan =
    (cells : Cells) (held plan : HeldPlan) (line : HeldLid) → IsKept held plan line
    → (i g n m : ℕ) → slice_get (switches cells) i ≡ Some g → after n (next_hops_of cells plan line.lid) (To i)
    ≡ Ends (Taken line.port) → n ≤ m
    → entry_for (stepped cells plan held m) line.lid g ≡ entry_for plan line.lid g

-- if the end port of `line` alone holds the LID in the held tables and in the plan, a packet that the plan delivers
-- at this end port is delivered there under the tables after two steps by settled entries
abbrev pub StepsHealInTwo : Type 0
StepsHealInTwo =
    (cells : Cells) (held plan : HeldPlan) (line : HeldLid) → IsKept held plan line
    → (source : EndPort) → IsBrought cells plan line.lid source (Some (Taken line.port))
    → IsBrought cells (stepped cells plan held 2) line.lid source (Some (Taken line.port))
