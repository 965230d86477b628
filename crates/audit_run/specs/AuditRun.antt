-- What an audit does with a text of lanes, if it is given, a text of tables, and files: it reads all of them and writes
-- what happens to packets, or returns the fault of an input.
use Rattle.std.specs.Prelude.{◌≡◌, ◌↔◌, ◌⊎◌, ◌++◌, ℕ, Bool, true, false, List, [], ◌∷◌, Option, None, Some, IsTrue}
use Rattle.std.specs.Prelude.{filter}
use Rattle.byte_io.specs.Source.{SourceState}
use Rattle.fact_store.specs.View.{Facts, cells_of}
use Rattle.subnet_view.specs.Reading.{Cells}
use Rattle.held_tables.specs.Held.{HeldPlan}
use Rattle.audit_channels.specs.declared.cycle_text.ChannelKind.TheVariants.{OnOneLane}
use Rattle.audit_channels.specs.CycleText.{cycle_line}
use Rattle.audit_channels.specs.ChannelOrders.{CanRise, IsCycleIfAny, NoneShorter}
use Rattle.audit_channels.specs.Waiting.{WaitsFor}
use Rattle.audit_counts.specs.Figures.{figures_of}
use Rattle.audit_counts.specs.FirstFew.{all_listed}
use Rattle.audit_counts.specs.Ways.{loads_of}
use Rattle.audit_report.specs.Appendix.{appendix_text}
use Rattle.audit_report.specs.AuditText.{findings_text}
use Rattle.audit_report.specs.LineLimit.{most_lines}
use Rattle.audit_report.specs.Passing.{DeliversWithin, EachArrives, EachHasTables, EachHoldsLid}
use Rattle.audit_report.specs.Passing.{EachNodeIsKnown, PassesWithin, is_within}
use Rattle.lanes_file.specs.Lanes.{LanesSaid}
use Rattle.lane_channels.specs.declared.dropped.Dropped.{Dropped}
use Rattle.lane_channels.specs.declared.loops_by_lane.LaneOrder.{LaneOrder}
use Rattle.lane_channels.specs.LaneNetwork.{SeenByLane}
use Rattle.lane_channels.specs.Waiting.{IsDroppedByLane, IsSomeDrop, WaitsByLane}
use Rattle.audit_run.specs.declared.flaw.Flaw.{Flaw}
use Rattle.audit_run.specs.declared.flaw.Flaw.TheVariants.{Missed, Tableless, Unusable, Lidless, Overloaded, Unleveled}
use Rattle.audit_run.specs.declared.flaw.Flaw.TheVariants.{LaneDrop, CreditLoop}
use Rattle.audit_run.specs.declared.lane_findings.LaneFindings.{LaneFindings}
use Rattle.audit_run.specs.LaneText.{lanes_text}
use Rattle.audit_run.specs.LevelsMissing.{missing_levels}
use Rattle.audit_run.specs.VerdictText.{verdict_line}
use Rattle.sm_cli.specs.Fault.{IsOutputFault}
use Rattle.sm_cli.specs.FromText.{IsLanesFault, SaysLanes}
use Rattle.sm_cli.specs.InputTables.{AreNoTextAndTables, AreTextAndTables}
use Rattle.sm_cli.specs.declared.audit_asked.AuditAsked.{AuditAsked}
use Rattle.sm_cli.specs.declared.fault.Fault.{Fault}
use Rattle.sm_cli.specs.declared.input_tables.TextAndTables.{TextAndTables}

-- facts, tables and lanes together
abbrev pub seen_of : Facts → HeldPlan → LanesSaid → SeenByLane
seen_of facts held said = record { seen = record { facts = facts; held = held }; said = said }

-- what is found by lane --------------------------------------------------------------------------

-- a packet that is dropped for want of a lane, and a shortest credit loop by lane, each if there is one. If `answers`
-- is true, packets that answer other packets also have the levels of those packets
pub record IsLaneOrder (s : SeenByLane) (answers : Bool) (order : LaneOrder) : Type 0 where
  pub drop : IsSomeDrop s answers order.dropped
  pub waits : IsCycleIfAny (WaitsByLane s answers) order.cycle.items
  pub shortest : NoneShorter (WaitsByLane s answers) order.cycle.items

-- the findings by lane are right: packets without a service level, at most `most` of them listed; and drops and credit
-- loops without answers and with them
pub record IsFoundByLane (most : ℕ) (s : SeenByLane) (found : LaneFindings) : Type 0 where
  pub missing_are : found.missing ≡ all_listed most (missing_levels s.said (cells_of s.seen.facts) s.seen.held)
  pub order : IsLaneOrder s false found.order
  pub answers : IsLaneOrder s true found.answers

-- if there is a text of lanes, its findings by lane are right; otherwise there are none
abbrev pub AreFoundByLane : ℕ → Facts → HeldPlan → Option LanesSaid → Option LaneFindings → Type 0
AreFoundByLane most facts held None found = found ≡ None
AreFoundByLane most facts held (Some said) None = ⊥
AreFoundByLane most facts held (Some said) (Some found) = IsFoundByLane most (seen_of facts held said) found

-- the line of the credit loop `cycle` on one lane if there are no findings by lane; otherwise the lines of the findings
abbrev pub loops_text : Cells → List ℕ → Option LaneFindings → List ℕ
loops_text cells cycle None = cycle_line cells OnOneLane cycle
loops_text cells cycle (Some found) = lanes_text cells found

-- when tables pass -------------------------------------------------------------------------------

-- the tables pass by lane: they are whole for the facts; packets arrive; each packet between adapters has a service
-- level; no packet is dropped for want of a lane; and channels by lane can be numbered so that numbers rise, both
-- without answers. If there is a bound, no channel has a greater load
pub record PassesByLane (bound : Option ℕ) (s : SeenByLane) : Type 0 where
  pub delivers : DeliversWithin bound (cells_of s.seen.facts) s.seen.held
  pub leveled : missing_levels s.said (cells_of s.seen.facts) s.seen.held ≡ []
  pub carried : (dropped : Dropped) → IsDroppedByLane s false dropped → ⊥
  pub rise : CanRise (WaitsByLane s false)

-- the tables pass: on one lane if there is no text of lanes, otherwise by lane
abbrev pub PassesAudit : Option ℕ → Facts → HeldPlan → Option LanesSaid → Type 0
PassesAudit bound facts held None = PassesWithin bound (cells_of facts) held
PassesAudit bound facts held (Some said) = PassesByLane bound (seen_of facts held said)

-- flaws ------------------------------------------------------------------------------------------

-- each packet between adapters has a service level; nothing is asked without a text of lanes
abbrev pub AreLeveled : Facts → HeldPlan → Option LanesSaid → Type 0
AreLeveled facts held None = Unit {0}
AreLeveled facts held (Some said) = missing_levels said (cells_of facts) held ≡ []

-- no packet is dropped for want of a lane, without answers; nothing is asked without a text of lanes
abbrev pub AreCarried : Facts → HeldPlan → Option LanesSaid → Type 0
AreCarried facts held None = Unit {0}
AreCarried facts held (Some said) = (dropped : Dropped) → IsDroppedByLane (seen_of facts held said) false dropped → ⊥

-- channels can be numbered so that numbers rise: on one lane if there is no text of lanes, otherwise by lane, without
-- answers
abbrev pub NumbersRise : Facts → HeldPlan → Option LanesSaid → Type 0
NumbersRise facts held None = CanRise (WaitsFor (cells_of facts) held)
NumbersRise facts held (Some said) = CanRise (WaitsByLane (seen_of facts held said) false)

-- the tables do not have the flaw
abbrev pub IsFree : Option ℕ → Facts → HeldPlan → Option LanesSaid → Flaw → Type 0
IsFree bound facts held lanes Missed = EachArrives (cells_of facts) held
IsFree bound facts held lanes Tableless = EachHasTables (cells_of facts) held
IsFree bound facts held lanes Unusable = EachNodeIsKnown (cells_of facts)
IsFree bound facts held lanes Lidless = EachHoldsLid (cells_of facts) held
IsFree bound facts held lanes Overloaded = is_within bound (figures_of (loads_of (cells_of facts) held)) ≡ true
IsFree bound facts held lanes Unleveled = AreLeveled facts held lanes
IsFree bound facts held lanes LaneDrop = AreCarried facts held lanes
IsFree bound facts held lanes CreditLoop = NumbersRise facts held lanes

-- all flaws, in the order of the lines that show them
abbrev pub all_flaws : List Flaw
all_flaws =
    Missed ∷ Tableless ∷ Unusable ∷ Lidless ∷ Overloaded ∷ Unleveled ∷ LaneDrop ∷ CreditLoop ∷ []

-- `flaws` are the flaws of which tables are not free, in the order of `all_flaws`
pub record AreFlaws (Free : Flaw → Type 0) (flaws : List Flaw) : Type 0 where
  pub has : Flaw → Bool
  pub each : (flaw : Flaw) → (has flaw ≡ false) ↔ Free flaw
  pub listed : flaws ≡ filter has all_flaws

-- what was found says that each packet between adapters has a service level
abbrev pub IsFoundLeveled : Option LaneFindings → Type 0
IsFoundLeveled None = Unit {0}
IsFoundLeveled (Some found) = found.missing.count ≡ 0

-- what was found says that no packet is dropped for want of a lane, without answers
abbrev pub IsFoundCarried : Option LaneFindings → Type 0
IsFoundCarried None = Unit {0}
IsFoundCarried (Some found) = found.order.dropped ≡ None

-- numbers of channels rise on one lane if there are no findings by lane; otherwise these have no credit loop without
-- answers
abbrev pub IsFoundToRise : Facts → HeldPlan → Option LaneFindings → Type 0
IsFoundToRise facts held None = CanRise (WaitsFor (cells_of facts) held)
IsFoundToRise facts held (Some found) = found.order.cycle.items ≡ []

-- what was found says that the tables do not have the flaw
abbrev pub IsFoundFree : Option ℕ → Facts → HeldPlan → Option LaneFindings → Flaw → Type 0
IsFoundFree bound facts held found Missed = EachArrives (cells_of facts) held
IsFoundFree bound facts held found Tableless = EachHasTables (cells_of facts) held
IsFoundFree bound facts held found Unusable = EachNodeIsKnown (cells_of facts)
IsFoundFree bound facts held found Lidless = EachHoldsLid (cells_of facts) held
IsFoundFree bound facts held found Overloaded = is_within bound (figures_of (loads_of (cells_of facts) held)) ≡ true
IsFoundFree bound facts held found Unleveled = IsFoundLeveled found
IsFoundFree bound facts held found LaneDrop = IsFoundCarried found
IsFoundFree bound facts held found CreditLoop = IsFoundToRise facts held found

-- the lines `before`, and the line of the flaws that were found, are printed, as `prints` says. `passed` says whether
-- there are no flaws
pub record TellsFlaws (bound : Option ℕ) (facts : Facts) (held : HeldPlan) (found : Option LaneFindings)
    (prints : List ℕ → Type 0) (before : List ℕ) (passed : Bool) : Type 0 where
  pub flaws : List Flaw
  pub are : AreFlaws (IsFoundFree bound facts held found) flaws
  pub printed : prints (before ++ verdict_line flaws)
  pub flawless : IsTrue passed ↔ (flaws ≡ [])

-- the run ----------------------------------------------------------------------------------------

-- what an audit finds, the findings by lane, or else a shortest credit loop on one lane if there is one, the lines that
-- `asked` asks for, and the line of all flaws that the tables have are printed, as `prints` says. `passed` says whether
-- there are no flaws, which is whether the tables pass and, if `asked` has a maximum load, no channel has a greater load
pub record IsAudited (asked : AuditAsked) (facts : Facts) (held : HeldPlan) (lanes : Option LanesSaid)
    (prints : List ℕ → Type 0) (passed : Bool) : Type 0 where
  pub cycle : List ℕ
  pub waits : IsCycleIfAny (WaitsFor (cells_of facts) held) cycle
  pub shortest : NoneShorter (WaitsFor (cells_of facts) held) cycle
  pub found : Option LaneFindings
  pub by_lane : AreFoundByLane (most_lines asked.all) facts held lanes found
  pub flaws : List Flaw
  pub are_flaws : AreFlaws (IsFree asked.max_load facts held lanes) flaws
  pub answered : prints
      (findings_text (most_lines asked.all) (cells_of facts) held ++ loops_text (cells_of facts) cycle found
      ++ appendix_text asked (cells_of facts) held ++ verdict_line flaws)
  pub flawless : IsTrue passed ↔ (flaws ≡ [])
  pub judged : IsTrue passed ↔ PassesAudit asked.max_load facts held lanes

-- the lanes, if `asked` says that there are any, the tables and then the files were read, and the text of their audit
-- is printed, as `prints` says. `passed` says whether the tables pass and, if `asked` has a maximum load, no channel
-- has a greater load
pub record HasAudited {S : Type 0} (state : S → SourceState) (asked : AuditAsked) (olds news : List S)
    (prints : List ℕ → Type 0) (passed : Bool) : Type 0 where
  pub told : TextAndTables LanesSaid
  pub read : AreTextAndTables state SaysLanes asked.lanes olds news told
  pub audited : IsAudited asked told.read.store told.read.held told.text prints passed

-- the inputs were read as lanes, if `has_lanes` is true, as tables and as files, and their audit ended with `fault`
pub record FailsToAudit {S : Type 0} (state : S → SourceState) (has_lanes : Bool) (olds news : List S)
    (sink_failed : Bool) (fault : Fault) : Type 0 where
  pub told : TextAndTables LanesSaid
  pub read : AreTextAndTables state SaysLanes has_lanes olds news told
  pub why : IsOutputFault sink_failed fault

-- an audit of open inputs ends with `fault`: the inputs are not read, or their audit fails
abbrev pub IsAuditFault : {S : Type 0} → (S → SourceState) → Bool → List S → List S → Bool → Fault → Type 0
IsAuditFault state has_lanes olds news sink_failed fault =
    AreNoTextAndTables state SaysLanes IsLanesFault has_lanes 0 olds news fault
    ⊎ FailsToAudit state has_lanes olds news sink_failed fault
