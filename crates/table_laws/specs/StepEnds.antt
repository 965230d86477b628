-- When repeated steps of whole tables towards a plan end: `next` prints what it was given.
use Rattle.std.specs.Prelude.{◌≡◌, ◌≤◌, ◌+◌, ◌*◌, ℕ, zero, suc, Contains, List, [], ◌∷◌, Some, length}
use Rattle.fact_store.specs.View.{Facts, cells_of, AreInRange}
use Rattle.subnet_view.specs.Reading.{Cells, switches}
use Rattle.lid_assign.specs.Lids.{IsNoRoom, lids, top_of as greatest_of}
use Rattle.lft_blocks.specs.Plan.{plan_of}
use Rattle.lft_blocks.specs.PlanText.{plan_text}
use Rattle.lft_blocks.specs.Rule.{RuleValue}
use Rattle.held_tables.specs.declared.held.HeldLid.{HeldLid}
use Rattle.held_tables.specs.Held.{HeldPlan}
use Rattle.plan_tables.specs.PlanTables.{held_plan, planned}
use Rattle.tables_file.specs.Reading.{held_of}
use Rattle.held_tables.specs.Tables.{owners_of, top_of}
use Rattle.packet_walks.specs.declared.packet_end.End.TheVariants.{Taken}
use Rattle.packet_walks.specs.declared.next_hop.NextHop.TheVariants.{To, Ends}
use Rattle.packet_walks.specs.HopsByTables.{next_hops_of}
use Rattle.packet_walks.specs.EndsBySwitch.{after}
use Rattle.next_tables.specs.NextTables.{IsKept}
use Rattle.next_tables.specs.SettledStepLaws.{stepped as settled}
use Rattle.next_run.specs.NextRun.{step_text}

-- if some tables deliver from a switch to the end port that alone holds a LID in these tables and in the plan, the plan
-- delivers from that switch too
abbrev pub DeliversWhatTablesCan : Cells → HeldPlan → Type 0
DeliversWhatTablesCan cells plan =
    (tables : HeldPlan) (line : HeldLid) → IsKept tables plan line
    → (i n : ℕ) → after n (next_hops_of cells tables line.lid) (To i) ≡ Ends (Taken line.port)
    → (m : ℕ) × (after m (next_hops_of cells plan line.lid) (To i) ≡ Ends (Taken line.port))

-- no route of the plan to an end port that alone holds a LID passes more than `most` switches
abbrev pub MeetAtMost : Cells → HeldPlan → ℕ → Type 0
MeetAtMost cells plan most =
    (line : HeldLid) → owners_of plan line.lid ≡ line.port ∷ []
    → (i m : ℕ) → after m (next_hops_of cells plan line.lid) (To i) ≡ Ends (Taken line.port)
    → after most (next_hops_of cells plan line.lid) (To i) ≡ Ends (Taken line.port)

-- if a plan delivers what tables can, and no route of it passes more than `most` switches, then after `most` or more
-- steps by settled entries, and at least two, a step changes nothing
abbrev pub StepsEnd : Type 0
StepsEnd =
    (cells : Cells) (held plan : HeldPlan) (most n : ℕ) → DeliversWhatTablesCan cells plan → MeetAtMost cells plan most
    → most ≤ n → 2 ≤ n
    → settled cells plan held (suc n) ≡ settled cells plan held n

-- if facts are in range and have room, their plan delivers what tables can (`DeliversWhatTablesCan`)
abbrev pub PlansDeliverWhatTablesCan : Type 0
PlansDeliverWhatTablesCan =
    (rule : RuleValue) (lmc : ℕ) (facts : Facts) → AreInRange facts → ¬ (IsNoRoom lmc (cells_of facts))
    → DeliversWhatTablesCan (cells_of facts) (held_plan (plan_of rule lmc (cells_of facts)))

-- if the given number of steps by `next` is not 0, the text that the last of these steps prints; otherwise `text`
-- itself. The first step is from the tables of `text`, and each later step from those of the text that the step
-- before it printed
abbrev pub printed : ℕ → RuleValue → Facts → List ℕ → ℕ → List ℕ
printed lmc rule facts text zero = text
printed lmc rule facts text (suc n) = step_text lmc rule facts (held_of (printed lmc rule facts text n))

-- n steps are enough: n is at least `most` + 2m + 2, where m is the number of usable switches; `most` is at least 2;
-- and no route of the plan passes more than `most` switches
pub record AreEnough (rule : RuleValue) (lmc : ℕ) (facts : Facts) (n : ℕ) : Type 0 where
  pub most : ℕ
  pub meet : MeetAtMost (cells_of facts) (planned lmc rule facts) most
  pub two : 2 ≤ most
  pub enough : most + 2 * length (switches (cells_of facts)) + 2 ≤ n

-- if the facts are in range and have room, the LMC is at most 7, and n steps are enough (`AreEnough`), step n + 1
-- prints what step n printed, byte for byte
abbrev pub PrintedStepsEnd : Type 0
PrintedStepsEnd =
    (rule : RuleValue) (lmc : ℕ) (facts : Facts) (text : List ℕ) (n : ℕ) → lmc ≤ 7 → AreInRange facts
    → ¬ (IsNoRoom lmc (cells_of facts)) → AreEnough rule lmc facts n
    → printed lmc rule facts text (suc n) ≡ printed lmc rule facts text n

-- no route of a plan passes more switches than there are usable switches
abbrev pub WaysMeetAtMostAll : Type 0
WaysMeetAtMostAll = (cells : Cells) (plan : HeldPlan) → MeetAtMost cells plan (length (switches cells))

-- suppose the facts are in range and have room, the LMC is at most 7, the plan gives a LID, and no usable switch has
-- a top in the tables of `text` above the plan's greatest LID. Then after enough steps (`AreEnough`), `next` prints
-- what `plan` prints
abbrev pub LastTextIsThePlans : Type 0
LastTextIsThePlans =
    (rule : RuleValue) (lmc : ℕ) (facts : Facts) (text : List ℕ) (n top : ℕ) → lmc ≤ 7 → AreInRange facts
    → ¬ (IsNoRoom lmc (cells_of facts)) → greatest_of (lids lmc (cells_of facts)) ≡ Some top
    → ((g : ℕ) → Contains (switches (cells_of facts)) g → top_of (held_of text) g ≤ top)
    → AreEnough rule lmc facts n
    → printed lmc rule facts text n ≡ plan_text (plan_of rule lmc (cells_of facts))
