-- The laws of steps, from the laws of tables that have the next entries.
use Rattle.std.proofs.Common.{ℕ, zero, suc, ◌∙◌}
use Rattle.subnet_view.specs.Reading.{Cells}
use Rattle.held_tables.specs.declared.held.HeldLid.{HeldLid}
use Rattle.held_tables.specs.Held.{HeldPlan}
use Rattle.next_tables.specs.Mixtures.{AreSteps}
use Rattle.next_tables.specs.NextTables.{IsKept, next_tables, settled_first}
use Rattle.next_tables.specs.SettledStepLaws.{stepped, NextTablesAreSo, StepsFollowTheRule, StepsLoseNone, StepsSendNoneRound, StepsEndInThePlan, StepsHealInTwo}
use Rattle.next_tables.proofs.Steps.{none_is_lost, none_goes_round, end_in_the_plan, heal_in_two}
use Rattle.next_tables.proofs.Whole.{entry_next, is_next, kept_owners, owners_next, top_next}

pub next_tables_are_so : NextTablesAreSo
next_tables_are_so cells rule held plan = record {
  owners = owners_next cells rule held plan;
  tops = top_next cells rule held plan;
  entries = entry_next cells rule held plan;
}

pub steps_follow_the_rule : StepsFollowTheRule
steps_follow_the_rule cells held plan line kept = is_next cells held plan line kept

pub steps_lose_none : StepsLoseNone
steps_lose_none cells held plan line kept =
    none_is_lost cells held plan (next_tables cells settled_first held plan) line (kept_owners cells held plan line kept) (is_next cells held plan line kept)

pub steps_send_none_round : StepsSendNoneRound
steps_send_none_round cells held plan line kept =
    none_goes_round cells held plan (next_tables cells settled_first held plan) line (kept_owners cells held plan line kept) (is_next cells held plan line kept)

module _ (cells : Cells) (held plan : HeldPlan) (line : HeldLid) (kept : IsKept held plan line) where
  -- the end port keeps the LID
  keeps_on : (n : ℕ) → IsKept (stepped cells plan held n) plan line
  keeps_on zero = kept
  keeps_on (suc n) = record {
    in_plan = kept.in_plan;
    in_held = owners_next cells settled_first (stepped cells plan held n) plan line.lid ∙ kept.in_plan;
  }

  are_steps : AreSteps cells plan line (stepped cells plan held)
  are_steps = record {
    owners = kept_owners cells held plan line kept;
    steps = λ n. is_next cells (stepped cells plan held n) plan line (keeps_on n);
  }

pub steps_end_in_the_plan : StepsEndInThePlan
steps_end_in_the_plan cells held plan line kept = end_in_the_plan cells plan line (stepped cells plan held) (are_steps cells held plan line kept)

pub steps_heal_in_two : StepsHealInTwo
steps_heal_in_two cells held plan line kept = heal_in_two cells plan line (stepped cells plan held) (are_steps cells held plan line kept)
