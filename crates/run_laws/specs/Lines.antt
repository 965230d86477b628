-- Managers that took in the same sightings print the same facts and plans. What `written`, `progress` and `silent` say.
use Rattle.lft_blocks.specs.Planning.{Planning}
use Rattle.std.specs.Prelude.{◌≡◌, ◌↔◌, ◌<◌, ◌^◌, ℕ, true, List, [], ◌∷◌, ◌++◌, length, slice_get, Some}
use Rattle.topo_file.specs.Topology.{Layout}
use Rattle.schedule_file.specs.Schedule.{Script}
use Rattle.schedule_file.specs.Resolve.{SeatCommand}
use Rattle.schedule_file.specs.declared.command.Command.TheVariants.{Merge, Show}
use Rattle.schedule_file.specs.declared.command.Shown.TheVariants.{Facts, Plan, Progress, Silent, Written}
use Rattle.fact_store.specs.Seen.{HaveSameMembers}
use Rattle.sweep.specs.Sweep.{IsSweep, Sweep}
use Rattle.sm_manager.specs.declared.progress.Progress.TheVariants.{Done}
use Rattle.sm_manager.specs.Writing.{is_written}
use Rattle.manager_laws.specs.Complete.{IsWhole}
use Rattle.schedule_lines.specs.Lines.{progress_line, silent_line, written_line}
use Rattle.schedule_run.specs.Commands.{after_commands, shown_of}
use Rattle.schedule_run.specs.RunText.{script_text}
use Rattle.schedule_run.specs.World.{SeatedValue, WorldValue}
use Rattle.run_laws.specs.Accounts.{account_after, world_after}

-- the schedule `script` with `lines` after it
abbrev pub and_lines : Script → List SeatCommand → Script
and_lines script lines = record script { commands = script.commands ++ lines }

-- lines after a schedule leave its output as it is, and add what they print in the world that the schedule leaves
abbrev pub LaterLinesComeBehind : Type 0
LaterLinesComeBehind =
    (planning : Planning) (topology : Layout) (script : Script) (lines : List SeatCommand)
    → script_text planning topology (and_lines script lines)
    ≡ script_text planning topology script
    ++ (after_commands topology.nodes (world_after planning topology script) lines).text

-- two managers, each in the given world, print the same facts and the same plan
pub record TellTheSame (one other : WorldValue) (seat seat' : ℕ) : Type 0 where
  pub facts : shown_of one seat Facts ≡ shown_of other seat' Facts
  pub plan : shown_of one seat Plan ≡ shown_of other seat' Plan

-- if two managers, of one run or of two with the same rule of routing and LMC, took in the same sightings, in any
-- order and each any number of times, and have the same greatest floor, they print the same facts and plan
abbrev pub SameTakenInSameLines : Type 0
SameTakenInSameLines =
    (planning : Planning) (topology topology' : Layout) (script script' : Script) (seat seat' : ℕ) → seat
    < length script.seats → seat' < length script'.seats
    → HaveSameMembers (account_after planning topology script seat).told
    (account_after planning topology' script' seat').told
    → (account_after planning topology script seat).floor ≡ (account_after planning topology' script' seat').floor
    → TellTheSame (world_after planning topology script) (world_after planning topology' script') seat seat'

-- if the lines `plan` of two managers come after a schedule, they print the same text twice
pub record PrintsPlansAlike (planning : Planning) (topology : Layout) (script : Script) (seat other : ℕ) : Type 0 where
  pub plan : List ℕ
  pub twice :
      script_text planning topology (and_lines script (Show seat Plan ∷ Show other Plan ∷ []))
      ≡ script_text planning topology script ++ (plan ++ plan)

-- if two managers of a run took in the same sightings and have the same greatest floor, their plans are printed alike
abbrev pub SameTakenInPlansAlike : Type 0
SameTakenInPlansAlike =
    (planning : Planning) (topology : Layout) (script : Script) (seat other : ℕ) → seat < length script.seats → other
    < length script.seats
    → HaveSameMembers (account_after planning topology script seat).told
    (account_after planning topology script other).told
    → (account_after planning topology script seat).floor ≡ (account_after planning topology script other).floor
    → PrintsPlansAlike planning topology script seat other

-- the plans of two managers of a run are printed alike once each has merged what the other knows
abbrev pub MergedManagersPlanAlike : Type 0
MergedManagersPlanAlike =
    (planning : Planning) (topology : Layout) (script : Script) (seat other : ℕ) → seat < length script.seats → other
    < length script.seats
    → PrintsPlansAlike planning topology (and_lines script (Merge seat other ∷ Merge other seat ∷ [])) seat other

-- `written` prints `yes` exactly when the manager's plan counts as written at that moment
abbrev pub WrittenLinesTell : Type 0
WrittenLinesTell =
    (w : WorldValue) (seat : ℕ) (s : SeatedValue) → slice_get w.managers seat ≡ Some s
    → (shown_of w seat Written ≡ written_line (Some s.name) true) ↔ (is_written s.manager ≡ true)

-- `progress` and `silent` print that the manager's sweep is done, with `unanswered` requests without an answer, all of
-- them to managers, and that no request was left out because its path was too long
pub record SayAllAnswered (w : WorldValue) (seat : ℕ) (name : List ℕ) (unanswered : ℕ) : Type 0 where
  pub few : unanswered < 2 ^ 64
  pub progress : shown_of w seat Progress ≡ progress_line (Some name) (Done unanswered 0)
  pub silent : shown_of w seat Silent ≡ silent_line (Some name) (Some unanswered)

-- `progress` and `silent` print that all but managers answered (`SayAllAnswered`) exactly when the manager's last
-- sweep has every answer at that moment
abbrev pub SweepLinesTell : Type 0
SweepLinesTell =
    (w : WorldValue) (seat : ℕ) (s : SeatedValue) (sweep : Sweep) → slice_get w.managers seat ≡ Some s
    → s.manager.sweep ≡ Some sweep → IsSweep sweep
    → ((unanswered : ℕ) × SayAllAnswered w seat s.name unanswered) ↔ IsWhole sweep
