-- A manager that decides by itself has its plan written before long, whatever it is about at first, if nothing is lost and
-- no other master is there. InfiniBand Architecture Specification, Volume 1: subnet management, subnet manager (sweeping),
-- initialization.
use Rattle.std.specs.Prelude.{◌≡◌, ◌≤◌, ◌<◌, ◌+◌, ◌*◌, ◌^◌, ℕ, true, false, List, ◌∷◌, ◌++◌, Some, None}
use Rattle.lft_blocks.specs.Plan.{PlanValue}
use Rattle.sm_state.specs.declared.state.SmState.TheVariants.{Master}
use Rattle.sm_manager.specs.PlanFaults.{writing_fault}
use Rattle.sm_manager.specs.Writing.{is_written}
use Rattle.sm_policy.specs.Policy.{is_sweeping}
use Rattle.sm_policy.specs.PolicyLaws.{longest_wait}
use Rattle.acting_manager.specs.Acting.{Acting}
use Rattle.acting_manager.specs.Acts.{rival_seen}
use Rattle.acting_manager.specs.Planned.{planned}
use Rattle.acting_manager.specs.Working.{is_idle, is_resting, is_writing}
use Rattle.program_laws.specs.FreshWork.{works}
use Rattle.program_laws.specs.ManagedEnds.{StaysAbout}
use Rattle.program_laws.specs.NextSweep.{HasFewTurns, IsToSweep, begins_sweep}
use Rattle.program_laws.specs.RestTime.{sweeps_by_itself}
use Rattle.program_laws.specs.StandingPlans.{KeepsWritten}
use Rattle.program_laws.specs.Wakes.{ArePrompt, AtEachLine, HasDecided, Line, NoneLeaves, after_line, after_lines, before_deciding}
use Rattle.program_laws.specs.Wakes.{longest_turn}
use Rattle.program_laws.specs.WholeSweeps.{LosesNone, too_far_in}

-- the manager, whose sweep is over, is to judge its plan, if the sweep has every answer: the manager is master, and saw no
-- other; no port leads too far, and the manager did not stand still meanwhile; there is a plan, and its writing would not
-- be refused
pub record SweptWell (a : Acting) : Type 0 where
  pub master : a.policy.state ≡ Master
  pub alone : rival_seen a.manager ≡ None
  pub near : too_far_in a.manager.sweep ≡ 0
  pub fresh : a.policy.is_stale ≡ false
  pub plan : PlanValue
  pub is_planned : planned a.manager ≡ Some plan
  pub unrefused : writing_fault a.manager ≡ None

-- all goes well when the manager is told a line: it gives no request up; if it rests, it is to sweep; if its sweep is over,
-- it is to judge its plan; and `writing_so` is so of what it writes
pub record GoesWellBy (writing_so : Line → Acting → Type 0) (line : Line) (a : Acting) : Type 0 where
  pub none_lost : LosesNone line a
  pub to_sweep : IsToSweep line a
  pub swept : is_idle (before_deciding line a).window ≡ true → is_sweeping (before_deciding line a).policy.activity ≡ true
      → SweptWell (before_deciding line a)
  pub writes : writing_so line a

-- all goes well for a manager that decides by itself, through the lines. It may send each request once at least, one may be
-- out, nobody tells it to leave or has told it, its newest generation fits in 32 bits at first, and times fit in 64 bits
pub record IsUndisturbedBy (writing_so : Line → Acting → Type 0) (n : ℕ) (a : Acting) (lines : List Line) : Type 0 where
  pub decided : HasDecided a
  pub generations : decided.newest < 2 ^ 32
  pub none_left : NoneLeaves decided.lines
  pub first : is_resting a.policy.activity ≡ true → is_idle a.window ≡ true → sweeps_by_itself a ≡ true
  pub well : AtEachLine (GoesWellBy writing_so) lines a
  pub few : HasFewTurns n lines a
  pub tries : 1 ≤ a.window.limits.tries
  pub outstanding : 1 ≤ a.window.limits.outstanding
  pub stays_on : a.is_leaving ≡ false
  pub none_leaves : NoneLeaves lines
  pub time : (after_lines lines a).time < 2 ^ 64

-- if the manager's writing is over, the plan is written
abbrev pub EndsWritten : Line → Acting → Type 0
EndsWritten line a =
    is_idle (before_deciding line a).window ≡ true → is_writing (before_deciding line a).policy.activity ≡ true
    → is_written (before_deciding line a).manager ≡ true

abbrev pub GoesWell : Line → Acting → Type 0
GoesWell = GoesWellBy EndsWritten

abbrev pub AllGoWell : List Line → Acting → Type 0
AllGoWell = AtEachLine (GoesWellBy EndsWritten)

abbrev pub IsUndisturbed : ℕ → Acting → List Line → Type 0
IsUndisturbed = IsUndisturbedBy EndsWritten

-- one of the lines begins a sweep, and a later one, `ends`, ends the work on that. The plan that the manager keeps is then
-- that of its last writing, and is written
pub record Heals (lines : List Line) (a : Acting) : Type 0 where
  pub before : List Line
  pub begins : Line
  pub during : List Line
  pub ends : Line
  pub after : List Line
  pub are : lines ≡ before ++ begins ∷ (during ++ ends ∷ after)
  pub begun : begins_sweep begins (after_lines before a) ≡ true
  pub goes_on : StaysAbout works during (after_line begins (after_lines before a))
  pub over : works (after_line ends (after_lines during (after_line begins (after_lines before a)))).policy.activity ≡ false
  pub written : KeepsWritten (after_line ends (after_lines during (after_line begins (after_lines before a)))).kept
      (after_line ends (after_lines during (after_line begins (after_lines before a)))).manager

-- if all goes well for so long, the manager has swept and has its plan written (`Heals`)
abbrev pub HealsInTime : Type 0
HealsInTime =
    (n : ℕ) (a : Acting) (lines : List Line) (r : IsUndisturbed n a lines) (late : ℕ) → ArePrompt late lines a
    → a.time + 2 * longest_wait r.decided.timing + (6 * (n + 3)) * longest_turn late a.window.limits < (after_lines lines a).time
    → Heals lines a

-- an example: a manager for which all goes well for so long, with no line late
pub record SomeManagerHeals : Type 0 where
  pub bound : ℕ
  pub acting : Acting
  pub lines : List Line
  pub undisturbed : IsUndisturbed bound acting lines
  pub prompt : ArePrompt 0 lines acting
  pub long : acting.time + 2 * longest_wait undisturbed.decided.timing + (6 * (bound + 3)) * longest_turn 0 acting.window.limits
      < (after_lines lines acting).time
