-- A plan that counts as standing is written. InfiniBand Architecture Specification, Volume 1: subnet management,
-- initialization.
use Rattle.std.specs.Prelude.{◌≡◌, Bool, true, false, List, Option, Some, None}
use Rattle.std.specs.List.{list_any}
use Rattle.lft_blocks.specs.Plan.{PlanValue}
use Rattle.sm_manager.specs.CallLists.{Call, after_calls}
use Rattle.sm_manager.specs.Manager.{Manager}
use Rattle.sm_manager.specs.PlanFaults.{writing_fault}
use Rattle.sm_manager.specs.StepsAnswered.{BeginNone}
use Rattle.sm_manager.specs.Writing.{after_write_steps, is_written}
use Rattle.sm_policy.specs.PolicyLaws.{MayJudge}
use Rattle.sm_policy.specs.declared.comparison.Comparison.TheVariants.{Same}
use Rattle.acting_manager.specs.Acting.{Acting}
use Rattle.acting_manager.specs.Acts.{is_whole, rival_seen}
use Rattle.acting_manager.specs.Planned.{compared, planned}
use Rattle.acting_manager.specs.Working.{after_told, is_writing}
use Rattle.acting_manager.specs.declared.note.Note.{Note}
use Rattle.acting_manager.specs.declared.note.Note.TheVariants.{Settled}
use Rattle.manager_laws.specs.WritingEnds.{HasLived}
use Rattle.program_laws.specs.Wakes.{HasDecided, Line, before_deciding}

-- the last writing of the manager `m` is of `plan`: it began in `before`, some time in the manager's life, when `plan` was
-- the plan of the manager's facts, and no other writing has begun since
pub record IsLastWritten (plan : PlanValue) (m : Manager) : Type 0 where
  pub before : Manager
  pub lived : HasLived before
  pub begins : writing_fault before ≡ None
  pub planned : planned before ≡ Some plan
  pub calls : List Call
  pub no_other : BeginNone calls (after_write_steps before)
  pub are : after_calls calls (after_write_steps before) ≡ m

-- the plan that a manager keeps is that of its last writing, and is written: each of the writing's steps that count was
-- answered with status 0
pub record KeepsWritten (kept : Option PlanValue) (m : Manager) : Type 0 where
  pub plan : PlanValue
  pub is_kept : kept ≡ Some plan
  pub last : IsLastWritten plan m
  pub written : is_written m ≡ true

-- let a plan stand for a manager that decides by itself, and let it be about no writing. Then the plan that it keeps is
-- written (`KeepsWritten`), whatever it was told, but to leave
abbrev pub StandingPlansAreWritten : Type 0
StandingPlansAreWritten =
    (a : Acting) → HasDecided a → a.is_leaving ≡ false
    → a.policy.written.stands ≡ true → is_writing a.policy.activity ≡ false
    → KeepsWritten a.kept a.manager

-- settling ------------------------------------------------------------------------------------------------

-- whether a note tells that nothing is left to write
abbrev pub tells_settled : Note → Bool
tells_settled (Settled ports) = true
tells_settled note = false

-- what is so of a manager that has nothing left to write once its sweep is over
pub record HasSettled (a : Acting) : Type 0 where
  -- it may judge its plan: it is master, and alone, and has every answer or waits for those that lack no longer
  pub may : MayJudge a.time (is_whole a.manager) (rival_seen a.manager) a.policy
  -- the plan of its facts
  pub plan : PlanValue
  pub is_planned : planned a.manager ≡ Some plan
  -- this is the plan that it wrote last
  pub same : compared a.kept plan ≡ Same
  -- and that is written
  pub written : KeepsWritten a.kept a.manager

-- let a manager that decides by itself note by a line that nothing is left to write. Then what its last sweep saw has the
-- plan that it wrote last, and this is written (`HasSettled`)
abbrev pub SettlesWhenWritten : Type 0
SettlesWhenWritten =
    (a : Acting) (line : Line) → HasDecided a → list_any tells_settled (after_told line.0 line.1 a).notes ≡ true
    → HasSettled (before_deciding line a)
