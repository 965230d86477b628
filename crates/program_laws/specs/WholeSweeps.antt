-- A sweep of a manager that decides by itself has every answer if nothing was given up while it ran. InfiniBand
-- Architecture Specification, Volume 1: subnet management, topology discovery.
use Rattle.std.specs.Prelude.{◌≡◌, ◌<◌, ◌^◌, ℕ, Bool, true, false, List, [], ◌∷◌, ◌++◌, Option, Some, None}
use Rattle.std.specs.List.{list_any}
use Rattle.sweep.specs.Sweep.{Sweep}
use Rattle.sm_policy.specs.Policy.{is_sweeping}
use Rattle.acting_manager.specs.Acting.{Acting}
use Rattle.acting_manager.specs.Acts.{is_whole}
use Rattle.acting_manager.specs.Working.{after_told, is_idle}
use Rattle.acting_manager.specs.declared.note.Note.{Note}
use Rattle.acting_manager.specs.declared.note.Note.TheVariants.{GivenUp}
use Rattle.program_laws.specs.ManagedEnds.{StaysAbout}
use Rattle.program_laws.specs.NextSweep.{begins_sweep}
use Rattle.program_laws.specs.Wakes.{AtEachLine, HasDecided, IsNoLeave, Line, NoneLeaves, after_line, after_lines, before_deciding}

-- whether a note tells that a request has no answer, or one that it refuses
abbrev pub tells_loss : Note → Bool
tells_loss (GivenUp packet) = true
tells_loss note = false

-- by the line the manager notes no request that it gave up
abbrev pub LosesNone : Line → Acting → Type 0
LosesNone line a = list_any tells_loss (after_told line.0 line.1 a).notes ≡ false

-- so it is of each of the lines
abbrev pub NothingGivenUp : List Line → Acting → Type 0
NothingGivenUp = AtEachLine LosesNone

-- the number of ports that lead too far for the sweep; 0 if there is no sweep
abbrev pub too_far_in : Option Sweep → ℕ
too_far_in None = 0
too_far_in (Some s) = s.too_far

-- the manager that decides by itself in `first` is told the line `begins`, by which it becomes `a`: it has no request
-- left, and begins to sweep. It sweeps through the lines `during`, and is then told the line `ends`, at which it has no
-- request left, so that its sweep is over. Nobody tells it to leave. Its newest generation fits in 32 bits at first
pub record SweepsThrough (first : Acting) (begins : Line) (a : Acting) (during : List Line) (ends : Line) : Type 0 where
  pub decided : HasDecided first
  pub generations : decided.newest < 2 ^ 32
  pub none_left : NoneLeaves decided.lines
  pub stays : IsNoLeave begins.1
  pub leads : after_line begins first ≡ a
  pub decides : is_idle (before_deciding begins first).window ≡ true
  pub sweeps : is_sweeping a.policy.activity ≡ true
  pub goes_on : StaysAbout is_sweeping during a
  pub none_leaves : NoneLeaves during
  pub remains : IsNoLeave ends.1
  pub over : is_idle (before_deciding ends (after_lines during a)).window ≡ true

-- let a manager that decides by itself sweep, from the beginning to the end, and give no request up. Then the sweep has
-- every answer, if no port leads too far
abbrev pub AnsweredSweepsAreWhole : Type 0
AnsweredSweepsAreWhole =
    (first : Acting) (begins : Line) (a : Acting) (during : List Line) (ends : Line)
    → SweepsThrough first begins a during ends → NothingGivenUp (during ++ ends ∷ []) a
    → too_far_in (before_deciding ends (after_lines during a)).manager.sweep ≡ 0
    → is_whole (before_deciding ends (after_lines during a)).manager ≡ true

-- each sweep that one of the lines begins is whole when it is over: it has every answer but those of managers, and no port leads
-- too far
abbrev pub SweepsAreWhole : List Line → Acting → Type 0
SweepsAreWhole lines a =
    (before : List Line) (begins : Line) (during : List Line) (ends : Line) (after : List Line)
    → lines ≡ before ++ begins ∷ (during ++ ends ∷ after) → begins_sweep begins (after_lines before a) ≡ true
    → StaysAbout is_sweeping during (after_line begins (after_lines before a))
    → is_idle (before_deciding ends (after_lines during (after_line begins (after_lines before a)))).window ≡ true
    → is_whole (before_deciding ends (after_lines during (after_line begins (after_lines before a)))).manager ≡ true
