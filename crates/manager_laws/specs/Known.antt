-- When a manager has swept, and when it knows one sweep, in a run.
use Rattle.std.specs.Prelude.{◌≡◌, ◌↔◌, ℕ, true, false, List, [], ◌∷◌, ◌++◌, None}
use Rattle.fact_store.specs.View.{cells_of}
use Rattle.sm_manager.specs.Manager.{begin_fault}
use Rattle.manager_laws.specs.Managing as one
use Rattle.manager_laws.specs.WritingPings.{BeginsNoSweep}
use Rattle.manager_laws.specs.Masters.{Seated, Masters, MastersEvent, AllAlong, Around, At, IsAt, seen_by, after_masters_events}

-- the manager at index `which` begins a sweep at some moment of the run
pub record BeganSweep (t : Masters) (events : List MastersEvent) (which : ℕ) : Type 0 where
  pub before : List MastersEvent
  pub between : List MastersEvent
  pub events_are : events ≡ before ++ At which one.Begin ∷ between
  pub then : Seated
  pub there : IsAt (after_masters_events before t) which then
  pub begins : begin_fault then.manager ≡ None

-- by the event, the manager at index `which` begins no sweep, merges no facts of others, and is given no floor above
-- its own
abbrev pub LearnsNothingElse : ℕ → Masters → MastersEvent → Type 0
LearnsNothingElse which t (Around event) = Unit {0}
LearnsNothingElse which t (At other event) =
    which ≡ other → (m : Seated) → IsAt t which m → BeginsNoSweep (seen_by t.scene m) event

-- in these events, the manager at index `which` begins no sweep, merges no facts of others, and is given no floor above
-- its own
abbrev pub LearnNothingElse : ℕ → List MastersEvent → Masters → Type 0
LearnNothingElse which = AllAlong (LearnsNothingElse which)

-- in the run, the manager at index `which` began a sweep while it held no facts. After that, it began no other sweep,
-- merged no facts of others, and was given no floor above its own
pub record LearntFromOne (t : Masters) (events : List MastersEvent) (which : ℕ) : Type 0 where
  pub swept : BeganSweep t events which
  pub knew_nothing : cells_of swept.then.manager.store ≡ []
  pub alone : LearnNothingElse which swept.between (after_masters_events (swept.before ++ At which one.Begin ∷ []) t)

-- a manager that knew no sweep at first knows one at the end of a run exactly when it learned only from one of the
-- run's sweeps
abbrev pub KnowsOneSweepMeans : Type 0
KnowsOneSweepMeans =
    (t : Masters) (events : List MastersEvent) (which : ℕ) (m later : Seated) → IsAt t which m
    → m.knows_one_sweep ≡ false → IsAt (after_masters_events events t) which later
    → (later.knows_one_sweep ≡ true) ↔ LearntFromOne t events which

-- a manager that had not swept at first has swept at the end of a run exactly when it began a sweep in this run
abbrev pub HasSweptMeans : Type 0
HasSweptMeans =
    (t : Masters) (events : List MastersEvent) (which : ℕ) (m later : Seated) → IsAt t which m
    → m.has_swept ≡ false → IsAt (after_masters_events events t) which later
    → (later.has_swept ≡ true) ↔ BeganSweep t events which
