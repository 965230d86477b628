-- What a manager that decides by itself does each time that it is told something, as events of the manager that stands
-- for it.
use Rattle.std.proofs.Common.{◌≡◌, ◌∙◌, ◌<◌, ◌^◌, ◌++◌, ℕ, arith, Bool, true, false, List, [], ◌∷◌, None, refl, sym, ap, subst}
use Rattle.std.specs.List.{AllByRecursion}
use Rattle.std.specs.Prelude.{Contains, if◌then◌else◌}
use Rattle.sm_state.specs.Standing.{one_more}
use Rattle.sm_manager.specs.CallLists.{Call, after_call}
use Rattle.sm_manager.specs.Manager.{Manager, after_raise_floor, begin_fault, emptied}
use Rattle.sm_manager.specs.PlanFaults.{writing_fault}
use Rattle.sm_policy.specs.declared.activity.Activity.TheVariants.{Sweeps, Writes}
use Rattle.request_window.specs.Window.{Window}
use Rattle.request_window.specs.declared.out.Out.{Out}
use Rattle.acting_manager.specs.Acting.{Acting, caught_up}
use Rattle.acting_manager.specs.Acts.{acted, is_whole}
use Rattle.acting_manager.specs.Working.{Told, given_away, is_idle, is_writing, sent, taken, told_time}
use Rattle.manager_laws.specs.Managing as managing
use Rattle.manager_laws.specs.Managing.{CanBe, Managing, ManagerEvent, after_manager_event, after_manager_events}
use Rattle.program_laws.specs.Deciding.{Deciding, StandsFor, telling}
use Rattle.program_laws.specs.ManagedWritings.{IsQuiet}
use Rattle.program_laws.proofs.managed.Calm.{Calm, NoMore, as_before, calmly, caught, is_ready}
use Rattle.program_laws.proofs.managed.Calm as calm
use Rattle.program_laws.proofs.managed.Going.{Going, Goes, IsAllowed, catches_up, readied, readies, sends, takes, tells_time}
use Rattle.program_laws.proofs.managed.Going as going
use Rattle.program_laws.proofs.managed.Staged.{Tells, can_be, called, events_call, events_of, printed_too, staged}
use Rattle.program_laws.proofs.managed.Outcomes.{MayPlan, Outcome, acts, may_still}

-- turns --------------------------------------------------------------------------------------------

-- quiet events lead from `w` to `v`
pub record QuietlyTo (w v : Managing) : Type 0 where
  pub events : List ManagerEvent
  pub can_be : AllByRecursion (CanBe w.seat) events
  pub quiet : AllByRecursion IsQuiet events
  pub leads : after_manager_events events w ≡ v
  pub seat : v.seat ≡ w.seat

-- it begins nothing
pub record QuietTurn (w : Managing) (d d' : Deciding) : Type 0 where
  pub to : Managing
  pub leads : QuietlyTo w to
  pub stands : StandsFor to d'
  pub calm : Calm d.acting d'.acting

abbrev pub swept_by : ℕ → Managing → Managing
swept_by n w = after_manager_event (after_manager_event w (managing.Raise n)) managing.Begin

-- it raises its floor above the newest generation and, if it is about a sweep then, begins one
pub record SweepTurn (w : Managing) (d d' : Deciding) : Type 0 where
  pub at : Managing
  pub leads : QuietlyTo w at
  pub to : Managing
  pub goes_on : QuietlyTo (swept_by (one_more d.acting.newest) at) to
  pub stands : StandsFor to d'
  pub newest : d'.acting.newest ≡ one_more d.acting.newest
  pub begins : d'.acting.policy.activity ≡ Sweeps → begin_fault (after_raise_floor at.manager (one_more d.acting.newest)) ≡ None
  pub no_writing : is_writing d'.acting.policy.activity ≡ false
  pub stood : d'.acting.policy.written.stands ≡ true → d'.acting.policy.activity ≡ Sweeps

abbrev pub written_by : Managing → Managing
written_by w = after_manager_event w managing.Write

-- it was about a sweep, and begins to write
pub record WriteTurn (w : Managing) (d d' : Deciding) : Type 0 where
  pub at : Managing
  pub leads : QuietlyTo w at
  pub to : Managing
  pub goes_on : QuietlyTo (written_by at) to
  pub stands : StandsFor to d'
  pub newest : d'.acting.newest ≡ d.acting.newest
  pub swept : d.acting.policy.activity ≡ Sweeps
  pub begins : writing_fault at.manager ≡ None
  pub writes : d'.acting.policy.activity ≡ Writes
  pub given : d'.acting.manager ≡ emptied (written_by at).manager
  pub may : MayPlan (is_whole at.manager) d'.acting.policy

pub data Turn (w : Managing) (d d' : Deciding) : Type 0 where
  Quietly : QuietTurn w d d' → Turn w d d'
  Sweeping : SweepTurn w d d' → Turn w d d'
  Writing : WriteTurn w d d' → Turn w d d'

-- quiet steps --------------------------------------------------------------------------------------

module _ (what : Told) (which : ℕ) where
  quiet_events : (calls : List Call) → AllByRecursion (IsAllowed what) calls → AllByRecursion IsQuiet (events_of which calls)
  quiet_events [] a = tt
  quiet_events (Call.BeginSweep ∷ calls) a = absurd a.0
  quiet_events (Call.WriteSteps ∷ calls) a = absurd a.0
  quiet_events (Call.Take ∷ calls) a = (tt, quiet_events calls a.1)
  quiet_events (Call.Packet bytes from ∷ calls) a = (tt, quiet_events calls a.1)
  quiet_events (Call.Timeout transaction ∷ calls) a = (tt, quiet_events calls a.1)
  quiet_events (Call.Raise floor ∷ calls) a = absurd a.0
  quiet_events (Call.Merge floor sightings ∷ calls) a = absurd a.0
  quiet_events (Call.Poll lid ∷ calls) a = (tt, quiet_events calls a.1)
  quiet_events (Call.Handover ∷ calls) a = (tt, quiet_events calls a.1)
  quiet_events (Call.Yield ∷ calls) a = (tt, quiet_events calls a.1)
  quiet_events (Call.Rediscover ∷ calls) a = (tt, quiet_events calls a.1)

  quietly : (w : Managing) → Tells what which w → (calls : List Call) → AllByRecursion (IsAllowed what) calls → QuietlyTo w (called calls w)
  quietly w t calls a = record {
    events = events_of which calls;
    can_be = can_be what which w calls a;
    quiet = quiet_events calls a;
    leads = events_call what which w t calls a w.manager w.out;
    seat = refl;
  }

  -- the manager that stands for it makes a call
  called_to : (w : Managing) (d : Deciding) (r c : Acting) (m : Manager) → StandsFor w (record d { acting = r }) → m ≡ c.manager → r.window ≡ c.window
      → r.ready ≡ c.ready → c.newest < 2 ^ 32 → StandsFor (record w { manager = m }) (record d { acting = c })
  called_to w d r c m s manager window ready newest = record {
    scene = s.scene;
    seat = s.seat;
    manager = manager;
    printed = s.printed;
    held = record {
      queued = subst (λ (x : Window). AllByRecursion (Contains w.out) x.queued) window s.held.queued;
      outs = subst (λ (x : Window). AllByRecursion (λ (out : Out). Contains w.out out.request) x.outs) window s.held.outs;
      ready = subst (AllByRecursion (Contains w.out)) ready s.held.ready;
    };
    newest = newest;
  }

  -- what is told -----------------------------------------------------------------------------------

  module _ (w : Managing) (d : Deciding) (time : ℕ) (s : StandsFor w d) (t : Tells what which w) where
    abbrev a : Acting
    a = d.acting

    -- as it decides
    abbrev r : Acting
    r = readied (taken what (told_time time a))

    first : Going what a r
    first =
        let b = told_time time a in
        going.thus what a b r (tells_time what time a)
        (going.thus what b (taken what b) r (takes what what refl b) (readies what (taken what b))) s.newest

    abbrev ready : Managing
    ready = called first.calls w

    ready_stands : StandsFor ready (record d { acting = r })
    ready_stands = staged w d what a r s first

    ready_calm : Calm a r
    ready_calm = is_ready time what a

    small : r.newest < 2 ^ 32
    small = first.newest

    -- what follows
    follows : (v : Managing) → Tells what which v → (c b : Acting) → StandsFor v (record d { acting = c }) → (g : Going what c b)
        → (to : Managing) × QuietlyTo v to × StandsFor to (record d { acting = given_away b; printed = d.printed ++ b.ready })
    follows v tv c b sv g = (
      called g.calls v,
      quietly v tv g.calls g.allowed,
      printed_too (called g.calls v) d b (staged v d what c b sv g),
    )

    abbrev finished : Acting → Acting
    finished c = sent (caught_up c)

    finishes : (c : Acting) → Goes what c (finished c)
    finishes c = going.thus what c (caught_up c) (finished c) (catches_up what c) (sends what (caught_up c))

    after_finish : (c : Acting) → calm.CatchesUp c (finished c)
    after_finish c =
        let up = caught c in
        let out = calm.sends (caught_up c) in
        record {
          course = record {
            activity = ap (λ p. p.activity) out.policy ∙ up.course.activity;
            gaps = ap (λ p. p.gaps) out.policy ∙ up.course.gaps;
            timing = ap (λ p. p.timing) out.policy ∙ up.course.timing;
            stands = λ e. up.course.stands (sym (ap (λ p. p.written.stands) out.policy) ∙ e);
          };
          manager = out.manager ∙ up.manager;
          newest = out.newest ∙ up.newest;
        }

    abbrev told_by : Acting → Deciding
    told_by b = record d { acting = given_away b; printed = d.printed ++ b.ready }

    quiet_turn : (b : Acting) → Goes what r b → Calm r b → Turn w d (told_by b)
    quiet_turn b goes calm_so =
        let g = going.thus what a r b (λ h. first) goes s.newest in
        let (to, leads, stands) = follows w t a b s g in
        let so = calm.thus a r b ready_calm calm_so in
        Quietly (record { to = to; leads = leads; stands = stands; calm = record { activity = so.activity; newest = so.newest; stands = so.stands } })

    -- it acted
    by_outcome : (c : Acting) → Outcome what r c → Turn w d (told_by (finished c))
    by_outcome c (Outcome.Quietly goes calm_so) =
        let end = after_finish c in
        quiet_turn (finished c) (going.thus what r c (finished c) goes (finishes c))
        (calm.thus r c (finished c) calm_so (calmly c (finished c) end.course.activity end.newest end.course.stands))
    by_outcome c (Outcome.Sweeping o) =
        let end = after_finish c in
        let few : c.newest < 2 ^ 32 = subst (λ n. n < 2 ^ 32) o.newest (omega arith) in
        let v = swept_by (one_more r.newest) ready in
        let sv = called_to ready d r c v.manager ready_stands
        (ap (λ m. after_call (after_raise_floor m (one_more r.newest)) Call.BeginSweep) ready_stands.manager ∙ o.manager) o.window o.ready few in
        let (to, later, stands) = follows v t c (finished c) sv (finishes c few) in
        let same : r.newest ≡ a.newest = ready_calm.newest in
        Sweeping (record {
          at = ready;
          leads = quietly w t first.calls first.allowed;
          to = to;
          goes_on = subst (λ n. QuietlyTo (swept_by (one_more n) ready) to) same later;
          stands = stands;
          newest = end.newest ∙ sym o.newest ∙ ap one_more same;
          begins = λ e. subst (λ n. begin_fault (after_raise_floor ready.manager (one_more n)) ≡ None) same
              (ap (λ m. begin_fault (after_raise_floor m (one_more r.newest))) ready_stands.manager ∙ o.begins (sym end.course.activity ∙ e));
          no_writing = ap is_writing end.course.activity ∙ o.no_writing;
          stood = λ e. end.course.activity ∙ o.stands (end.course.stands e);
        })
    by_outcome c (Outcome.Writing o) =
        let end = after_finish c in
        let few : c.newest < 2 ^ 32 = subst (λ n. n < 2 ^ 32) o.newest small in
        let v = written_by ready in
        let manager : v.manager ≡ c.manager = ap (λ m. after_call m Call.WriteSteps) ready_stands.manager ∙ o.manager in
        let sv = called_to ready d r c v.manager ready_stands manager o.window o.ready few in
        let (to, later, stands) = follows v t c (finished c) sv (finishes c few) in
        let same : r.newest ≡ a.newest = ready_calm.newest in
        Writing (record {
          at = ready;
          leads = quietly w t first.calls first.allowed;
          to = to;
          goes_on = later;
          stands = stands;
          newest = end.newest ∙ sym o.newest ∙ same;
          swept = subst (NoMore a.policy.activity) o.swept ready_calm.activity;
          begins = ap writing_fault ready_stands.manager ∙ o.begins;
          writes = end.course.activity ∙ o.writes;
          given = end.manager ∙ ap emptied (sym manager);
          may = may_still c.policy (finished c).policy end.course.gaps end.course.timing (is_whole r.manager) (is_whole ready.manager)
              (ap is_whole (sym ready_stands.manager)) o.may;
        })

    pub told_turn : Turn w d (telling time what d)
    told_turn = by_idle (is_idle r.window) refl
      where
        by_idle : (b : Bool) → is_idle r.window ≡ b → Turn w d (told_by (sent (if b then caught_up (acted r) else r)))
        by_idle true e = by_outcome (acted r) (acts what r)
        by_idle false e =
            let out = calm.sends r in
            quiet_turn (sent r) (sends what r) (calmly r (sent r) (ap (λ p. p.activity) out.policy) out.newest (λ e. sym (ap (λ p. p.written.stands) out.policy) ∙ e))
