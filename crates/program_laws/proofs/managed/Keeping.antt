-- What a manager that decides by itself does without beginning a writing keeps the plan that it wrote, if the Sets that
-- agents take do.
use Rattle.std.proofs.Common.{◌≡◌, ◌∙◌, ◌++◌, inl, Bool, true, false, List, [], ◌∷◌, Option, None, Some, refl, sym, ap, subst}
use Rattle.std.specs.List.{AllByRecursion}
use Rattle.std.specs.Prelude.{◌&&◌, not, slice_get}
use Rattle.lft_blocks.specs.Plan.{PlanValue}
use Rattle.sm_manager.specs.declared.outgoing.Outgoing.{Outgoing}
use Rattle.acting_manager.specs.Acting.{Acting}
use Rattle.acting_manager.specs.Working.{is_writing}
use Rattle.fabric_sim.specs.Simulation.{Simulation}
use Rattle.manager_laws.specs.Managing as managing
use Rattle.manager_laws.specs.Managing.{CanBe, Managing, ManagerEvent, after_manager_event, after_manager_events}
use Rattle.manager_laws.specs.Sets.{KeepsPlan, OwnSets}
use Rattle.manager_laws.specs.Scene.{Deliver, Emit, Event, Lose, Repeat, Scene, Send as SendFrom}
use Rattle.manager_laws.specs.Written.{AllKeep, BeginsNoWriting, Keeps, plan_at}
use Rattle.manager_laws.proofs.RunParts.{events_behind, keep_behind}
use Rattle.program_laws.specs.Deciding.{CanDecide, Deciding, DecidingEvent, LeadsTo, StandsFor, after_deciding_event, after_deciding_events, sending_from}
use Rattle.program_laws.specs.ManagedPings.{AllKeepManaged, KeepsManaged}
use Rattle.program_laws.specs.ManagedWritings.{BeginNoWriting, IsQuiet, WritesNothingElse, begins_writing, does_write}
use Rattle.program_laws.proofs.managed.Staged.{seat_stays}
use Rattle.program_laws.proofs.managed.Moves.{both}
use Rattle.program_laws.proofs.managed.Steps.{Allows, Step, beside_leads, quiet_leads, stepped, sweep_leads}
use Rattle.program_laws.proofs.managed.Turns.{SweepTurn, Turn}

module _ (plan : PlanValue) (own : OwnSets) where
  -- the plan is kept by what a manager that decides by itself does ------------------------------------

  pub quiet_keep : (events : List ManagerEvent) (w : Managing) → AllByRecursion IsQuiet events → AllKeep plan own events w
  quiet_keep [] w q = tt
  quiet_keep (managing.Around event ∷ events) w q = absurd q.0
  quiet_keep (managing.Begin ∷ events) w q = absurd q.0
  quiet_keep (managing.Write ∷ events) w q = absurd q.0
  quiet_keep (managing.Send which ∷ events) w q = absurd q.0
  quiet_keep (managing.Raise floor ∷ events) w q = absurd q.0
  quiet_keep (managing.Merge floor sightings ∷ events) w q = absurd q.0
  quiet_keep (managing.Take ∷ events) w q = (tt, quiet_keep events _ q.1)
  quiet_keep (managing.Hear which ∷ events) w q = (tt, quiet_keep events _ q.1)
  quiet_keep (managing.TimeOut transaction ∷ events) w q = (tt, quiet_keep events _ q.1)
  quiet_keep (managing.Poll lid ∷ events) w q = (tt, quiet_keep events _ q.1)
  quiet_keep (managing.HandOver ∷ events) w q = (tt, quiet_keep events _ q.1)
  quiet_keep (managing.Yield ∷ events) w q = (tt, quiet_keep events _ q.1)
  quiet_keep (managing.Rediscover ∷ events) w q = (tt, quiet_keep events _ q.1)

  -- events that keep the plan lead to where the manager is
  pub record Kept (w : Managing) (d : Deciding) : Type 0 where
    pub leads : LeadsTo w d
    pub keep : AllKeep plan own leads.events w

  sweep_keep : (w : Managing) (d d' : Deciding) (t : SweepTurn w d d') → AllKeep plan own (sweep_leads w d d' t).events w
  sweep_keep w d d' t =
      keep_behind plan own t.leads.events _ w (quiet_keep t.leads.events w t.leads.quiet)
      (tt, (tt, quiet_keep t.goes_on.events _ t.goes_on.quiet))

  step_kept : (w : Managing) (d d' : Deciding) → Step (Keeps plan own w) w d d'
      → not (is_writing d.acting.policy.activity) && is_writing d'.acting.policy.activity ≡ false → Kept w d'
  step_kept w d d' (Step.Beside a) none = record { leads = beside_leads w d d' (Keeps plan own w) a; keep = (a.allowed, tt) }
  step_kept w d d' (Step.Within (Turn.Quietly t)) none = record { leads = quiet_leads w d d' t; keep = quiet_keep t.leads.events w t.leads.quiet }
  step_kept w d d' (Step.Within (Turn.Sweeping t)) none = record { leads = sweep_leads w d d' t; keep = sweep_keep w d d' t }
  step_kept w d d' (Step.Within (Turn.Writing t)) none =
      let was = ap is_writing t.swept in
      let is = ap is_writing t.writes in
      let no : true ≡ false = sym (λ i. not (was i) && is i) ∙ none in
      absurd (cc)

  allows : (w : Managing) (d : Deciding) (event : DecidingEvent) → StandsFor w d → KeepsManaged plan own d event → Allows (Keeps plan own w) event
  allows w d (DecidingEvent.Around event) s keeps = subst (λ (f : Simulation). KeepsPlan plan own f event) (sym (ap (λ (x : Scene). x.fabric) s.scene)) keeps
  allows w d (DecidingEvent.Tell time what) s keeps = tt
  allows w d (DecidingEvent.Hear time which) s keeps = tt
  allows w d (DecidingEvent.Send which) s keeps = λ k. tt

  still_so : (b : Bool) → not b && b ≡ false
  still_so true = refl
  still_so false = refl

  sent_acting : (there : Option Outgoing) (d : Deciding) → (sending_from there d).acting ≡ d.acting
  sent_acting None d = refl
  sent_acting (Some o) d = refl

  pub begins_none : (d : Deciding) (event : DecidingEvent) → KeepsManaged plan own d event → begins_writing d event ≡ false
  begins_none d (DecidingEvent.Around event) keeps = still_so (does_write d)
  begins_none d (DecidingEvent.Tell time what) keeps = keeps
  begins_none d (DecidingEvent.Hear time which) keeps = keeps
  begins_none d (DecidingEvent.Send which) keeps =
      ap (λ (a : Acting). not (does_write d) && is_writing a.policy.activity) (sent_acting (slice_get d.printed which) d) ∙ still_so (does_write d)

  pub run_kept : (w : Managing) (d : Deciding) (events : List DecidingEvent) → StandsFor w d → AllByRecursion (CanDecide d.seat) events
      → AllKeepManaged plan own events d → Kept w (after_deciding_events events d)
  run_kept w d [] s can keep = record { leads = record { events = []; can_be = tt; stands = s }; keep = tt }
  run_kept w d (event ∷ events) s can keep =
      let d' = after_deciding_event d event in
      let one = step_kept w d d' (stepped (Keeps plan own w) w d s event can.0 (allows w d event s keep.0)) (begins_none d event keep.0) in
      let first = one.leads in
      let v = after_manager_events first.events w in
      let stays : d'.seat ≡ d.seat = seat_stays event d in
      let rest = run_kept v d' events first.stands (subst (λ seat. AllByRecursion (CanDecide seat) events) (sym stays) can.1) keep.1 in
      let later = rest.leads in
      let here : v.seat ≡ w.seat = first.stands.seat ∙ stays ∙ sym s.seat in
      record {
        leads = record {
          events = first.events ++ later.events;
          can_be = both (CanBe w.seat) first.events later.events first.can_be (subst (λ seat. AllByRecursion (CanBe seat) later.events) here later.can_be);
          stands = subst (λ (x : Managing). StandsFor x (after_deciding_events events d')) (sym (events_behind first.events later.events w)) later.stands;
        };
        keep = keep_behind plan own first.events later.events w one.keep rest.keep;
      }

-- other events begin no writing -------------------------------------------------------------------------

-- where each Set may be taken, keeping any plan is to begin no writing
abbrev any_set : OwnSets
any_set at packet = Unit {0}

any_kept : (plan : PlanValue) (w : Managing) (event : DecidingEvent) → Allows (Keeps plan any_set w) event
any_kept plan w (DecidingEvent.Around event) = any_delivery event
  where
    any_delivery : (event : Event) → KeepsPlan plan any_set w.scene.fabric event
    any_delivery (Deliver serial) = λ at a packet takes. inl tt
    any_delivery (Lose serial) = tt
    any_delivery (Repeat serial) = tt
    any_delivery (SendFrom seat sending) = tt
    any_delivery (Emit at sending) = tt
any_kept plan w (DecidingEvent.Tell time what) = tt
any_kept plan w (DecidingEvent.Hear time which) = tt
any_kept plan w (DecidingEvent.Send which) = λ k. tt

keeps_none : (plan : PlanValue) (w : Managing) (event : ManagerEvent) → Keeps plan any_set w event → BeginsNoWriting w event
keeps_none plan w managing.Write keeps = keeps
keeps_none plan w event keeps = tt

keep_none : (plan : PlanValue) (events : List ManagerEvent) (w : Managing) → AllKeep plan any_set events w → BeginNoWriting events w
keep_none plan [] w keep = tt
keep_none plan (event ∷ events) w keep =
    (keeps_none plan w event keep.0, keep_none plan events (after_manager_event w event) keep.1)

pub writes_nothing_else : WritesNothingElse
writes_nothing_else w d event s can none =
    let plan = plan_at w in
    let d' = after_deciding_event d event in
    let kept = step_kept plan any_set w d d' (stepped (Keeps plan any_set w) w d s event can (any_kept plan w event)) none in
    record { leads = kept.leads; none = keep_none plan kept.leads.events w kept.keep }
