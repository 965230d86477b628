-- Whatever happens, what a manager that decides by itself knows while it sweeps is from this sweep alone. So is what it
-- writes then.
use Rattle.std.proofs.Common.{◌≡◌, ◌∙◌, ◌+◌, ◌<◌, ◌^◌, ◌++◌, inl, inr, arith, Bool, true, false, List, [], ◌∷◌, Option, None, Some, refl, sym, ap, subst}
use Rattle.std.proofs.lemmas.Bool.{and_parts, cond_both, eqb-true, ltb-true}
use Rattle.std.specs.List.{AllByRecursion}
use Rattle.std.specs.Prelude.{◌&&◌, ◌||◌, ◌==◌, Contains, if◌then◌else◌, is_none, nat_lt, not, slice_get}
use Rattle.fact_store.specs.View.{cells_of}
use Rattle.sm_state.specs.Standing.{one_more}
use Rattle.sweep.specs.Sweep.{Sweep, is_done}
use Rattle.plan_steps.specs.Bound.{most_steps}
use Rattle.sm_manager.specs.Manager.{Manager, after_begin_sweep, begin_fault, emptied, new_manager, progress_of, silent_in}
use Rattle.sm_manager.specs.CallLists.{Call, after_call}
use Rattle.sm_manager.specs.PlanFaults.{number_fault, or_else, plan_fault, writing_fault}
use Rattle.sm_manager.specs.Writing.{after_write_steps, write_fault_with}
use Rattle.sm_manager.specs.declared.outgoing.Outgoing.{Outgoing}
use Rattle.sm_manager.specs.declared.progress.Progress.TheVariants.{Done, Running}
use Rattle.sm_policy.specs.Policy.{patience}
use Rattle.sm_policy.specs.declared.activity.Activity.{Activity}
use Rattle.sm_policy.specs.declared.activity.Activity.TheVariants.{Rests, Sweeps, Writes, Hands}
use Rattle.sm_policy.specs.declared.policy.Policy.{Policy}
use Rattle.acting_manager.specs.Acting.{Acting, new_acting}
use Rattle.acting_manager.specs.Acts.{is_whole, is_whole_by}
use Rattle.acting_manager.specs.Working.{is_writing}
use Rattle.manager_laws.specs.Complete.{IsWhole}
use Rattle.manager_laws.specs.Managing as managing
use Rattle.manager_laws.specs.Managing.{CanBe, Managing, ManagerEvent, after_manager_event, after_manager_events, sending}
use Rattle.manager_laws.specs.WritingPings.{AreNoSweeps}
use Rattle.manager_laws.specs.Written.{at_first_steps, at_writing}
use Rattle.manager_laws.proofs.Before.{is_none-none}
use Rattle.manager_laws.proofs.RunParts.{alone_behind}
use Rattle.program_laws.specs.Deciding.{CanDecide, Deciding, DecidingEvent, HoldsOnly, StandsFor, after_deciding_event, after_deciding_events}
use Rattle.program_laws.specs.ManagedWritings.{IsNew, IsQuiet, MayWrite, WritesOneSweep, WritesWhatOneSweepSaw, managing_of}
use Rattle.program_laws.proofs.managed.Calm.{NoMore, as_before}
use Rattle.program_laws.proofs.managed.Staged.{seat_stays}
use Rattle.program_laws.proofs.managed.Moves.{both}
use Rattle.program_laws.proofs.managed.Newest.{IsNewestTo, all_newest, begun_newest, knows_nothing, knows_nothing_then, raised_newest}
use Rattle.program_laws.proofs.managed.Outcomes.{MayPlan}
use Rattle.program_laws.proofs.managed.Steps.{Allows, Aside, Step, leads_on, next_is_one, stepped}
use Rattle.program_laws.proofs.managed.Turns.{QuietTurn, SweepTurn, Turn, WriteTurn, swept_by, written_by}

-- all that the manager of `at` knows is from its last sweep, which began without facts
pub record OneSweep (w at : Managing) : Type 0 where
  pub before : List ManagerEvent
  pub between : List ManagerEvent
  pub before_can : AllByRecursion (CanBe w.seat) before
  pub between_can : AllByRecursion (CanBe w.seat) between
  pub sweep_begins : begin_fault (after_manager_events before w).manager ≡ None
  pub knew_nothing : cells_of (after_manager_events before w).manager.store ≡ []
  pub alone : AreNoSweeps between (after_manager_event (after_manager_events before w) managing.Begin)
  pub leads : at_writing w before between ≡ at

-- where a run from `w` has come to
pub record Known (w : Managing) (d : Deciding) : Type 0 where
  pub seat : d.seat ≡ w.seat
  pub events : List ManagerEvent
  pub can_be : AllByRecursion (CanBe w.seat) events
  pub at : Managing
  pub leads : after_manager_events events w ≡ at
  pub stands : StandsFor at d
  pub newest : IsNewestTo d.acting.newest at.manager
  -- while it sweeps, and while a plan stands
  pub one : d.acting.policy.activity ≡ Sweeps → OneSweep w at
  pub stood : d.acting.policy.written.stands ≡ true → OneSweep w at

-- something happens around the manager, or it sends a packet that it gave out
abbrev IsOutside : ManagerEvent → Type 0
IsOutside (managing.Around event) = Unit {0}
IsOutside (managing.Send which) = Unit {0}
IsOutside event = ⊥

outside : (event : DecidingEvent) → Allows IsOutside event
outside (DecidingEvent.Around event) = tt
outside (DecidingEvent.Tell time what) = tt
outside (DecidingEvent.Hear time which) = tt
outside (DecidingEvent.Send which) = λ k. tt

-- more events ------------------------------------------------------------------------------------------

module _ (seat : _) where
  more_can : (seat' : _) (events more : List ManagerEvent) → seat' ≡ seat → AllByRecursion (CanBe seat) events → AllByRecursion (CanBe seat') more
      → AllByRecursion (CanBe seat) (events ++ more)
  more_can seat' events more same first later =
      both (CanBe seat) events more first (subst (λ s. AllByRecursion (CanBe s) more) same later)

quiet_alone : (events : List ManagerEvent) (w : Managing) → AllByRecursion IsQuiet events → AreNoSweeps events w
quiet_alone [] w q = tt
quiet_alone (managing.Around event ∷ events) w q = absurd q.0
quiet_alone (managing.Begin ∷ events) w q = absurd q.0
quiet_alone (managing.Write ∷ events) w q = absurd q.0
quiet_alone (managing.Send which ∷ events) w q = absurd q.0
quiet_alone (managing.Raise floor ∷ events) w q = absurd q.0
quiet_alone (managing.Merge floor sightings ∷ events) w q = absurd q.0
quiet_alone (managing.Take ∷ events) w q = (tt, quiet_alone events _ q.1)
quiet_alone (managing.Hear which ∷ events) w q = (tt, quiet_alone events _ q.1)
quiet_alone (managing.TimeOut transaction ∷ events) w q = (tt, quiet_alone events _ q.1)
quiet_alone (managing.Poll lid ∷ events) w q = (tt, quiet_alone events _ q.1)
quiet_alone (managing.HandOver ∷ events) w q = (tt, quiet_alone events _ q.1)
quiet_alone (managing.Yield ∷ events) w q = (tt, quiet_alone events _ q.1)
quiet_alone (managing.Rediscover ∷ events) w q = (tt, quiet_alone events _ q.1)

outside_alone : (event : ManagerEvent) (w : Managing) → IsOutside event → AreNoSweeps (event ∷ []) w
outside_alone (managing.Around event) w o = (tt, tt)
outside_alone (managing.Send which) w o = (tt, tt)
outside_alone managing.Begin w o = absurd o
outside_alone managing.Write w o = absurd o
outside_alone managing.Take w o = absurd o
outside_alone (managing.Hear which) w o = absurd o
outside_alone (managing.TimeOut transaction) w o = absurd o
outside_alone (managing.Raise floor) w o = absurd o
outside_alone (managing.Merge floor sightings) w o = absurd o
outside_alone (managing.Poll lid) w o = absurd o
outside_alone managing.HandOver w o = absurd o
outside_alone managing.Yield w o = absurd o
outside_alone managing.Rediscover w o = absurd o

-- the manager learns nothing else by these events
sweep_goes_on : (w at to : Managing) (more : List ManagerEvent) → at.seat ≡ w.seat → AllByRecursion (CanBe at.seat) more → AreNoSweeps more at
    → after_manager_events more at ≡ to → OneSweep w at → OneSweep w to
sweep_goes_on w at to more seat can alone leads o =
    let began = after_manager_event (after_manager_events o.before w) managing.Begin in
    record {
      before = o.before;
      between = o.between ++ more;
      before_can = o.before_can;
      between_can = more_can w.seat at.seat o.between more seat o.between_can can;
      sweep_begins = o.sweep_begins;
      knew_nothing = o.knew_nothing;
      alone = alone_behind o.between more began o.alone (subst (AreNoSweeps more) (sym o.leads) alone);
      leads = leads_on began at to o.between more o.leads leads;
    }

-- each event -------------------------------------------------------------------------------------------

-- an event outside leaves the manager as it is
outside_same : (event : ManagerEvent) (w : Managing) → IsOutside event → (after_manager_event w event).manager ≡ w.manager
outside_same (managing.Around event) w o = refl
outside_same (managing.Send which) w o = by_packet (slice_get w.out which)
  where
    by_packet : (packet : Option Outgoing) → (sending w packet).manager ≡ w.manager
    by_packet None = refl
    by_packet (Some packet) = refl
outside_same managing.Begin w o = absurd o
outside_same managing.Write w o = absurd o
outside_same managing.Take w o = absurd o
outside_same (managing.Hear which) w o = absurd o
outside_same (managing.TimeOut transaction) w o = absurd o
outside_same (managing.Raise floor) w o = absurd o
outside_same (managing.Merge floor sightings) w o = absurd o
outside_same (managing.Poll lid) w o = absurd o
outside_same managing.HandOver w o = absurd o
outside_same managing.Yield w o = absurd o
outside_same managing.Rediscover w o = absurd o

module _ (w : Managing) (d d' : Deciding) (k : Known w d) (stays : d'.seat ≡ d.seat) where
  abbrev at : Managing
  at = k.at

  here : at.seat ≡ w.seat
  here = k.stands.seat ∙ k.seat

  small : d.acting.newest < 2 ^ 32
  small = k.stands.newest

  aside_known : Aside IsOutside at d d' → Known w d'
  aside_known a =
      let to = after_manager_event at a.event in
      record {
        seat = stays ∙ k.seat;
        events = k.events ++ a.event ∷ [];
        can_be = more_can w.seat at.seat k.events (a.event ∷ []) here k.can_be (a.can_be, tt);
        at = to;
        leads = leads_on w at to k.events (a.event ∷ []) k.leads refl;
        stands = a.stands;
        newest = subst (λ (x : Acting). IsNewestTo x.newest to.manager) (sym a.acting)
            (subst (IsNewestTo d.acting.newest) (sym (outside_same a.event at a.allowed)) k.newest);
        one = λ e. sweep_goes_on w at to (a.event ∷ []) here (a.can_be, tt) (outside_alone a.event at a.allowed) refl
            (k.one (ap (λ (x : Acting). x.policy.activity) (sym a.acting) ∙ e));
        stood = λ e. sweep_goes_on w at to (a.event ∷ []) here (a.can_be, tt) (outside_alone a.event at a.allowed) refl
            (k.stood (ap (λ (x : Acting). x.policy.written.stands) (sym a.acting) ∙ e));
      }

  quiet_known : QuietTurn at d d' → Known w d'
  quiet_known t =
      let same : d'.acting.newest ≡ d.acting.newest = t.calm.newest in
      record {
        seat = stays ∙ k.seat;
        events = k.events ++ t.leads.events;
        can_be = more_can w.seat at.seat k.events t.leads.events here k.can_be t.leads.can_be;
        at = t.to;
        leads = leads_on w at t.to k.events t.leads.events k.leads t.leads.leads;
        stands = t.stands;
        newest = subst (λ n. IsNewestTo n t.to.manager) (sym same)
            (subst (λ (v : Managing). IsNewestTo d.acting.newest v.manager) t.leads.leads
            (all_newest d.acting.newest t.leads.events at t.leads.quiet k.newest));
        one = λ e. sweep_goes_on w at t.to t.leads.events here t.leads.can_be (quiet_alone t.leads.events at t.leads.quiet) t.leads.leads
            (k.one (subst (NoMore d.acting.policy.activity) e t.calm.activity));
        stood = λ e. sweep_goes_on w at t.to t.leads.events here t.leads.can_be (quiet_alone t.leads.events at t.leads.quiet) t.leads.leads
            (k.stood (t.calm.stands e));
      }

  sweep_known : SweepTurn at d d' → Known w d'
  sweep_known t =
      let n = one_more d.acting.newest in
      let v = t.at in
      let up = after_manager_event v (managing.Raise n) in
      let first = t.leads.events in
      let later = t.goes_on.events in
      let there : v.seat ≡ w.seat = t.leads.seat ∙ here in
      let up_to : after_manager_events ((k.events ++ first) ++ managing.Raise n ∷ []) w ≡ up =
      leads_on w v up (k.events ++ first) (managing.Raise n ∷ []) (leads_on w at v k.events first k.leads t.leads.leads) refl in
      let up_can : AllByRecursion (CanBe w.seat) ((k.events ++ first) ++ managing.Raise n ∷ []) =
      more_can w.seat v.seat (k.events ++ first) (managing.Raise n ∷ []) there
      (more_can w.seat at.seat k.events first here k.can_be t.leads.can_be) (next_is_one d.acting.newest, tt) in
      let before : IsNewestTo d.acting.newest v.manager =
      subst (λ (x : Managing). IsNewestTo d.acting.newest x.manager) t.leads.leads (all_newest d.acting.newest first at t.leads.quiet k.newest) in
      let raised = raised_newest d.acting.newest v.manager small before in
      let nothing = knows_nothing_then d.acting.newest v.manager small before in
      let begun : IsNewestTo n (swept_by n v).manager =
      cond_both (is_none (begin_fault up.manager)) (after_begin_sweep up.manager) up.manager (IsNewestTo n)
      (λ e. begun_newest n up.manager (omega arith) raised (nothing (is_none-none (begin_fault up.manager) e))) (λ _. raised) in
      let its : d'.acting.policy.activity ≡ Sweeps → OneSweep w t.to = λ e. record {
        before = (k.events ++ first) ++ managing.Raise n ∷ [];
        between = later;
        before_can = up_can;
        between_can = subst (λ s. AllByRecursion (CanBe s) later) there t.goes_on.can_be;
        sweep_begins = subst (λ (x : Managing). begin_fault x.manager ≡ None) (sym up_to) (t.begins e);
        knew_nothing = subst (λ (x : Managing). cells_of x.manager.store ≡ []) (sym up_to) (nothing (t.begins e));
        alone = subst (λ (x : Managing). AreNoSweeps later (after_manager_event x managing.Begin)) (sym up_to)
            (quiet_alone later (swept_by n v) t.goes_on.quiet);
        leads = ap (λ (x : Managing). after_manager_events later (after_manager_event x managing.Begin)) up_to ∙ t.goes_on.leads;
      } in
      record {
        seat = stays ∙ k.seat;
        events = ((k.events ++ first) ++ managing.Raise n ∷ []) ++ managing.Begin ∷ later;
        can_be = more_can w.seat v.seat ((k.events ++ first) ++ managing.Raise n ∷ []) (managing.Begin ∷ later) there up_can (tt, t.goes_on.can_be);
        at = t.to;
        leads = leads_on w up t.to ((k.events ++ first) ++ managing.Raise n ∷ []) (managing.Begin ∷ later) up_to t.goes_on.leads;
        stands = t.stands;
        newest = subst (λ m. IsNewestTo m t.to.manager) (sym t.newest)
            (subst (λ (x : Managing). IsNewestTo n x.manager) t.goes_on.leads (all_newest n later (swept_by n v) t.goes_on.quiet begun));
        one = its;
        stood = λ e. its (t.stood e);
      }

  write_known : WriteTurn at d d' → Known w d'
  write_known t =
      let v = t.at in
      let m = v.manager in
      let first = t.leads.events in
      let later = t.goes_on.events in
      let n = d.acting.newest in
      let there : v.seat ≡ w.seat = t.leads.seat ∙ here in
      let before : IsNewestTo n m = subst (λ (x : Managing). IsNewestTo n x.manager) t.leads.leads (all_newest n first at t.leads.quiet k.newest) in
      let begun : IsNewestTo n (written_by v).manager =
      cond_both (is_none (writing_fault m)) (after_write_steps m) m (IsNewestTo n) (λ _. record { knows = before.knows; sweep = before.sweep })
      (λ _. before) in
      record {
        seat = stays ∙ k.seat;
        events = (k.events ++ first) ++ managing.Write ∷ later;
        can_be = more_can w.seat v.seat (k.events ++ first) (managing.Write ∷ later) there
            (more_can w.seat at.seat k.events first here k.can_be t.leads.can_be) (tt, t.goes_on.can_be);
        at = t.to;
        leads = leads_on w v t.to (k.events ++ first) (managing.Write ∷ later) (leads_on w at v k.events first k.leads t.leads.leads) t.goes_on.leads;
        stands = t.stands;
        newest = subst (λ x. IsNewestTo x t.to.manager) (sym t.newest)
            (subst (λ (x : Managing). IsNewestTo n x.manager) t.goes_on.leads (all_newest n later (written_by v) t.goes_on.quiet begun));
        one = λ e. let no = sym t.writes ∙ e in absurd (cc);
        stood = λ _. sweep_goes_on w v t.to (managing.Write ∷ later) there (tt, t.goes_on.can_be) (tt, quiet_alone later (written_by v) t.goes_on.quiet)
            t.goes_on.leads
            (sweep_goes_on w at v first here t.leads.can_be (quiet_alone first at t.leads.quiet) t.leads.leads (k.one t.swept));
      }

  pub step_known : Step IsOutside at d d' → Known w d'
  step_known (Step.Beside a) = aside_known a
  step_known (Step.Within (Turn.Quietly t)) = quiet_known t
  step_known (Step.Within (Turn.Sweeping t)) = sweep_known t
  step_known (Step.Within (Turn.Writing t)) = write_known t

-- a whole run ------------------------------------------------------------------------------------------

-- the manager at its seat stands for a new one
pub first_stands : (d : Deciding) → IsNew d → StandsFor (managing_of d) d
first_stands d new =
    let acting = new.acting in
    record {
      scene = refl;
      seat = refl;
      manager = refl;
      printed = subst (AllByRecursion (Contains (managing_of d).out)) (sym new.printed) tt;
      held = subst (HoldsOnly (Contains (managing_of d).out)) (sym acting) (record { queued = tt; outs = tt; ready = tt });
      newest = subst (λ (a : Acting). a.newest < 2 ^ 32) (sym acting) new.few;
    }

pub begins_known : (d : Deciding) → IsNew d → Known (managing_of d) d
begins_known d new =
    let m = new_manager new.port_guid new.port new.priority new.conduct new.planning in
    let first = new_acting m new.timing new.limits new.newest in
    let acting = new.acting in
    let w = managing_of d in
    record {
      seat = refl;
      events = [];
      can_be = tt;
      at = w;
      leads = refl;
      stands = first_stands d new;
      newest = subst (λ (a : Acting). IsNewestTo a.newest a.manager) (sym acting) (record { knows = knows_nothing new.newest; sweep = tt });
      one = λ e. let no = sym (ap (λ (a : Acting). a.policy.activity) acting) ∙ e in absurd (cc);
      stood = λ e. let no = sym (ap (λ (a : Acting). a.policy.written.stands) acting) ∙ e in absurd (cc);
    }

pub runs_known : (w : Managing) (d : Deciding) (events : List DecidingEvent) → AllByRecursion (CanDecide w.seat) events → Known w d
    → Known w (after_deciding_events events d)
runs_known w d [] can k = k
runs_known w d (event ∷ events) can k =
    let d' = after_deciding_event d event in
    let step = stepped IsOutside k.at d k.stands event (subst (λ seat. CanDecide seat event) (sym k.seat) can.0) (outside event) in
    runs_known w d' events can.1 (step_known w d d' k (seat_stays event d) step)

-- writings ---------------------------------------------------------------------------------------------

-- a manager that begins nothing begins no writing
no_writing : (was now : Activity) → NoMore was now → not (is_writing was) && is_writing now ≡ true → ⊥
no_writing was Rests more e = let parts = and_parts (not (is_writing was)) false e in let no = parts.1 in cc
no_writing was Sweeps more e = let parts = and_parts (not (is_writing was)) false e in let no = parts.1 in cc
no_writing was Hands more e = let parts = and_parts (not (is_writing was)) false e in let no = parts.1 in cc
no_writing was Writes more e =
    let parts = and_parts (not (is_writing was)) true e in let no = sym (ap (λ x. not (is_writing x)) more) ∙ parts.0 in cc

-- a sweep that has every answer, by what the manager says of it
pub whole_so : (s : Sweep) → is_whole_by (if is_done s then Done s.unanswered s.too_far else Running s.unanswered s.too_far) (Some s.silent_managers) ≡ true
    → IsWhole s
whole_so s e = by_done (is_done s) refl e
  where
    by_done : (b : Bool) → is_done s ≡ b
        → is_whole_by (if b then Done s.unanswered s.too_far else Running s.unanswered s.too_far) (Some s.silent_managers) ≡ true → IsWhole s
    by_done true done e =
        let parts = and_parts (s.unanswered == s.silent_managers) (s.too_far == 0) e in
        record { done = done; answered = eqb-true s.unanswered s.silent_managers parts.0; near = eqb-true s.too_far 0 parts.1 }
    by_done false done e = absurd (cc)

may_write : (m : Manager) (s : Sweep) (p : Policy) → m.sweep ≡ Some s → MayPlan (is_whole m) p → MayWrite p s
may_write m s p is may = by_gaps (p.gaps == 0) refl may.may
  where
    by_gaps : (b : Bool) → (p.gaps == 0) ≡ b → b || (not p.timing.is_strict && nat_lt patience p.gaps) ≡ true → MayWrite p s
    by_gaps true e t =
        inl (whole_so s (sym (ap (λ o. is_whole_by (progress_of o) (silent_in o)) is) ∙ may.whole (eqb-true p.gaps 0 e)))
    by_gaps false e t =
        let parts = and_parts (not p.timing.is_strict) (nat_lt patience p.gaps) t in
        inr (not_strict p.timing.is_strict parts.0, ltb-true patience p.gaps parts.1)
      where
        not_strict : (b : Bool) → not b ≡ true → b ≡ false
        not_strict true e = cc
        not_strict false e = refl

-- who writes has swept
some_sweep : (m : Manager) → writing_fault m ≡ None → (s : Sweep) × (m.sweep ≡ Some s)
some_sweep m none = by_sweep m.sweep refl
  where
    by_sweep : (o : Option Sweep) → m.sweep ≡ o → (s : Sweep) × (m.sweep ≡ Some s)
    by_sweep None e =
        absurd (cc (sym (ap
        (λ o. or_else (write_fault_with m o) (or_else (plan_fault m.planning.lmc (cells_of m.store)) (number_fault (m.counter
        + most_steps (cells_of m.store))))) e) ∙ none))
    by_sweep (Some s) e = (s, e)

pub begun_so : (m : Manager) → writing_fault m ≡ None → after_call m Call.WriteSteps ≡ after_write_steps m
begun_so m e = ap (λ o. if is_none o then after_write_steps m else m) e

writes_one : (w : Managing) (d d' : Deciding) (k : Known w d) → WriteTurn k.at d d' → WritesOneSweep w d'
writes_one w d d' k t =
    let v = t.at in
    let here : k.at.seat ≡ w.seat = k.stands.seat ∙ k.seat in
    let o = sweep_goes_on w k.at v t.leads.events here t.leads.can_be (quiet_alone t.leads.events k.at t.leads.quiet) t.leads.leads (k.one t.swept) in
    let later = t.goes_on.events in
    let there : v.seat ≡ w.seat = t.leads.seat ∙ here in
    let (s, is) = some_sweep v.manager t.begins in
    let first : at_first_steps w o.before o.between ≡ written_by v = ap written_by o.leads in
    let manager : d'.acting.manager ≡ emptied (after_write_steps v.manager) = t.given ∙ ap emptied (begun_so v.manager t.begins) in
    record {
      before = o.before;
      between = o.between;
      later = later;
      before_can = o.before_can;
      between_can = o.between_can;
      later_can = subst (λ seat. AllByRecursion (CanBe seat) later) there t.goes_on.can_be;
      sweep_begins = o.sweep_begins;
      knew_nothing = o.knew_nothing;
      alone = o.alone;
      writing_begins = subst (λ (x : Managing). writing_fault x.manager ≡ None) (sym o.leads) t.begins;
      given = t.given ∙ ap (λ (x : Managing). emptied x.manager) (sym first);
      quiet = t.goes_on.quiet;
      stands = subst (λ (x : Managing). StandsFor x d') (sym (ap (after_manager_events later) first ∙ t.goes_on.leads)) t.stands;
      sweep = s;
      is_last = ap (λ (m : Manager). m.sweep) manager ∙ is;
      may = may_write v.manager s d'.acting.policy is t.may;
    }

written_so : (w : Managing) (d d' : Deciding) (k : Known w d) → Step IsOutside k.at d d'
    → not (is_writing d.acting.policy.activity) && is_writing d'.acting.policy.activity ≡ true → WritesOneSweep w d'
written_so w d d' k (Step.Beside a) e =
    absurd (no_writing d.acting.policy.activity d'.acting.policy.activity
    (as_before d.acting.policy.activity d'.acting.policy.activity (ap (λ (x : Acting). x.policy.activity) a.acting)) e)
written_so w d d' k (Step.Within (Turn.Quietly t)) e = absurd (no_writing d.acting.policy.activity d'.acting.policy.activity t.calm.activity e)
written_so w d d' k (Step.Within (Turn.Sweeping t)) e =
    let parts = and_parts (not (is_writing d.acting.policy.activity)) (is_writing d'.acting.policy.activity) e in
    let no = sym t.no_writing ∙ parts.1 in absurd (cc)
written_so w d d' k (Step.Within (Turn.Writing t)) e = writes_one w d d' k t

pub writes_what_one_sweep_saw : WritesWhatOneSweepSaw
writes_what_one_sweep_saw d events event new can last e =
    let w = managing_of d in
    let now = after_deciding_events events d in
    let k = runs_known w d events can (begins_known d new) in
    let step = stepped IsOutside k.at now k.stands event (subst (λ seat. CanDecide seat event) (sym k.seat) last) (outside event) in
    written_so w now (after_deciding_event now event) k step e
