-- Each of several managers has a run of its own, to which the others are what happens around it.
use Rattle.std.proofs.Common.{◌≡◌, ◌≢◌, inl, inr, ℕ, Bool, true, false, cond, List, [], ◌∷◌, ◌++◌, refl, sym, ap, ◌∙◌, subst, append_assoc}
use Rattle.std.proofs.lemmas.Bool.{eqb-true, eqb-false}
use Rattle.std.proofs.lemmas.Option.{same_Some}
use Rattle.std.proofs.lemmas.List.Elements.{All-nil, All-push}
use Rattle.std.specs.Prelude.{Option, Some, None, is_none, slice_get, ◌==◌}
use Rattle.lft_blocks.specs.Plan.{PlanValue}
use Rattle.sm_manager.specs.Manager.{begin_fault}
use Rattle.manager_laws.specs.Scene.{Scene, Event, CanSend, Send as SendFrom, after_event, sent, sent_from}
use Rattle.manager_laws.specs.Managing as one
use Rattle.manager_laws.specs.Managing.{Managing, ManagerEvent, after_manager_event, after_manager_events, packet_of}
use Rattle.manager_laws.proofs.RunParts.{events_behind}
use Rattle.manager_laws.specs.Written.{BeginsNoWriting, BeginsSweep, SweepsFirst, plan_at}
use Rattle.manager_laws.proofs.Before.{before_goes, event_goes, is_none-none}
use Rattle.manager_laws.proofs.Fair.{own_there}
use Rattle.manager_laws.proofs.Goes.{Goes}
use Rattle.manager_laws.proofs.SweepBegins.{starting}
use Rattle.manager_laws.proofs.WritingSweeps.{Ground}
use Rattle.manager_laws.specs.Masters.{AllCanBe, Around, At, CanBe, IsAt, IsItsOwn, Masters, MastersEvent, Seated, StartTogether, acting}
use Rattle.manager_laws.specs.Masters.{after_masters_event, after_masters_events, has_swept_after, seated_after, seen_by}
use Rattle.manager_laws.specs.OwnRuns.{AllSweepBefore, EachRunsOnItsOwn, OwnRun, SweepsBefore, WhatIsGivenOutCanBeSent, WritesSwept}
use Rattle.manager_laws.proofs.masters.Side.{Old, goes_after, no_writing, own_scene, view_after}
use Rattle.manager_laws.proofs.masters.Together.{SeatsStay, ground_of, seats_set, set_elsewhere, set_there, still_apart}

-- what is given out ------------------------------------------------------------------------------------------------

pub what_is_given_out_can_be_sent : WhatIsGivenOutCanBeSent
what_is_given_out_can_be_sent w events starts first all which o there =
    let plan = plan_at w in
    let after = after_manager_events events w in
    let g = before_goes w.scene.fabric w.seat plan (ground_of w starts) events w first (starting w starts plan) all in
    let own = own_there w.scene.fabric w.seat plan after.manager.counter [] after.scene.handed after.out which o g.fair.out there in
    record {
      sending = own.sending;
      can_send = subst (λ p. CanSend p own.sending) (sym g.fair.seat_is) own.can;
      is = subst (λ p. sent after.scene p own.sending ≡ sent_from after.scene p (packet_of o)) (sym g.fair.seat_is) (own.is after.scene (λ k h e. e));
    }

-- runs one after the other -----------------------------------------------------------------------------------------

-- a sweep has begun, so whatever follows, no writing begins before one
abbrev Swept : List ManagerEvent → Managing → Type 0
Swept events w = (more : List ManagerEvent) → SweepsFirst (events ++ more) w

swept_more : (events : List ManagerEvent) (event : ManagerEvent) (w : Managing) → Swept events w → Swept (events ++ event ∷ []) w
swept_more events event w swept more = subst (λ es. SweepsFirst es w) (sym (append_assoc events (event ∷ []) more)) (swept (event ∷ more))

begins_more : (events : List ManagerEvent) (event : ManagerEvent) (w : Managing) → SweepsFirst events w → BeginsSweep (after_manager_events events w) event
    → Swept (events ++ event ∷ []) w
begins_more [] event w first begins more = inl begins
begins_more (e ∷ events) event w (inl earlier) begins more = inl earlier
begins_more (e ∷ events) event w (inr (quiet, first)) begins more = inr (quiet, begins_more events event (after_manager_event w e) first begins more)

first_more : (events : List ManagerEvent) (event : ManagerEvent) (w : Managing) → SweepsFirst events w
    → BeginsNoWriting (after_manager_events events w) event → SweepsFirst (events ++ event ∷ []) w
first_more [] event w first quiet = inr (quiet, tt)
first_more (e ∷ events) event w (inl earlier) quiet = inl earlier
first_more (e ∷ events) event w (inr (still, first)) quiet = inr (still, first_more events event (after_manager_event w e) first quiet)

-- each on its own --------------------------------------------------------------------------------------------------

-- its first sweep begins by what makes that it has swept
newly : (scene : Scene) (m : Seated) (event : ManagerEvent) → IsItsOwn event → m.has_swept ≡ false → has_swept_after m event ≡ true
    → BeginsSweep (seen_by scene m) event
newly scene m (one.Around event) its e knows = absurd its
newly scene m one.Begin its e knows = by_fault (is_none (begin_fault m.manager)) refl knows
  where
    by_fault : (b : Bool) → is_none (begin_fault m.manager) ≡ b → cond b true m.has_swept ≡ true
        → begin_fault m.manager ≡ None
    by_fault true none k = is_none-none _ none
    by_fault false some k = absurd (cc (sym e ∙ k))
newly scene m event its e knows = absurd (cc (sym e ∙ knows))

module _ (t0 : Masters) (starts : StartTogether t0) (plan : PlanValue) where
  pub record Runs (t : Masters) (which : ℕ) (m0 : Seated) : Type 0 where
    pub run : OwnRun t0 m0 t which
    pub seat : run.later.seat ≡ m0.seat
    pub swept : run.later.has_swept ≡ true → Swept run.events (seen_by t0.scene m0)
    pub goes : Goes t0.scene.fabric run.later.seat plan (Old run.later.has_swept) (seen_by t.scene run.later)

  ground : (which : ℕ) (m0 : Seated) → IsAt t0 which m0 → (seat : _) → seat ≡ m0.seat → Ground t0.scene.fabric seat
  ground which m0 there seat same = subst (Ground t0.scene.fabric) (sym same) (ground_of (seen_by t0.scene m0) (starts.each which m0 there))

  -- something happens around it
  around_run : (t after : Masters) (which : ℕ) (m0 : Seated) → IsAt t0 which m0 → (r : Runs t which m0) → IsAt after which r.run.later → (event : Event)
      → one.CanBe r.run.later.seat (one.Around event) → after.scene ≡ after_event t.scene event → Runs after which m0
  around_run t after which m0 at_first r there event can_be scene =
      let g = event_goes t0.scene.fabric r.run.later.seat plan (ground which m0 at_first r.run.later.seat r.seat) (Old r.run.later.has_swept)
      (seen_by t.scene r.run.later) (one.Around event) (inl tt) r.goes can_be in
      record {
        run = record {
          events = r.run.events ++ one.Around event ∷ [];
          can_be = All-push (one.CanBe m0.seat) r.run.events (one.Around event) r.run.can_be (subst (λ p. one.CanBe p (one.Around event)) r.seat can_be);
          sweeps_first = first_more r.run.events (one.Around event) (seen_by t0.scene m0) r.run.sweeps_first tt;
          later = r.run.later;
          there = there;
          is = events_behind r.run.events (one.Around event ∷ []) (seen_by t0.scene m0) ∙ ap (λ w. after_manager_event w (one.Around event)) r.run.is
              ∙ ap (λ s. seen_by s r.run.later) (sym scene);
        };
        seat = r.seat;
        swept = λ knows. swept_more r.run.events (one.Around event) (seen_by t0.scene m0) (r.swept knows);
        goes = subst (λ s. Goes t0.scene.fabric r.run.later.seat plan (Old r.run.later.has_swept) (seen_by s r.run.later)) (sym scene) g;
      }

  -- nothing does
  still_run : (t after : Masters) (which : ℕ) (m0 : Seated) → (r : Runs t which m0) → IsAt after which r.run.later → after.scene ≡ t.scene
      → Runs after which m0
  still_run t after which m0 r there scene =
      record {
        run = record {
          events = r.run.events;
          can_be = r.run.can_be;
          sweeps_first = r.run.sweeps_first;
          later = r.run.later;
          there = there;
          is = r.run.is ∙ ap (λ s. seen_by s r.run.later) (sym scene);
        };
        seat = r.seat;
        swept = r.swept;
        goes = subst (λ s. Goes t0.scene.fabric r.run.later.seat plan (Old r.run.later.has_swept) (seen_by s r.run.later)) (sym scene) r.goes;
      }

  -- it does something itself
  own_run : (t : Masters) (which : ℕ) (m0 : Seated) → IsAt t0 which m0 → (r : Runs t which m0) (event : ManagerEvent) → IsItsOwn event
      → one.CanBe r.run.later.seat event
      → WritesSwept r.run.later event → Runs (acting t which event (Some r.run.later)) which m0
  own_run t which m0 at_first r event its can_be writes =
      let m = r.run.later in
      let w = after_manager_event (seen_by t.scene m) event in
      record {
        run = record {
          events = r.run.events ++ event ∷ [];
          can_be = All-push (one.CanBe m0.seat) r.run.events event r.run.can_be (subst (λ p. one.CanBe p event) r.seat can_be);
          sweeps_first = by_knowledge r.run.later.has_swept refl;
          later = seated_after m event w;
          there = set_there t.managers which (seated_after m event w) m r.run.there;
          is = events_behind r.run.events (event ∷ []) (seen_by t0.scene m0) ∙ ap (λ x. after_manager_event x event) r.run.is
              ∙ sym (view_after t.scene m event);
        };
        seat = r.seat;
        swept = λ knows. by_before r.run.later.has_swept refl knows;
        goes = subst (Goes t0.scene.fabric m.seat plan (Old (has_swept_after m event))) (sym (view_after t.scene m event))
            (goes_after t0.scene.fabric plan t.scene m (ground which m0 at_first m.seat r.seat) r.goes event its can_be writes);
      }
    where
      by_knowledge : (b : Bool) → r.run.later.has_swept ≡ b → SweepsFirst (r.run.events ++ event ∷ []) (seen_by t0.scene m0)
      by_knowledge true e = r.swept e (event ∷ [])
      by_knowledge false e =
          first_more r.run.events event (seen_by t0.scene m0) r.run.sweeps_first
          (subst (λ x. BeginsNoWriting x event) (sym r.run.is)
          (elim (no_writing t.scene r.run.later false e event writes) [ inl quiet ↦ quiet | inr never ↦ absurd (never tt) ]))

      by_before : (b : Bool) → r.run.later.has_swept ≡ b → has_swept_after r.run.later event ≡ true
          → Swept (r.run.events ++ event ∷ []) (seen_by t0.scene m0)
      by_before true e knows = swept_more r.run.events event (seen_by t0.scene m0) (r.swept e)
      by_before false e knows =
          begins_more r.run.events event (seen_by t0.scene m0) r.run.sweeps_first
          (subst (λ x. BeginsSweep x event) (sym r.run.is) (newly t.scene r.run.later event its e knows))

  pub record AllRun (t : Masters) : Type 0 where
    pub each : (which : ℕ) (m0 : Seated) → IsAt t0 which m0 → Runs t which m0
    pub seats : SeatsStay t0 t

  -- the manager of an index now
  now_at : (t : Masters) (which : ℕ) (m m0 : Seated) → IsAt t which m → (r : Runs t which m0) → r.run.later ≡ m
  now_at t which m m0 there r = same_Some _ _ (sym r.run.there ∙ there)

  around : (t : Masters) (event : Event) → AllRun t → CanBe t (Around event) → AllRun (after_masters_event t (Around event))
  around t event all can_be =
      record {
        each = λ which m0 at_first. let r = all.each which m0 at_first in
            around_run t (after_masters_event t (Around event)) which m0 at_first r r.run.there event
            (can_be.0, can_be.1 which r.run.later r.run.there) refl;
        seats = record { was = all.seats.was };
      }

  module _ (t : Masters) (all : AllRun t) (which : ℕ) (m0 : Seated) (at_first : IsAt t0 which m0) (r : Runs t which m0) (event : ManagerEvent)
      (its : IsItsOwn event) (can_be : one.CanBe r.run.later.seat event) (writes : WritesSwept r.run.later event) where
    -- another one
    other_runs : (k : ℕ) (n0 : Seated) → IsAt t0 k n0 → which ≢ k → Runs (acting t which event (Some r.run.later)) k n0
    other_runs k n0 first other =
        let n = all.each k n0 first in
        let there : IsAt (acting t which event (Some r.run.later)) k n.run.later =
        set_elsewhere t.managers which k (seated_after r.run.later event (after_manager_event (seen_by t.scene r.run.later) event)) other ∙ n.run.there in
        elim (own_scene t0.scene.fabric r.run.later.seat plan r.run.later.manager.counter [] (λ s. Unit {0}) (λ s own. tt) (seen_by t.scene r.run.later) refl
        r.goes.fair.out event its) [
          | inl same ↦ still_run t (acting t which event (Some r.run.later)) k n0 n there same
          | inr x ↦ around_run t (acting t which event (Some r.run.later)) k n0 first n there (SendFrom r.run.later.seat x.sending)
              (x.can, λ same. other (still_apart t0 t starts all.seats which k r.run.later n.run.later r.run.there n.run.there same)) (sym x.is)
        ]

    acts_at : AllRun (acting t which event (Some r.run.later))
    acts_at =
        record {
          each = λ k n0 first. by_index k n0 first (which == k) refl;
          seats = seats_set t0 t which r.run.later (seated_after r.run.later event (after_manager_event (seen_by t.scene r.run.later) event))
              (after_manager_event (seen_by t.scene r.run.later) event).scene all.seats r.run.there refl;
        }
      where
        by_index : (k : ℕ) (n0 : Seated) → IsAt t0 k n0 → (b : Bool) → (which == k) ≡ b → Runs (acting t which event (Some r.run.later)) k n0
        by_index k n0 first true e =
            let here : which ≡ k = eqb-true _ _ e in
            let same : m0 ≡ n0 = same_Some _ _ (sym at_first ∙ subst (λ index. IsAt t0 index n0) (sym here) first) in
            subst (λ index. Runs (acting t which event (Some r.run.later)) index n0) here
            (subst (Runs (acting t which event (Some r.run.later)) which) same (own_run t which m0 at_first r event its can_be writes))
        by_index k n0 first false e = other_runs k n0 first (eqb-false _ _ e)

  acts : (t : Masters) (which : ℕ) (event : ManagerEvent) → AllRun t → CanBe t (At which event) → SweepsBefore t (At which event) → (o : Option Seated) → slice_get t.managers which ≡ o
      → AllRun (acting t which event o)
  acts t which event all can_be swept None there = all
  acts t which event all can_be swept (Some m) there =
      let (m0, at_first, seat) = all.seats.was which m there in
      let r = all.each which m0 at_first in
      let same = now_at t which m m0 there r in
      let may = can_be r.run.later r.run.there in
      subst (λ n. AllRun (acting t which event (Some n))) same (acts_at t all which m0 at_first r event may.0 may.1 (swept r.run.later r.run.there))

  next : (t : Masters) (event : MastersEvent) → AllRun t → CanBe t event → SweepsBefore t event → AllRun (after_masters_event t event)
  next t (Around event) all can_be swept = around t event all can_be
  next t (At which event) all can_be swept = acts t which event all can_be swept (slice_get t.managers which) refl

  pub first_run : AllRun t0
  first_run =
      record {
        each = λ which m0 there. record {
          run = record { events = []; can_be = All-nil (one.CanBe m0.seat); sweeps_first = tt; later = m0; there = there; is = refl };
          seat = refl;
          swept = λ knows. absurd (cc (sym (starts.none_swept which m0 there).0 ∙ knows));
          goes = subst (λ b. Goes t0.scene.fabric m0.seat plan (Old b) (seen_by t0.scene m0)) (sym (starts.none_swept which m0 there).0)
              (starting (seen_by t0.scene m0) (starts.each which m0 there) plan);
        };
        seats = record { was = λ which m there. (m, there, refl) };
      }

  pub all_run : (events : List MastersEvent) (t : Masters) → AllRun t → AllCanBe events t → AllSweepBefore events t
      → AllRun (after_masters_events events t)
  all_run [] t all can_be swept = all
  all_run (event ∷ events) t all can_be swept =
      all_run events (after_masters_event t event) (next t event all can_be.0 swept.0) can_be.1 swept.1

pub each_runs_on_its_own : EachRunsOnItsOwn
each_runs_on_its_own t events starts can_be swept which m there =
    let plan = plan_at (seen_by t.scene m) in
    ((all_run t starts plan events t (first_run t starts plan) can_be swept).each which m there).run
