-- If each Set that counts was answered, none of them failed: the plan is written, and pings arrive.
use Rattle.std.proofs.Common.{◌≡◌, ℕ, Bool, true, false, List, [], ◌∷◌, refl, sym, ap, ◌∙◌, subst}
use Rattle.std.proofs.lemmas.Bool.{and_from, cond_both}
use Rattle.std.proofs.lemmas.List.Elements.{All-head, All-tail}
use Rattle.std.proofs.lemmas.Option.{same_Some}
use Rattle.std.specs.Prelude.{All, Contains, Option, Some, None, not, slice_get, ◌==◌, ◌&&◌, if◌then◌else◌}
use Rattle.std.specs.List.{list_any}
use Rattle.fabric_model.specs.Cables.{is_same_port}
use Rattle.fabric_model.proofs.Cabled.{same_port-is}
use Rattle.fabric_sim.proofs.Traced.{IsForManager}
use Rattle.smp_bytes.specs.Header.{done}
use Rattle.smp_bytes.specs.Packet.{status}
use Rattle.sweep.specs.Sweep.{Sweep}
use Rattle.sm_manager.specs.declared.outgoing.Outgoing.{Outgoing}
use Rattle.sm_manager.specs.declared.pending.Pending.{Pending}
use Rattle.sm_manager.specs.CallLists as calls
use Rattle.sm_manager.specs.Manager.{Manager, Writing}
use Rattle.sm_manager.specs.ManagerRequests.{counts, is_step, none_counts}
use Rattle.sm_manager.specs.Packets.{answers, is_for_sweep}
use Rattle.sm_manager.specs.Writing.{after_write_steps, is_written, is_written_by, write_fault_with}
use Rattle.sm_manager.proofs.Begun.{may_begin}
use Rattle.manager_laws.specs.Managing.{CanBe, Managing, ManagerEvent, Around, Begin, Write, Take, Send, Hear, TimeOut, Raise, Merge, Poll, HandOver, Yield, Rediscover}
use Rattle.manager_laws.specs.Managing.{after_manager_event, after_manager_events, hearing, sending}
use Rattle.manager_laws.specs.OwnSetsTaken.{AnsweredPlansAreWritten, AreAnswered, GivesUpNone, GiveUpNone, PingsArriveOnceAnswered}
use Rattle.manager_laws.specs.WritingPings.{WritesItsSweep}
use Rattle.manager_laws.specs.Scene.{Handed}
use Rattle.manager_laws.specs.Written.{AllKeep, Keeps, at_end, at_first_steps, at_writing, own_sets, plan_at}
use Rattle.manager_laws.proofs.After.{Writes, after_writes, event_writes}
use Rattle.manager_laws.proofs.Arrive.{arrives}
use Rattle.manager_laws.proofs.AskedSets.{WasAsked}
use Rattle.manager_laws.proofs.Before.{none-is_none}
use Rattle.manager_laws.proofs.HeardAnswers.{is_answer_to}
use Rattle.manager_laws.proofs.Held as held
use Rattle.manager_laws.proofs.Scenes.{Sends, Tells}
use Rattle.manager_laws.proofs.Steps.{IsOf, StepSent}
use Rattle.manager_laws.proofs.TracedScenes.{traced_there}
use Rattle.manager_laws.proofs.own_sets.Taken.{answer_taken}
use Rattle.manager_laws.proofs.own_sets.Unfailed.{IsUnfailed, call_unfailed}
use Rattle.manager_laws.proofs.writing_ends.Effects.{Says}

module _ (w : Managing) (before between after : List ManagerEvent) (writes : WritesItsSweep w before between after) (sweep : Sweep)
    (sweep_is : (at_writing w before between).manager.sweep ≡ Some sweep) where
  abbrev Runs : Managing → Type 0
  Runs x =
      Writes w.scene.fabric w.seat (plan_at (at_writing w before between)) (at_writing w before between).manager.counter
      (held.phases w before between after writes.run sweep sweep_is) x

  abbrev KeepsThem : Managing → ManagerEvent → Type 0
  KeepsThem = Keeps (plan_at (at_writing w before between)) (own_sets w (at_writing w before between))

  runs_on : (x : Managing) (event : ManagerEvent) → Runs x → KeepsThem x event → CanBe w.seat event → Runs (after_manager_event x event)
  runs_on x event g keeps can =
      event_writes w.scene.fabric w.seat (plan_at (at_writing w before between)) (at_writing w before between).manager.counter
      (held.phases w before between after writes.run sweep sweep_is) (held.good w before between after writes.run sweep sweep_is)
      (held.ground w before between after writes.run) (own_sets w (at_writing w before between))
      (held.owns w before between after writes.run sweep sweep_is) x event keeps g can

  -- an answer that ends a step that counts --------------------------------------------------------------

  module _ (x : Managing) (g : Runs x) (which : ℕ) (h : Handed) (there : slice_get x.scene.handed which ≡ Some h)
      (here : is_same_port h.at x.seat ≡ true) (p : Pending) (waits : Contains x.manager.pending p) (is : is_step p ≡ true)
      (answered : answers h.packet.bytes p ≡ true) (was_done : Bool) (says : Says (calls.Packet h.packet.bytes (Some h.packet.slid)) was_done) where
    traced : IsForManager (Sends w.scene.fabric w.seat (plan_at (at_writing w before between)) (at_writing w before between).manager.counter g.all)
        (Tells w.scene.fabric w.seat (plan_at (at_writing w before between)) (at_writing w before between).manager.counter g.all x.scene.fabric)
        w.scene.fabric w.seat h.packet.bytes
    traced =
        let plan = plan_at (at_writing w before between) in
        let c = (at_writing w before between).manager.counter in
        let sends = Sends w.scene.fabric w.seat plan c g.all in
        let tells = Tells w.scene.fabric w.seat plan c g.all x.scene.fabric in
        subst (λ q. IsForManager sends tells w.scene.fabric q h.packet.bytes) (same_port-is h.at x.seat here ∙ g.fair.seat_is)
        (traced_there sends tells w.scene.fabric x.scene.handed which h g.fair.traced.handed there)

    says_done : counts p ≡ true → status h.packet.bytes ≡ done
    says_done counted =
        let f = g.way.waits p waits is in
        let known = g.way.known f.step f.there in
        let good = held.good w before between after writes.run sweep sweep_is f.step known in
        let answer = is_answer_to w.scene.fabric w.seat (plan_at (at_writing w before between)) (at_writing w before between).manager.counter g.all
        x.scene.fabric h.packet.bytes f.step g.way.once g.way.least f.there good.sendable.no_manager traced (ap (answers h.packet.bytes) f.is ∙ answered)
        says.1 in
        sym answer.status_is
        ∙ answer_taken w before between after writes sweep sweep_is f.step (ap counts f.is ∙ counted)
        (subst (λ phases. IsOf phases f.step.counts f.step.step) (held.phases_are w before between after writes.run sweep sweep_is) known)
        answer.answer
        (subst (λ (q : StepSent). WasAsked w.scene.fabric w.seat q answer.answer) answer.same answer.told.asked)

    none_fails : (counts p && not was_done) ≡ false
    none_fails = by_counts (counts p) refl
      where
        by_counts : (b : Bool) → counts p ≡ b → (b && not was_done) ≡ false
        by_counts false e = refl
        by_counts true e = ap not (says.0 ∙ ap (λ s. s == done) (says_done e))

  -- so it is of each answer that is heard in the end
  pub heard_done : (which : ℕ) (h : Handed) → slice_get (at_end w before between after).scene.handed which ≡ Some h
      → is_same_port h.at (at_end w before between after).seat ≡ true
      → (p : Pending) → Contains (at_end w before between after).manager.pending p → is_step p ≡ true → counts p ≡ true
      → answers h.packet.bytes p ≡ true → is_for_sweep h.packet.bytes ≡ false → status h.packet.bytes ≡ done
  heard_done which h there here p waits is counted answered no_sweep =
      says_done (at_end w before between after) ends which h there here p waits is answered (status h.packet.bytes == done) (refl, no_sweep) counted
    where
      ends : Runs (at_end w before between after)
      ends =
          after_writes w.scene.fabric w.seat (plan_at (at_writing w before between)) (at_writing w before between).manager.counter
          (held.phases w before between after writes.run sweep sweep_is) (held.good w before between after writes.run sweep sweep_is)
          (held.ground w before between after writes.run) (own_sets w (at_writing w before between))
          (held.owns w before between after writes.run sweep sweep_is) after (at_first_steps w before between) writes.run.keep
          (held.begins w before between after writes.run sweep sweep_is) writes.run.after_can

  -- no step that counts fails -----------------------------------------------------------------------------

  heard_unfailed : (x : Managing) → Runs x → (which : ℕ) (m : Option Handed) → slice_get x.scene.handed which ≡ m → IsUnfailed x.manager.writing
      → IsUnfailed (hearing x m).manager.writing
  heard_unfailed x g which None e good = good
  heard_unfailed x g which (Some h) e good =
      cond_both (is_same_port h.at x.seat) _ _ (λ (y : Managing). IsUnfailed y.manager.writing)
      (λ here. call_unfailed x.manager (calls.Packet h.packet.bytes (Some h.packet.slid)) tt
      (λ p there is answered was_done says. none_fails x g which h e here p there is answered was_done says) good)
      (λ _. good)

  sent_unfailed : (x : Managing) (o : Option Outgoing) → IsUnfailed x.manager.writing → IsUnfailed (sending x o).manager.writing
  sent_unfailed x None good = good
  sent_unfailed x (Some o) good = good

  event_unfailed : (x : Managing) (event : ManagerEvent) → Runs x → KeepsThem x event → GivesUpNone x event → IsUnfailed x.manager.writing
      → IsUnfailed (after_manager_event x event).manager.writing
  event_unfailed x (Around event) g keeps none good = good
  event_unfailed x Begin g keeps none good = call_unfailed x.manager calls.BeginSweep tt (λ p there is ends. absurd ends) good
  event_unfailed x Write g keeps none good = call_unfailed x.manager calls.WriteSteps keeps (λ p there is ends. absurd ends) good
  event_unfailed x Take g keeps none good = call_unfailed x.manager calls.Take tt (λ p there is ends. absurd ends) good
  event_unfailed x (Send which) g keeps none good = sent_unfailed x (slice_get x.out which) good
  event_unfailed x (Hear which) g keeps none good = heard_unfailed x g which (slice_get x.scene.handed which) refl good
  event_unfailed x (TimeOut transaction) g keeps none good =
      call_unfailed x.manager (calls.Timeout transaction) tt (λ p there is ends was_done says. ap (λ b. b && not was_done) (none p there ends)) good
  event_unfailed x (Raise floor) g keeps none good = call_unfailed x.manager (calls.Raise floor) tt (λ p there is ends. absurd ends) good
  event_unfailed x (Merge floor sightings) g keeps none good =
      call_unfailed x.manager (calls.Merge floor sightings) tt (λ p there is ends. absurd ends) good
  event_unfailed x (Poll lid) g keeps none good = call_unfailed x.manager (calls.Poll lid) tt (λ p there is ends. absurd ends) good
  event_unfailed x HandOver g keeps none good = call_unfailed x.manager calls.Handover tt (λ p there is ends. absurd ends) good
  event_unfailed x Yield g keeps none good = call_unfailed x.manager calls.Yield tt (λ p there is ends. absurd ends) good
  event_unfailed x Rediscover g keeps none good = call_unfailed x.manager calls.Rediscover tt (λ p there is ends. absurd ends) good

  -- the end -------------------------------------------------------------------------------------------------

  record EndsWell (m : Manager) : Type 0 where
    pub now : Writing
    pub writing : m.writing ≡ Some now
    pub good : now.has_failed ≡ false

  all_end_well : (events : List ManagerEvent) (x : Managing) → Runs x
      → AllKeep (plan_at (at_writing w before between)) (own_sets w (at_writing w before between)) events x
      → All (CanBe w.seat) events → GiveUpNone events x → IsUnfailed x.manager.writing → EndsWell (after_manager_events events x).manager
  all_end_well [] x g keep can none good = record { now = g.now; writing = g.writing; good = good g.now g.writing }
  all_end_well (event ∷ events) x g keep can none good =
      all_end_well events (after_manager_event x event) (runs_on x event g keep.0 (All-head (CanBe w.seat) event events can)) keep.1
      (All-tail (CanBe w.seat) event events can) none.1 (event_unfailed x event g keep.0 none.0 good)

  first_unfailed : IsUnfailed (at_first_steps w before between).manager.writing
  first_unfailed =
      subst (λ b. IsUnfailed (if b then after_write_steps (at_writing w before between).manager else (at_writing w before between).manager).writing)
      (sym (none-is_none _ writes.run.writing_begins))
      (λ v e. ap (λ (u : Writing). u.has_failed) (sym (same_Some _ v e)))

  pub written : AreAnswered w before between after → is_written (at_end w before between after).manager ≡ true
  written answered =
      let over = answered.over in
      let ends = all_end_well after (at_first_steps w before between) (held.begins w before between after writes.run sweep sweep_is) writes.run.keep
      writes.run.after_can answered.none_given_up first_unfailed in
      ap (is_written_by (at_end w before between after).manager.pending) ends.writing
      ∙ and_from (not ends.now.has_failed) (not (list_any (λ p. p.counts) ends.now.later) && none_counts (at_end w before between after).manager.pending)
      (ap not ends.good)
      (and_from _ _ (ap not (over.none_to_come ends.now ends.writing)) over.none_waits)

-- a writing that begins has a sweep
swept_before : (w : Managing) (before between after : List ManagerEvent) → WritesItsSweep w before between after
    → (sweep : Sweep) × ((at_writing w before between).manager.sweep ≡ Some sweep)
swept_before w before between after writes = by_sweep (at_writing w before between).manager.sweep refl
  where
    by_sweep : (o : Option Sweep) → (at_writing w before between).manager.sweep ≡ o
        → (sweep : Sweep) × ((at_writing w before between).manager.sweep ≡ Some sweep)
    by_sweep None e =
        let none : write_fault_with (at_writing w before between).manager None ≡ None =
        ap (write_fault_with (at_writing w before between).manager) (sym e) ∙ (may_begin (at_writing w before between).manager writes.run.writing_begins).may in
        absurd (cc)
    by_sweep (Some sweep) e = (sweep, e)

pub answered_plans_are_written : AnsweredPlansAreWritten
answered_plans_are_written w before between after writes answered =
    let of = swept_before w before between after writes in written w before between after writes of.0 of.1 answered

-- an answer to a step that counts has status 0
pub answers_are_done : (w : Managing) (before between after : List ManagerEvent) → WritesItsSweep w before between after
    → (which : ℕ) (h : Handed) → slice_get (at_end w before between after).scene.handed which ≡ Some h
    → is_same_port h.at (at_end w before between after).seat ≡ true
    → (p : Pending) → Contains (at_end w before between after).manager.pending p → is_step p ≡ true → counts p ≡ true
    → answers h.packet.bytes p ≡ true → is_for_sweep h.packet.bytes ≡ false → status h.packet.bytes ≡ done
answers_are_done w before between after writes =
    let of = swept_before w before between after writes in heard_done w before between after writes of.0 of.1

pub pings_arrive_once_answered : PingsArriveOnceAnswered
pings_arrive_once_answered w before between after b =
    arrives w before between after b.planned (answered_plans_are_written w before between after b.planned.writes b.answered)
