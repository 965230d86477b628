-- The sweep of a manager at its seat is a sweep of the fabric, whichever it is: so it makes few requests.
use Rattle.std.proofs.Common.{◌≡◌, ◌⊎◌, inl, inr, ℕ, ◌+◌, ◌-◌, ◌<◌, ◌≤◌, ◌^◌, Bool, true, false, cond, List, [], ◌∷◌, ◌++◌, length, refl, sym, ap, ◌∙◌, subst, arith}
use Rattle.std.proofs.lemmas.Bool.{cond_both, eqb-false}
use Rattle.std.proofs.lemmas.List.{length-append}
use Rattle.std.proofs.lemmas.List.Elements.{All-nil, All-cons}
use Rattle.std.specs.List.{AllByRecursion}
use Rattle.std.specs.Prelude.{◌==◌, All, Option, Some, None, Result, Ok, Err, is_none, nat_le, slice_get}
use Rattle.fabric_model.specs.declared.cable.NodePort.{NodePort}
use Rattle.fabric_model.specs.Cables.{is_same_port}
use Rattle.smp_bytes.specs.Packet.{fault_of, status}
use Rattle.smp_bytes.specs.declared.smp_fault.SmpFault.{SmpFault}
use Rattle.fabric_sim.specs.Simulation.{fabric_of}
use Rattle.lft_blocks.specs.Plan.{PlanValue}
use Rattle.sweep.specs.declared.answer.Answer.{Answer}
use Rattle.sweep.specs.declared.fault.SweepFault.{SweepFault}
use Rattle.sweep.specs.declared.request.Request.{Request}
use Rattle.sweep.specs.Finding.{finding}
use Rattle.sweep.specs.Questions.{questions}
use Rattle.sweep.specs.Replies.{after_reply, after_reply_to, judged, request_of}
use Rattle.sweep.specs.Sweep.{Sweep, after_next_request_of, after_timeout_of, numbered, packet_of, request_with, started, timeout_fault}
use Rattle.sm_state.specs.Conduct.{is_live}
use Rattle.sm_state.specs.declared.conduct.Conduct.{Conduct}
use Rattle.plan_steps.specs.Planning.{Planning}
use Rattle.sm_manager.specs.declared.fault.ManagerFault.TheVariants as fault
use Rattle.sm_manager.specs.declared.outgoing.Outgoing.{Outgoing}
use Rattle.sm_manager.specs.declared.pending.Pending.{Pending}
use Rattle.sm_manager.specs.Election.{handover_fault, heir_way, poll_fault, poll_way, rediscover_fault, after_rediscover, successor_way, yield_fault}
use Rattle.sm_manager.specs.Manager.{Manager, after_begin_sweep, begin_fault, is_running, new_manager, newest_held, next_generation, with_all_sent}
use Rattle.sm_manager.specs.ManagerRequests.{with_number}
use Rattle.sm_manager.specs.Packets.{Called, after_packet, after_timeout, answered_by, is_for_sweep, is_info_request, packet_taken, pending_for}
use Rattle.sm_manager.specs.Packets.{request_answered, request_gave_up, sweep_answered, sweep_gave_up, sweep_timed_out}
use Rattle.sm_manager.specs.PlanFaults.{writing_fault}
use Rattle.sm_manager.specs.Traps.{represses, repressing}
use Rattle.manager_laws.specs.Managing as managing
use Rattle.manager_laws.specs.Managing.{CanBe, Managing, ManagerEvent, Starts, after_manager_event, after_manager_events, hearing, sending}
use Rattle.manager_laws.specs.Scene.{Handed, Scene}
use Rattle.manager_laws.specs.SweepEnds.{most_requests, requests_made}
use Rattle.manager_laws.specs.Sweeping as sweeping
use Rattle.manager_laws.specs.Sweeping.{Sweeping, SweepEvent, after_sweep_event, after_sweep_events, reports_of}
use Rattle.manager_laws.specs.Written.{plan_at}
use Rattle.manager_laws.proofs.Before.{by_before, takes_first}
use Rattle.manager_laws.proofs.Followed.{HasAskedAll, SeenBySweeps, asks, asks_all, asks_can, can_append, event_seen, nothing_seen, on_scene, runs_append, seen_further}
use Rattle.manager_laws.proofs.Follows.{handed_keeps, polled_keeps, request_keeps, served_keeps}
use Rattle.manager_laws.proofs.Generations.{floor_small, newest_small}
use Rattle.manager_laws.proofs.Goes.{Goes}
use Rattle.manager_laws.proofs.SweepBegins.{starting}
use Rattle.manager_laws.proofs.OneSweep.{first_begins, first_of}
use Rattle.manager_laws.proofs.Rests.{new_managers_sweep_first}
use Rattle.manager_laws.proofs.Swept as swept
use Rattle.manager_laws.proofs.WritingSweeps.{Ground}
use Rattle.manager_laws.proofs.sweep_ends.Bounds.{sweeps_ask_few}
use Rattle.fabric_sim.proofs.TripEnds.{few_ports, along_itself}
use Rattle.program_laws.specs.Deciding.{after_deciding_events}
use Rattle.program_laws.specs.ManagedEnds.{ManagedSweepsAskFew}
use Rattle.program_laws.specs.Wakes.{next_in}
use Rattle.program_laws.proofs.managed.Managed.{deciding_is_managing}
use Rattle.program_laws.proofs.wakes.Makes.{many_numbered, timeout_grows, timeout_next}

-- how many requests a sweep has made -----------------------------------------------------------------------

reply_counts : (s : Sweep) (packet : List ℕ) (o : Option Request)
    → (after_reply_to s packet o).next + length s.queued ≤ s.next + length (after_reply_to s packet o).queued
reply_counts s packet None = omega arith
reply_counts s packet (Some r) =
    let asked = questions r.path (finding s r packet) in
    let both = length-append s.queued (numbered s.next asked) in
    let all = many_numbered s.next asked in
    omega (arith, both, all)

-- as many as the numbers that it has used, counted from 1
abbrev Counts : Sweeping → Type 0
Counts u = u.sweep.next ≤ 1 + requests_made u

asked_counts : (u : Sweeping) (queue : List Request) → u.sweep.queued ≡ queue → Counts u → Counts (sweeping.asking_more u (after_next_request_of u.sweep queue))
asked_counts u [] e c = c
asked_counts u (r ∷ queue) e c =
    let long : length u.sweep.queued ≡ length (r ∷ queue) = ap length e in
    let more = length-append u.asked (packet_of u.sweep.generation r ∷ []) in
    omega (arith, c, long, more)

answer_counts : (u : Sweeping) (packet : List ℕ) (r : Result Answer SweepFault) → Counts u → Counts (sweeping.with_answer u packet r)
answer_counts u packet (Err why) c = c
answer_counts u packet (Ok answer) c = let grown = reply_counts u.sweep packet (request_of u.sweep packet) in omega (arith, c, grown)

heard_counts : (u : Sweeping) (m : Option Handed) → Counts u → Counts (sweeping.hearing u m)
heard_counts u None c = c
heard_counts u (Some h) c =
    cond_both (is_same_port h.at u.seat) _ u Counts (λ _. answer_counts u h.packet.bytes (judged u.sweep h.packet.bytes) c) (λ _. c)

sent_counts : (u : Sweeping) (o : Option (List ℕ)) → Counts u → Counts (sweeping.sending u o)
sent_counts u None c = c
sent_counts u (Some packet) c = c

event_counts : (u : Sweeping) (event : SweepEvent) → Counts u → Counts (after_sweep_event u event)
event_counts u (sweeping.Around event) c = c
event_counts u sweeping.Ask c = asked_counts u u.sweep.queued refl c
event_counts u (sweeping.Send which) c = sent_counts u (slice_get u.asked which) c
event_counts u (sweeping.Hear which) c = heard_counts u (slice_get u.scene.handed which) c
event_counts u (sweeping.TimeOut transaction) c =
    let o = request_with u.sweep.generation transaction u.sweep.outstanding in
    let next = timeout_next u.sweep o in
    let queued : length (after_timeout_of u.sweep o).queued ≡ length u.sweep.queued = ap length (timeout_grows u.sweep o) in
    omega (arith, c, next, queued)

all_count : (events : List SweepEvent) (u : Sweeping) → Counts u → Counts (after_sweep_events events u)
all_count [] u c = c
all_count (event ∷ events) u c = all_count events (after_sweep_event u event) (event_counts u event c)

-- a sweep beside a manager ----------------------------------------------------------------------------------

abbrev AnyScene : Scene → Type 0
AnyScene scene = Unit {0}

-- the sweep of the manager is that of `u`, in the same scene
record IsSweepOf (w : Managing) (u : Sweeping) : Type 0 where
  scene : u.scene ≡ w.scene
  seat : u.seat ≡ w.seat
  sweep : w.manager.sweep ≡ Some u.sweep

record IsFollowed (after : Managing) (u : Sweeping) : Type 0 where
  events : List SweepEvent
  can_be : All sweeping.CanBe events
  is : IsSweepOf after (after_sweep_events events u)

-- what is nothing to the sweep
quiet_followed : (w after : Managing) (u : Sweeping) → SeenBySweeps AnyScene w.scene after.scene → after.seat ≡ w.seat
    → after.manager.sweep ≡ w.manager.sweep → IsSweepOf w u → IsFollowed after u
quiet_followed w after u seen seat keeps is =
    record {
      events = seen.events;
      can_be = seen.can_be;
      is = subst (IsSweepOf after) (sym (seen.is u is.scene)) (record { scene = refl; seat = is.seat ∙ sym seat; sweep = keeps ∙ is.sweep });
    }

module _ (w : Managing) (u : Sweeping) (is : IsSweepOf w u) where
  quiet : (after : Manager) → after.sweep ≡ w.manager.sweep → IsFollowed (record w { manager = after }) u
  quiet after keeps = quiet_followed w (record w { manager = after }) u (nothing_seen AnyScene w.scene) refl keeps is

  -- a reply that the sweep takes
  reply_followed : (which : ℕ) (h : Handed) → slice_get w.scene.handed which ≡ Some h → is_same_port h.at w.seat ≡ true → (answer : Answer)
      → judged u.sweep h.packet.bytes ≡ Ok answer
      → IsFollowed (record w { manager = (answered_by w.manager u.sweep h.packet.bytes (Ok answer)).manager }) u
  reply_followed which h there same answer taken =
      record {
        events = sweeping.Hear which ∷ asks (after_reply u.sweep bytes).queued;
        can_be = All-cons sweeping.CanBe (sweeping.Hear which) (asks (after_reply u.sweep bytes).queued) tt (asks_can (after_reply u.sweep bytes).queued);
        is = subst (λ (x : Sweeping). IsSweepOf after (after_sweep_events (asks (after_reply u.sweep bytes).queued) x)) (sym heard)
            (record { scene = all.scene ∙ is.scene; seat = all.seat ∙ is.seat; sweep = ap (λ x. Some x) (sym all.sweep) });
      }
    where
      bytes : List ℕ
      bytes = h.packet.bytes

      after : Managing
      after = record w { manager = (answered_by w.manager u.sweep h.packet.bytes (Ok answer)).manager }

      hears : Sweeping
      hears = record u { sweep = after_reply u.sweep bytes; reports = u.reports ++ reports_of answer }

      heard : after_sweep_event u (sweeping.Hear which) ≡ hears
      heard =
          ap (sweeping.hearing u) (ap (λ (x : Scene). slice_get x.handed which) is.scene ∙ there)
          ∙ ap (λ b. cond b (sweeping.with_answer u bytes (judged u.sweep bytes)) u) (ap (is_same_port h.at) is.seat ∙ same)
          ∙ ap (sweeping.with_answer u bytes) taken

      all : HasAskedAll hears (after_sweep_events (asks (after_reply u.sweep bytes).queued) hears)
      all = asks_all (after_reply u.sweep bytes).queued hears refl

  heard_followed : (which : ℕ) (m : Option Handed) → slice_get w.scene.handed which ≡ m → IsFollowed (hearing w m) u
  heard_followed which None there = quiet_followed w w u (nothing_seen AnyScene w.scene) refl refl is
  heard_followed which (Some h) there = by_port (is_same_port h.at w.seat) refl
    where
      by_answer : is_same_port h.at w.seat ≡ true → (r : Result Answer SweepFault) → judged u.sweep h.packet.bytes ≡ r
          → IsFollowed (record w { manager = (answered_by w.manager u.sweep h.packet.bytes r).manager }) u
      by_answer same (Err why) e = quiet w.manager refl
      by_answer same (Ok answer) e = reply_followed which h there same answer e

      by_pending : (o : Option Pending) → (request_answered w.manager h.packet.bytes o).manager.sweep ≡ w.manager.sweep
      by_pending None = refl
      by_pending (Some p) = (request_keeps w.manager p (Some (status h.packet.bytes)) p.purpose).sweep

      by_fault : is_same_port h.at w.seat ≡ true → (why : Option SmpFault)
          → IsFollowed (record w { manager = (packet_taken w.manager h.packet.bytes (Some h.packet.slid) why).manager }) u
      by_fault same (Some why) = quiet w.manager refl
      by_fault same None =
          cond_both (is_info_request h.packet.bytes) _ _ (λ (x : Called). IsFollowed (record w { manager = x.manager }) u)
          (λ _. quiet _ (served_keeps w.manager h.packet.bytes (Some h.packet.slid)).sweep)
          (λ _. cond_both (represses w.manager h.packet.bytes) _ _ (λ (x : Called). IsFollowed (record w { manager = x.manager }) u)
          (λ _. quiet (repressing w.manager h.packet.bytes (Some h.packet.slid)) refl)
          (λ _. cond_both (is_for_sweep h.packet.bytes) _ _ (λ (x : Called). IsFollowed (record w { manager = x.manager }) u)
          (λ _. subst (λ o. IsFollowed (record w { manager = (sweep_answered w.manager h.packet.bytes o).manager }) u) (sym is.sweep)
          (by_answer same (judged u.sweep h.packet.bytes) refl))
          (λ _. quiet _ (by_pending (pending_for w.manager h.packet.bytes)))))

      by_port : (b : Bool) → is_same_port h.at w.seat ≡ b
          → IsFollowed (cond b (record w { manager = (after_packet w.manager h.packet.bytes (Some h.packet.slid)).manager }) w) u
      by_port false e = quiet_followed w w u (nothing_seen AnyScene w.scene) refl refl is
      by_port true e = by_fault e (fault_of h.packet.bytes)

  timed_followed : (transaction : ℕ) → IsFollowed (record w { manager = (after_timeout w.manager transaction).manager }) u
  timed_followed transaction =
      cond_both (nat_le (2 ^ 32) transaction) _ _ (λ (x : Called). IsFollowed (record w { manager = x.manager }) u)
      (λ _. subst (λ o. IsFollowed (record w { manager = (sweep_gave_up w.manager transaction o).manager }) u) (sym is.sweep)
      (by_fault (timeout_fault u.sweep transaction)))
      (λ _. quiet _ (by_pending (with_number transaction w.manager.pending)))
    where
      by_pending : (o : Option Pending) → (request_gave_up w.manager o).manager.sweep ≡ w.manager.sweep
      by_pending None = refl
      by_pending (Some p) = (request_keeps w.manager p None p.purpose).sweep

      by_fault : (why : Option SweepFault) → IsFollowed (record w { manager = (sweep_timed_out w.manager u.sweep transaction why).manager }) u
      by_fault (Some why) = quiet w.manager refl
      by_fault None =
          record {
            events = sweeping.TimeOut transaction ∷ [];
            can_be = All-cons sweeping.CanBe (sweeping.TimeOut transaction) [] tt (All-nil sweeping.CanBe);
            is = record { scene = is.scene; seat = is.seat; sweep = refl };
          }

-- the calls that are nothing to a sweep -----------------------------------------------------------------------

-- an event that begins no sweep, hears nothing, and times nothing out
abbrev IsBeside : ManagerEvent → Type 0
IsBeside managing.Begin = ⊥
IsBeside (managing.Hear which) = ⊥
IsBeside (managing.TimeOut transaction) = ⊥
IsBeside event = Unit {0}

sent_sweep : (w : Managing) (o : Option Outgoing) → (sending w o).manager.sweep ≡ w.manager.sweep
sent_sweep w None = refl
sent_sweep w (Some out) = refl

sent_seat : (w : Managing) (o : Option Outgoing) → (sending w o).seat ≡ w.seat
sent_seat w None = refl
sent_seat w (Some out) = refl

event_keeps : (w : Managing) (event : ManagerEvent) → IsBeside event → (after_manager_event w event).manager.sweep ≡ w.manager.sweep
event_keeps w (managing.Around event) beside = refl
event_keeps w managing.Begin beside = absurd beside
event_keeps w managing.Write beside =
    cond_both (is_none (writing_fault w.manager)) _ _ (λ (m : Manager). m.sweep ≡ w.manager.sweep) (λ _. refl) (λ _. refl)
event_keeps w managing.Take beside = (takes_first w.manager).sweep
event_keeps w (managing.Send which) beside = sent_sweep w (slice_get w.out which)
event_keeps w (managing.Hear which) beside = absurd beside
event_keeps w (managing.TimeOut transaction) beside = absurd beside
event_keeps w (managing.Raise floor) beside = refl
event_keeps w (managing.Merge floor sightings) beside = refl
event_keeps w (managing.Poll lid) beside =
    cond_both (is_none (poll_fault w.manager lid)) _ _
    (λ (m : Manager). m.sweep ≡ w.manager.sweep) (λ _. (polled_keeps w.manager (poll_way w.manager lid)).sweep)
    (λ _. refl)
event_keeps w managing.HandOver beside =
    cond_both (is_none (handover_fault w.manager)) _ _
    (λ (m : Manager). m.sweep ≡ w.manager.sweep) (λ _. (handed_keeps w.manager (successor_way w.manager)).sweep)
    (λ _. refl)
event_keeps w managing.Yield beside =
    cond_both (is_none (yield_fault w.manager)) _ _ (λ (m : Manager). m.sweep ≡ w.manager.sweep) (λ _. (handed_keeps w.manager (heir_way w.manager)).sweep)
    (λ _. refl)
event_keeps w managing.Rediscover beside =
    cond_both (is_none (rediscover_fault w.manager)) (after_rediscover w.manager) w.manager (λ (m : Manager). m.sweep ≡ w.manager.sweep) (λ _. refl) (λ _. refl)

-- without a sweep none comes by a packet or a time-out
answered_none : (m : Manager) (bytes : List ℕ) (o : Option Sweep) → m.sweep ≡ o → o ≡ None → (sweep_answered m bytes o).manager.sweep ≡ None
answered_none m bytes None e none = e
answered_none m bytes (Some s) e none = absurd (cc)

gave_up_none : (m : Manager) (transaction : ℕ) (o : Option Sweep) → m.sweep ≡ o → o ≡ None → (sweep_gave_up m transaction o).manager.sweep ≡ None
gave_up_none m transaction None e none = e
gave_up_none m transaction (Some s) e none = absurd (cc)

packet_none : (m : Manager) (bytes : List ℕ) (from : Option ℕ) (why : Option SmpFault) → m.sweep ≡ None → (packet_taken m bytes from why).manager.sweep ≡ None
packet_none m bytes from (Some why) none = none
packet_none m bytes from None none =
    cond_both (is_info_request bytes) _ _ (λ (x : Called). x.manager.sweep ≡ None) (λ _. (served_keeps m bytes from).sweep ∙ none)
    (λ _. cond_both (represses m bytes) _ _ (λ (x : Called). x.manager.sweep ≡ None) (λ _. none)
    (λ _. cond_both (is_for_sweep bytes) _ _ (λ (x : Called). x.manager.sweep ≡ None) (λ _. answered_none m bytes m.sweep refl none)
    (λ _. by_pending (pending_for m bytes))))
  where
    by_pending : (o : Option Pending) → (request_answered m bytes o).manager.sweep ≡ None
    by_pending None = none
    by_pending (Some p) = (request_keeps m p (Some (status bytes)) p.purpose).sweep ∙ none

timeout_none : (m : Manager) (transaction : ℕ) → m.sweep ≡ None → (after_timeout m transaction).manager.sweep ≡ None
timeout_none m transaction none =
    cond_both (nat_le (2 ^ 32) transaction) _ _ (λ (x : Called). x.manager.sweep ≡ None) (λ _. gave_up_none m transaction m.sweep refl none)
    (λ _. by_pending (with_number transaction m.pending))
  where
    by_pending : (o : Option Pending) → (request_gave_up m o).manager.sweep ≡ None
    by_pending None = none
    by_pending (Some p) = (request_keeps m p None p.purpose).sweep ∙ none

heard_none : (w : Managing) (m : Option Handed) → w.manager.sweep ≡ None → (hearing w m).manager.sweep ≡ None
heard_none w None none = none
heard_none w (Some h) none =
    cond_both (is_same_port h.at w.seat) _ _ (λ (x : Managing). x.manager.sweep ≡ None)
    (λ _. packet_none w.manager h.packet.bytes (Some h.packet.slid) (fault_of h.packet.bytes) none) (λ _. none)

-- runs ----------------------------------------------------------------------------------------------------------

module _ (from : Scene) (seat : NodePort) (plan : PlanValue) where
  -- the manager's sweep is one that began at the first scene
  record FollowsOne (w : Managing) : Type 0 where
    at : ℕ
    few : (1 ≤ at) × (at < 2 ^ 32)
    keeps : Bool
    events : List SweepEvent
    can_be : All sweeping.CanBe events
    is : IsSweepOf w (after_sweep_events events (first_of from seat at keeps))

  -- what happened so far was seen by any sweep, and the manager has no sweep, or follows one
  record IsSeen (w : Managing) : Type 0 where
    seen : SeenBySweeps AnyScene from w.scene
    sweep : (w.manager.sweep ≡ None) ⊎ FollowsOne w

  go_on : (w after : Managing) (one : FollowsOne w) → IsFollowed after (after_sweep_events one.events (first_of from seat one.at one.keeps)) → FollowsOne after
  go_on w after one more =
      record {
        at = one.at;
        few = one.few;
        keeps = one.keeps;
        events = one.events ++ more.events;
        can_be = can_append one.events more.events one.can_be more.can_be;
        is = subst (IsSweepOf after) (sym (runs_append one.events more.events (first_of from seat one.at one.keeps))) more.is;
      }

  -- a sweep begins
  module _ (old : Type 0) (w : Managing) (g : Goes from.fabric seat plan old w) (s : IsSeen w) (may : is_none (begin_fault w.manager) ≡ true) where
    abbrev at : ℕ
    at = next_generation w.manager.store

    abbrev keeps_so : Bool
    keeps_so = is_live w.manager.standing.conduct

    abbrev queue : List Request
    queue = (started seat.port (next_generation w.manager.store) 1 keeps_so).queued

    abbrev begun : Sweeping
    begun = after_sweep_events s.seen.events (first_of from seat (next_generation w.manager.store) keeps_so)

    abbrev asked : Sweeping
    asked = after_sweep_events (asks queue) begun

    spent : (runs most : Bool) → is_none (cond runs (Some fault.SweepRunning) (cond most (Some fault.GenerationsSpent) None)) ≡ true → most ≡ false
    spent true most e = absurd (cc)
    spent false true e = absurd (cc)
    spent false false e = refl

    few_left : (1 ≤ next_generation w.manager.store) × (next_generation w.manager.store < 2 ^ 32)
    few_left =
        let newest = newest_small w.manager.store g.fair.side.knows in
        let low = floor_small w.manager.store g.fair.side.knows in
        let other = spent (is_running w.manager.sweep) (newest_held w.manager.store == 2 ^ 32 - 1) may in
        let less : newest_held w.manager.store ≡ 2 ^ 32 - 1 → ⊥ = eqb-false (newest_held w.manager.store) (2 ^ 32 - 1) other in
        (omega arith, omega (arith, newest, low, less))

    begun_is : begun ≡ on_scene (first_of from seat (next_generation w.manager.store) keeps_so) w.scene
    begun_is = s.seen.is (first_of from seat (next_generation w.manager.store) keeps_so) refl

    all_asked : HasAskedAll begun asked
    all_asked = asks_all queue begun (ap (λ (y : Sweeping). y.sweep.queued) begun_is)

    sweep_is : asked.sweep ≡ with_all_sent (started seat.port (next_generation w.manager.store) 1 keeps_so)
    sweep_is = all_asked.sweep ∙ ap (λ (y : Sweeping). with_all_sent y.sweep) begun_is

    begins : FollowsOne (record w { manager = after_begin_sweep w.manager })
    begins =
        record {
          at = next_generation w.manager.store;
          few = few_left;
          keeps = keeps_so;
          events = s.seen.events ++ asks queue;
          can_be = can_append s.seen.events (asks queue) s.seen.can_be (asks_can queue);
          is = subst (IsSweepOf (record w { manager = after_begin_sweep w.manager }))
              (sym (runs_append s.seen.events (asks queue) (first_of from seat (next_generation w.manager.store) keeps_so)))
              (record {
                scene = all_asked.scene ∙ ap (λ (y : Sweeping). y.scene) begun_is;
                seat = all_asked.seat ∙ ap (λ (y : Sweeping). y.seat) begun_is ∙ sym g.fair.seat_is;
                sweep = (λ j. Some (with_all_sent (started (g.fair.side.port j) (next_generation w.manager.store) 1 keeps_so)))
                    ∙ ap (λ y. Some y) (sym sweep_is);
              });
        }

  module _ (old : Type 0) (w : Managing) (g : Goes from.fabric seat plan old w) (s : IsSeen w) where
    beside_seen : (event : ManagerEvent) → CanBe seat event → IsBeside event → (after_manager_event w event).seat ≡ w.seat
        → IsSeen (after_manager_event w event)
    beside_seen event can beside seat_is =
        record {
          seen = seen_further AnyScene from w.scene (after_manager_event w event).scene s.seen now;
          sweep = elim s.sweep [
            | inl none ↦ inl (event_keeps w event beside ∙ none)
            | inr one ↦ inr (go_on w (after_manager_event w event) one
                (quiet_followed w (after_manager_event w event) _ now seat_is (event_keeps w event beside) one.is))
          ];
        }
      where
        now : SeenBySweeps AnyScene w.scene (after_manager_event w event).scene
        now = event_seen AnyScene from.fabric seat plan old w.manager.counter [] w event g.fair can tt

    called_seen : (after : Manager) → ((w.manager.sweep ≡ None) → after.sweep ≡ None)
        → ((u : Sweeping) → IsSweepOf w u → IsFollowed (record w { manager = after }) u) → IsSeen (record w { manager = after })
    called_seen after none follows =
        record {
          seen = s.seen;
          sweep = elim s.sweep [
            | inl e ↦ inl (none e)
            | inr one ↦ inr (go_on w (record w { manager = after }) one (follows _ one.is))
          ];
        }

    heard_seen : (which : ℕ) (m : Option Handed) → slice_get w.scene.handed which ≡ m → IsSeen (hearing w m)
    heard_seen which m there =
        record {
          seen = subst (SeenBySweeps AnyScene from) (sym (heard_scene m)) s.seen;
          sweep = elim s.sweep [
            | inl e ↦ inl (heard_none w m e)
            | inr one ↦ inr (go_on w (hearing w m) one (heard_followed w _ one.is which m there))
          ];
        }
      where
        heard_scene : (m : Option Handed) → (hearing w m).scene ≡ w.scene
        heard_scene None = refl
        heard_scene (Some h) = cond_both (is_same_port h.at w.seat) _ _ (λ (x : Managing). x.scene ≡ w.scene) (λ _. refl) (λ _. refl)

    event_inv : (event : ManagerEvent) → CanBe seat event → IsSeen (after_manager_event w event)
    event_inv (managing.Around event) can = beside_seen (managing.Around event) can tt refl
    event_inv managing.Begin can =
        cond_both (is_none (begin_fault w.manager)) (after_begin_sweep w.manager) w.manager (λ (m : Manager). IsSeen (record w { manager = m }))
        (λ may. record { seen = s.seen; sweep = inr (begins old w g s may) }) (λ _. s)
    event_inv managing.Write can = beside_seen managing.Write can tt refl
    event_inv managing.Take can = beside_seen managing.Take can tt refl
    event_inv (managing.Send which) can = beside_seen (managing.Send which) can tt (sent_seat w (slice_get w.out which))
    event_inv (managing.Hear which) can = heard_seen which (slice_get w.scene.handed which) refl
    event_inv (managing.TimeOut transaction) can =
        called_seen (after_timeout w.manager transaction).manager (timeout_none w.manager transaction) (λ u is. timed_followed w u is transaction)
    event_inv (managing.Raise floor) can = beside_seen (managing.Raise floor) can tt refl
    event_inv (managing.Merge floor sightings) can = beside_seen (managing.Merge floor sightings) can tt refl
    event_inv (managing.Poll lid) can = beside_seen (managing.Poll lid) can tt refl
    event_inv managing.HandOver can = beside_seen managing.HandOver can tt refl
    event_inv managing.Yield can = beside_seen managing.Yield can tt refl
    event_inv managing.Rediscover can = beside_seen managing.Rediscover can tt refl

-- the law -----------------------------------------------------------------------------------------------------------

all_from : {X : Type 0} (P : X → Type 0) (xs : List X) → AllByRecursion P xs → All P xs
all_from P [] all = All-nil P
all_from P (x ∷ xs) all = All-cons P x xs all.0 (all_from P xs all.1)

-- the sweep of a new manager at its seat, whatever happens
module _ (w : Managing) (starts : Starts w) (port_guid port priority : ℕ) (conduct : Conduct) (planning : Planning)
    (new : w.manager ≡ new_manager port_guid port priority conduct planning) (plan : PlanValue) where
  ground : Ground w.scene.fabric w.seat
  ground =
      record {
        cables = starts.quiet.fabric.cables;
        counts = few_ports w.scene.fabric (along_itself w.scene.fabric starts.quiet.fabric).agents;
        can = swept.can_be_swept w.scene.fabric starts.quiet.fabric w.seat starts.seat starts.distinct;
        cabled = swept.is_cabled w.scene.fabric starts.quiet.fabric;
      }

  all_seen : (events : List ManagerEvent) → All (CanBe w.seat) events → IsSeen w.scene w.seat plan (after_manager_events events w)
  all_seen events all =
      by_before w.scene.fabric w.seat plan ground
      (λ events x. IsSeen w.scene w.seat plan x → IsSeen w.scene w.seat plan (after_manager_events events x))
      (λ x old g s. s)
      (λ event events x old g can later s. later (event_inv w.scene w.seat plan old x g s event can))
      events w (new_managers_sweep_first port_guid port priority conduct planning w events new) (starting w starts plan) all
      (record { seen = nothing_seen AnyScene w.scene; sweep = inl (ap (λ (m : Manager). m.sweep) new) })

  few_asked : (x : Managing) → IsSeen w.scene w.seat plan x → next_in x.manager.sweep ≤ 1 + most_requests (fabric_of w.scene.fabric)
  few_asked x s = by_sweep s.sweep
    where
      by_sweep : (x.manager.sweep ≡ None) ⊎ FollowsOne w.scene w.seat plan x → next_in x.manager.sweep ≤ 1 + most_requests (fabric_of w.scene.fabric)
      by_sweep (inl none) = let e : next_in x.manager.sweep ≡ 0 = ap next_in none in omega (arith, e)
      by_sweep (inr one) =
          let first = first_of w.scene w.seat one.at one.keeps in
          let u = after_sweep_events one.events first in
          let begins = first_begins w starts one.at one.few one.keeps in
          let few = sweeps_ask_few first one.at 1 one.events begins one.can_be in
          let counts = all_count one.events first (let two : 2 ≤ 1 + (0 + 1) = omega arith in two) in
          let same : next_in x.manager.sweep ≡ u.sweep.next = ap next_in one.is.sweep in
          omega (arith, few, counts, same)

pub managed_sweeps_ask_few : ManagedSweepsAskFew
managed_sweeps_ask_few port_guid port priority conduct planning w d events starts new stands can =
    let leads = deciding_is_managing w d events stands can in
    let plan = plan_at w in
    let seen = all_seen w starts port_guid port priority conduct planning new plan leads.events
    (all_from (CanBe w.seat) leads.events leads.can_be) in
    let few = few_asked w starts port_guid port priority conduct planning new plan (after_manager_events leads.events w) seen in
    subst (λ (scene : Scene). next_in (after_deciding_events events d).acting.manager.sweep ≤ 1 + most_requests (fabric_of scene.fabric)) stands.scene
    (subst (λ (m : Manager). next_in m.sweep ≤ 1 + most_requests (fabric_of w.scene.fabric)) leads.stands.manager few)
