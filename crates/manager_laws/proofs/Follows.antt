-- While no other sweep begins, a manager knows what its sweep was told.
use Rattle.std.proofs.Common.{◌≡◌, ℕ, ◌≤◌, ◌^◌, Bool, true, false, cond, List, [], ◌∷◌, ◌++◌, refl, sym, ap, ◌∙◌, subst, arith}
use Rattle.std.proofs.lemmas.Bool.{cond_both}
use Rattle.std.proofs.lemmas.List.Elements.{All-nil, All-cons}
use Rattle.std.specs.Prelude.{Option, Some, None, Result, Ok, Err, All, is_none, max, nat_le, slice_get}
use Rattle.fabric_model.specs.declared.cable.NodePort.{NodePort}
use Rattle.smp_bytes.specs.declared.smp_fault.SmpFault.{SmpFault}
use Rattle.fabric_model.specs.Cables.{is_same_port}
use Rattle.smp_bytes.specs.Field.{number_in}
use Rattle.smp_bytes.specs.Packet.{attribute_modifier, fault_of, status}
use Rattle.fabric_sim.specs.Simulation.{Simulation}
use Rattle.reply_facts.specs.declared.report.Report.{Report}
use Rattle.fact_store.specs.Merge.{merge}
use Rattle.fact_store.specs.Seen.{seen}
use Rattle.fact_store.specs.View.{cells_of, view, view_at}
use Rattle.fact_store.proofs.Merges.{at_same_floor, raised_same}
use Rattle.fact_store.proofs.Views.{raised_is_merge, view_of_both}
use Rattle.lft_blocks.specs.Plan.{PlanValue}
use Rattle.sweep.specs.declared.answer.Answer.{Answer}
use Rattle.sweep.specs.declared.fault.SweepFault.{SweepFault}
use Rattle.sweep.specs.declared.request.Request.{Request}
use Rattle.sweep.specs.Sweep.{Sweep, request_with, after_timeout_of, timeout_fault}
use Rattle.sweep.specs.Replies.{judged, after_reply, after_reply_to, request_of, sightings_by}
use Rattle.sm_state.specs.declared.event.Event.TheVariants as event
use Rattle.sm_state.specs.declared.event.Message.{Message}
use Rattle.sm_state.specs.declared.transition.Transition.{Transition}
use Rattle.sm_state.specs.Transitions.{status_of, stepped}
use Rattle.sm_manager.specs.declared.outgoing.Outgoing.{Outgoing}
use Rattle.sm_manager.specs.declared.pending.Pending.{Pending}
use Rattle.sm_manager.specs.declared.pending.Purpose.{Purpose}
use Rattle.sm_manager.specs.declared.pending.Purpose.TheVariants as purpose
use Rattle.sm_manager.specs.declared.way.Way.{Way}
use Rattle.sm_manager.specs.Election.{after_rediscover, handed_to, handover_fault, handover_move, heir_way, rediscover_fault, successor_way, poll_fault, poll_way, polled_by, after_message, yield_fault}
use Rattle.sm_manager.specs.Manager.{Manager, Writing, begin_fault}
use Rattle.sm_manager.specs.Packets.{Called, answered_by, after_timeout, is_for_sweep, is_info_request, packet_taken, pending_for}
use Rattle.sm_manager.specs.Packets.{request_answered, request_gave_up, after_request}
use Rattle.sm_manager.specs.Packets.{sweep_answered, sweep_gave_up, sweep_timed_out, after_packet, unless_spent}
use Rattle.sm_manager.specs.PlanFaults.{writing_fault}
use Rattle.sm_manager.specs.ManagerRequests.{counts, no_step_waits, with_number, without_number}
use Rattle.sm_manager.specs.SmInfoAnswers.{acknowledged_by, answering, controlled, is_control, moved_on, replying, request_counted, served}
use Rattle.sm_manager.specs.Traps.{represses, repressing}
use Rattle.sm_state.specs.Standing.{after_request_heard, moved_to}
use Rattle.sm_manager.specs.Writing.{is_done_by, is_spent, noted, after_step, went_on_with}
use Rattle.manager_laws.specs.Scene.{Handed, Scene}
use Rattle.manager_laws.specs.Sweeping as sweeping
use Rattle.manager_laws.specs.Sweeping.{AlwaysSo, Sweeping, SweepEvent, reports_of, after_sweep_event, after_sweep_events}
use Rattle.manager_laws.specs.Complete.{facts_of}
use Rattle.manager_laws.proofs.Sweeps.{told_in, told_more}
use Rattle.manager_laws.specs.Managing.{Managing, ManagerEvent, Around, Begin, Write, Take, Send, Hear, TimeOut, Raise, Merge, Poll, HandOver, Yield, Rediscover, CanBe}
use Rattle.manager_laws.specs.Managing.{hearing, sending, after_manager_event}
use Rattle.manager_laws.specs.WritingPings.{BeginsNoSweep}
use Rattle.manager_laws.proofs.Before.{is_none-none, takes_first}
use Rattle.manager_laws.proofs.Followed.{SeenBySweeps, HasAskedAll, nothing_seen, event_seen, asks, asks_can, asks_all, asks_stay}
use Rattle.manager_laws.proofs.Generations.{AreOf, answer_of, cells_above, of_both}
use Rattle.manager_laws.proofs.Goes.{Goes}
use Rattle.manager_laws.proofs.WritingSweeps.{Ground}

-- what ends or begins is nothing to the sweep -----------------------------------------------------------------

pub record KeepsSweep (m after : Manager) : Type 0 where
  pub sweep : after.sweep ≡ m.sweep
  pub store : after.store ≡ m.store

kept : (m : Manager) → KeepsSweep m m
kept m = record { sweep = refl; store = refl }

pub step_keeps : (m : Manager) (p : Pending) (was_done : Bool) → KeepsSweep m (unless_spent m (after_step m p was_done)).manager
step_keeps m p was_done =
    cond_both (is_spent (after_step m p was_done)) _ _ (λ (x : Called). KeepsSweep m x.manager) (λ _. kept m) (λ _. by_writing m.writing)
  where
    ended : (o : Option Writing) → Manager
    ended o = record m { pending = without_number p.number m.pending; writing = noted (counts p) was_done o }

    by_writing : (o : Option Writing) → KeepsSweep m (went_on_with (ended o) (noted (counts p) was_done o))
    by_writing None = record { sweep = refl; store = refl }
    by_writing (Some v) =
        cond_both (no_step_waits (without_number p.number m.pending)) _ _ (KeepsSweep m) (λ _. record { sweep = refl; store = refl })
        (λ _. record { sweep = refl; store = refl })

pub request_keeps : (m : Manager) (p : Pending) (answer : Option ℕ) (u : Purpose) → KeepsSweep m (after_request m p answer u).manager
request_keeps m p answer purpose.Poll = record { sweep = refl; store = refl }
request_keeps m p answer purpose.Control = record { sweep = refl; store = refl }
request_keeps m p answer (purpose.Step counts) = step_keeps m p (is_done_by answer)

told_keeps : (m : Manager) (way : Option Way) (message : Option Message) → KeepsSweep m (after_message m way message)
told_keeps m None message = kept m
told_keeps m (Some way) None = kept m
told_keeps m (Some way) (Some message) = record { sweep = refl; store = refl }

pub polled_keeps : (m : Manager) (way : Option Way) → KeepsSweep m (polled_by m way)
polled_keeps m None = kept m
polled_keeps m (Some way) = record { sweep = refl; store = refl }

pub served_keeps : (m : Manager) (bytes : List ℕ) (lid : Option ℕ) → KeepsSweep m (unless_spent m (served m bytes lid)).manager
served_keeps m bytes lid =
    cond_both (is_spent (served m bytes lid)) _ _ (λ (x : Called). KeepsSweep m x.manager) (λ _. kept m)
    (λ _. cond_both (is_control m.standing bytes) (controlled m bytes lid) (replying m bytes lid) (KeepsSweep m)
    (λ _. by_move (stepped m.standing.conduct m.standing.state (event.Control (number_in attribute_modifier bytes))))
    (λ _. record { sweep = refl; store = refl }))
  where
    by_move : (move : Transition) → KeepsSweep m (moved_on (request_counted m) bytes lid move)
    by_move move =
        let answered = answering (record m { standing = moved_to move.state (after_request_heard m.standing) }) bytes lid (status_of move) in
        let keeps = told_keeps answered (acknowledged_by bytes lid) move.message in
        record { sweep = keeps.sweep; store = keeps.store }

pub handed_keeps : (m : Manager) (way : Option Way) → KeepsSweep m (handed_to m way)
handed_keeps m way =
    let keeps = told_keeps (record m { standing = moved_to (handover_move m).state m.standing }) way (handover_move m).message in
    record { sweep = keeps.sweep; store = keeps.store }

-- a sweep keeps its generation ----------------------------------------------------------------------------------

replied_generation : (s : Sweep) (bytes : List ℕ) → (after_reply s bytes).generation ≡ s.generation
replied_generation s bytes = by_request (request_of s bytes)
  where
    by_request : (m : Option Request) → (after_reply_to s bytes m).generation ≡ s.generation
    by_request None = refl
    by_request (Some r) = refl

timed_generation : (s : Sweep) (m : Option Request) → (after_timeout_of s m).generation ≡ s.generation
timed_generation s None = refl
timed_generation s (Some r) = refl

-- a sweep beside a manager --------------------------------------------------------------------------------------

-- its generation is not below the floor of what the manager knows, and no sighting that it was told is
pub record Follows (w : Managing) (u : Sweeping) : Type 0 where
  pub scene : u.scene ≡ w.scene
  pub seat : u.seat ≡ w.seat
  pub sweep : w.manager.sweep ≡ Some u.sweep
  pub floor : ℕ
  pub generation : floor ≤ u.sweep.generation
  pub told : AreOf (λ g. floor ≤ g) (told_in u.reports)
  pub store : w.manager.store ≡ view_at floor (told_in u.reports)

-- so the manager holds all that it was told
pub holds_all : (w : Managing) (u : Sweeping) → Follows w u → cells_of w.manager.store ≡ cells_of (facts_of u.reports)
holds_all w u f = ap cells_of f.store ∙ cells_above f.floor (told_in u.reports) f.told

pub record IsFollowed (is_so : Scene → Type 0) (after : Managing) (u : Sweeping) : Type 0 where
  pub events : List SweepEvent
  pub can_be : All sweeping.CanBe events
  pub follows : Follows after (after_sweep_events events u)
  pub stays : AlwaysSo is_so events u

-- what is nothing to the manager's sweep
quiet_followed : (is_so : Scene → Type 0) (w after : Managing) (u : Sweeping) → SeenBySweeps is_so w.scene after.scene → after.seat ≡ w.seat
    → KeepsSweep w.manager after.manager → Follows w u
    → IsFollowed is_so after u
quiet_followed is_so w after u seen seat keeps f =
    record {
      events = seen.events;
      can_be = seen.can_be;
      stays = seen.stays u f.scene;
      follows = subst (Follows after) (sym (seen.is u f.scene))
          (record {
            scene = refl;
            seat = f.seat ∙ sym seat;
            sweep = keeps.sweep ∙ f.sweep;
            floor = f.floor;
            generation = f.generation;
            told = f.told;
            store = keeps.store ∙ f.store;
          });
    }

-- what an answer tells is what its report does
facts_more : (floor : ℕ) (reports : List Report) (answer : Answer)
    → merge (view_at floor (told_in reports)) (view (sightings_by answer)) ≡ view_at floor (told_in (reports ++ reports_of answer))
facts_more floor reports answer =
    sym (view_of_both floor 1 (told_in reports) (sightings_by answer))
    ∙ at_same_floor (max floor 1) floor (seen (told_in reports ++ sightings_by answer)) (omega arith)
    ∙ ap (view_at floor) (sym (told_more reports answer))

module _ (is_so : Scene → Type 0) (start : Simulation) (seat : NodePort) (plan : PlanValue) (ground : Ground start seat) where
  -- a reply that the sweep takes ---------------------------------------------------------------------------------

  module _ (w : Managing) (u : Sweeping) (f : Follows w u) (bytes : List ℕ) (answer : Answer) (taken : judged u.sweep bytes ≡ Ok answer) where
    reply_follows : (which : ℕ) (h : Handed) → slice_get w.scene.handed which ≡ Some h → h.packet.bytes ≡ bytes → is_same_port h.at w.seat ≡ true
        → is_so w.scene
        → (after : Manager) → after ≡ (answered_by w.manager u.sweep bytes (Ok answer)).manager → IsFollowed is_so (record w { manager = after }) u
    reply_follows which h there bytes_are same stays after after_is =
        record {
          events = sweeping.Hear which ∷ asks (after_reply u.sweep bytes).queued;
          stays = subst (λ x. is_so x.scene × AlwaysSo is_so (asks (after_reply u.sweep bytes).queued) x) (sym heard)
              (subst (is_so) (sym f.scene) stays, asks_stay is_so (after_reply u.sweep bytes).queued hears (subst (is_so) (sym f.scene) stays));
          can_be = All-cons sweeping.CanBe (sweeping.Hear which) (asks (after_reply u.sweep bytes).queued) tt (asks_can (after_reply u.sweep bytes).queued);
          follows = subst (λ x. Follows (record w { manager = after }) (after_sweep_events (asks (after_reply u.sweep bytes).queued) x)) (sym heard)
              (subst (λ x. Follows (record w { manager = x }) (after_sweep_events (asks (after_reply u.sweep bytes).queued) hears)) (sym after_is)
              (record {
                scene = all.scene ∙ f.scene;
                seat = all.seat ∙ f.seat;
                sweep = ap (λ x. Some x) (sym all.sweep);
                floor = f.floor;
                generation = subst (λ g. f.floor ≤ g) (sym (ap (λ (x : Sweep). x.generation) all.sweep ∙ replied_generation u.sweep bytes)) f.generation;
                told = subst (AreOf (λ g. f.floor ≤ g)) (sym (ap told_in all.reports ∙ told_more u.reports answer))
                    (of_both (λ g. f.floor ≤ g) (told_in u.reports) (sightings_by answer) f.told
                    (answer_of (λ g. f.floor ≤ g) u.sweep bytes answer f.generation taken));
                store = ap (λ x. merge x (view (sightings_by answer))) f.store ∙ facts_more f.floor u.reports answer
                    ∙ ap (λ (reports : List Report). view_at f.floor (told_in reports)) (sym all.reports);
              }));
        }
      where
        hears : Sweeping
        hears = record u { sweep = after_reply u.sweep bytes; reports = u.reports ++ reports_of answer }

        heard : after_sweep_event u (sweeping.Hear which) ≡ record u { sweep = after_reply u.sweep bytes; reports = u.reports ++ reports_of answer }
        heard =
            ap (sweeping.hearing u) (ap (λ (x : Scene). slice_get x.handed which) f.scene ∙ there)
            ∙ ap (λ b. cond b (sweeping.with_answer u h.packet.bytes (judged u.sweep h.packet.bytes)) u) (ap (is_same_port h.at) f.seat ∙ same)
            ∙ ap (λ x. sweeping.with_answer u x (judged u.sweep x)) bytes_are
            ∙ ap (sweeping.with_answer u bytes) taken

        all : HasAskedAll (record u { sweep = after_reply u.sweep bytes; reports = u.reports ++ reports_of answer })
            (after_sweep_events (asks (after_reply u.sweep bytes).queued) (record u {
              sweep = after_reply u.sweep bytes;
              reports = u.reports
                  ++ reports_of answer;
            }))
        all = asks_all (after_reply u.sweep bytes).queued (record u { sweep = after_reply u.sweep bytes; reports = u.reports ++ reports_of answer }) refl

  -- events ---------------------------------------------------------------------------------------------------------

  heard_followed : (w : Managing) (which : ℕ) (m : Option Handed) (u : Sweeping) → slice_get w.scene.handed which ≡ m → Goes start seat plan ⊥ w → Follows w u
      → is_so w.scene → IsFollowed is_so (hearing w m) u
  heard_followed w which None u there g f now = quiet_followed is_so w w u (nothing_seen is_so w.scene) refl (kept w.manager) f
  heard_followed w which (Some h) u there g f now = by_port (is_same_port h.at w.seat) refl
    where
      quiet : (after : Manager) → KeepsSweep w.manager after → IsFollowed is_so (record w { manager = after }) u
      quiet after keeps = quiet_followed is_so w (record w { manager = after }) u (nothing_seen is_so w.scene) refl keeps f

      by_answer : is_same_port h.at w.seat ≡ true → (r : Result Answer SweepFault) → judged u.sweep h.packet.bytes ≡ r
          → IsFollowed is_so (record w { manager = (answered_by w.manager u.sweep h.packet.bytes r).manager }) u
      by_answer same (Err why) e = quiet w.manager (kept w.manager)
      by_answer same (Ok answer) e =
          reply_follows w u f h.packet.bytes answer e which h there refl same now (answered_by w.manager u.sweep h.packet.bytes (Ok answer)).manager refl

      by_pending : (o : Option Pending) → KeepsSweep w.manager (request_answered w.manager h.packet.bytes o).manager
      by_pending None = kept w.manager
      by_pending (Some p) = request_keeps w.manager p (Some (status h.packet.bytes)) p.purpose

      by_fault : is_same_port h.at w.seat ≡ true → (why : Option SmpFault)
          → IsFollowed is_so (record w { manager = (packet_taken w.manager h.packet.bytes (Some h.packet.slid) why).manager }) u
      by_fault same (Some why) = quiet w.manager (kept w.manager)
      by_fault same None =
          cond_both (is_info_request h.packet.bytes) _ _ (λ (x : Called). IsFollowed is_so (record w { manager = x.manager }) u)
          (λ _. quiet _ (served_keeps w.manager h.packet.bytes (Some h.packet.slid)))
          (λ _. cond_both (represses w.manager h.packet.bytes) _ _ (λ (x : Called). IsFollowed is_so (record w { manager = x.manager }) u)
          (λ _. quiet (repressing w.manager h.packet.bytes (Some h.packet.slid)) (record { sweep = refl; store = refl }))
          (λ _. cond_both (is_for_sweep h.packet.bytes) _ _ (λ (x : Called). IsFollowed is_so (record w { manager = x.manager }) u)
          (λ _. subst (λ o. IsFollowed is_so (record w { manager = (sweep_answered w.manager h.packet.bytes o).manager }) u) (sym f.sweep)
          (by_answer same (judged u.sweep h.packet.bytes) refl))
          (λ _. quiet _ (by_pending (pending_for w.manager h.packet.bytes)))))

      by_port : (b : Bool) → is_same_port h.at w.seat ≡ b → IsFollowed is_so
          (cond b (record w { manager = (after_packet w.manager h.packet.bytes (Some h.packet.slid)).manager }) w) u
      by_port false e = quiet_followed is_so w w u (nothing_seen is_so w.scene) refl (kept w.manager) f
      by_port true e = by_fault e (fault_of h.packet.bytes)

  timed_followed : (w : Managing) (transaction : ℕ) (u : Sweeping) → Follows w u → is_so w.scene
      → IsFollowed is_so (record w { manager = (after_timeout w.manager transaction).manager }) u
  timed_followed w transaction u f now =
      cond_both (nat_le (2 ^ 32) transaction) _ _ (λ (x : Called). IsFollowed is_so (record w { manager = x.manager }) u)
      (λ _. subst (λ o. IsFollowed is_so (record w { manager = (sweep_gave_up w.manager transaction o).manager }) u) (sym f.sweep)
      (by_fault (timeout_fault u.sweep transaction)))
      (λ _. quiet _ (by_pending (with_number transaction w.manager.pending)))
    where
      quiet : (after : Manager) → KeepsSweep w.manager after → IsFollowed is_so (record w { manager = after }) u
      quiet after keeps = quiet_followed is_so w (record w { manager = after }) u (nothing_seen is_so w.scene) refl keeps f

      by_pending : (o : Option Pending) → KeepsSweep w.manager (request_gave_up w.manager o).manager
      by_pending None = kept w.manager
      by_pending (Some p) = request_keeps w.manager p None p.purpose

      by_fault : (why : Option SweepFault) → IsFollowed is_so (record w { manager = (sweep_timed_out w.manager u.sweep transaction why).manager }) u
      by_fault (Some why) = quiet w.manager (kept w.manager)
      by_fault None =
          record {
            events = sweeping.TimeOut transaction ∷ [];
            stays = (subst (is_so) (sym f.scene) now, tt);
            can_be = All-cons sweeping.CanBe (sweeping.TimeOut transaction) [] tt (All-nil sweeping.CanBe);
            follows = record {
              scene = f.scene;
              seat = f.seat;
              sweep = refl;
              floor = f.floor;
              generation = subst (λ g. f.floor ≤ g)
                  (sym (timed_generation u.sweep (request_with u.sweep.generation transaction u.sweep.outstanding))) f.generation;
              told = f.told;
              store = f.store;
            };
          }

  pub event_followed : (w : Managing) (event : ManagerEvent) (u : Sweeping) → Goes start seat plan ⊥ w → BeginsNoSweep w event → CanBe seat event → Follows w u
      → is_so w.scene → is_so (after_manager_event w event).scene → IsFollowed is_so (after_manager_event w event) u
  event_followed w (Around event) u g quiet can_be f now stays =
      quiet_followed is_so w (after_manager_event w (Around event)) u (event_seen is_so start seat plan ⊥ w.manager.counter [] w (Around event) g.fair can_be stays)
      refl
      (kept w.manager) f
  event_followed w Begin u g quiet can_be f now stays =
      quiet_followed is_so w (after_manager_event w Begin) u (nothing_seen is_so w.scene) refl
      (cond_both (is_none (begin_fault w.manager)) _ _ (KeepsSweep w.manager) (λ e. absurd (quiet (is_none-none _ e))) (λ _. kept w.manager)) f
  event_followed w Write u g quiet can_be f now stays =
      quiet_followed is_so w (after_manager_event w Write) u (nothing_seen is_so w.scene) refl
      (cond_both (is_none (writing_fault w.manager)) _ _ (KeepsSweep w.manager) (λ _. record { sweep = refl; store = refl }) (λ _. kept w.manager)) f
  event_followed w Take u g quiet can_be f now stays =
      let t = takes_first w.manager in
      quiet_followed is_so w (after_manager_event w Take) u (nothing_seen is_so w.scene) refl (record { sweep = t.sweep; store = t.store }) f
  event_followed w (Send which) u g quiet can_be f now stays =
      by_packet (slice_get w.out which) (event_seen is_so start seat plan ⊥ w.manager.counter [] w (Send which) g.fair can_be stays)
    where
      by_packet : (o : Option Outgoing) → SeenBySweeps is_so w.scene (sending w o).scene → IsFollowed is_so (sending w o) u
      by_packet None seen = quiet_followed is_so w w u seen refl (kept w.manager) f
      by_packet (Some o) seen = quiet_followed is_so w (sending w (Some o)) u seen refl (kept w.manager) f
  event_followed w (Hear which) u g quiet can_be f now stays = heard_followed w which (slice_get w.scene.handed which) u refl g f now
  event_followed w (TimeOut transaction) u g quiet can_be f now stays = timed_followed w transaction u f now
  event_followed w (Raise floor) u g quiet can_be f now stays =
      quiet_followed is_so w (after_manager_event w (Raise floor)) u (nothing_seen is_so w.scene) refl (record {
        sweep = refl;
        store =
            raised_same w.manager.store floor quiet;
      }) f
  event_followed w (Merge floor sightings) u g quiet can_be f now stays =
      quiet_followed is_so w (after_manager_event w (Merge floor sightings)) u (nothing_seen is_so w.scene) refl
      (record {
        sweep = refl;
        store = ap (λ told. merge w.manager.store (view_at floor told)) quiet.0 ∙ sym (raised_is_merge w.manager.store floor)
            ∙ raised_same w.manager.store floor quiet.1;
      }) f
  event_followed w (Poll lid) u g quiet can_be f now stays =
      quiet_followed is_so w (after_manager_event w (Poll lid)) u (nothing_seen is_so w.scene) refl
      (cond_both (is_none (poll_fault w.manager lid)) _ _ (KeepsSweep w.manager) (λ _. polled_keeps w.manager (poll_way w.manager lid)) (λ _. kept w.manager)) f
  event_followed w HandOver u g quiet can_be f now stays =
      quiet_followed is_so w (after_manager_event w HandOver) u (nothing_seen is_so w.scene) refl
      (cond_both (is_none (handover_fault w.manager)) _ _ (KeepsSweep w.manager) (λ _. handed_keeps w.manager (successor_way w.manager)) (λ _. kept w.manager))
      f
  event_followed w Yield u g quiet can_be f now stays =
      quiet_followed is_so w (after_manager_event w Yield) u (nothing_seen is_so w.scene) refl
      (cond_both (is_none (yield_fault w.manager)) _ _ (KeepsSweep w.manager) (λ _. handed_keeps w.manager (heir_way w.manager)) (λ _. kept w.manager)) f
  event_followed w Rediscover u g quiet can_be f now stays =
      quiet_followed is_so w (after_manager_event w Rediscover) u (nothing_seen is_so w.scene) refl
      (cond_both (is_none (rediscover_fault w.manager)) (after_rediscover w.manager) w.manager (KeepsSweep w.manager)
      (λ _. record { sweep = refl; store = refl }) (λ _. kept w.manager)) f
