-- A manager that was just made is at rest, and begins a sweep before any writing.
use Rattle.std.proofs.Common.{◌≡◌, ◌+◌, ◌⊎◌, inl, inr, ℕ, ◌^◌, cond, List, [], ◌∷◌, refl, sym, ap, ◌∙◌, subst}
use Rattle.std.proofs.lemmas.Bool.{cond_both}
use Rattle.std.specs.Prelude.{Option, Some, None, is_none, nat_le, slice_get}
use Rattle.smp_bytes.specs.declared.smp_fault.SmpFault.{SmpFault}
use Rattle.fabric_model.specs.Cables.{is_same_port}
use Rattle.smp_bytes.specs.Packet.{fault_of, status}
use Rattle.sm_manager.specs.declared.fault.ManagerFault.{ManagerFault}
use Rattle.sm_manager.specs.declared.outgoing.Outgoing.{Outgoing}
use Rattle.sm_manager.specs.declared.pending.Pending.{Pending}
use Rattle.sm_manager.specs.Election.{after_rediscover, handover_fault, heir_way, rediscover_fault, successor_way, poll_fault, poll_way, yield_fault}
use Rattle.sm_manager.specs.Manager.{Manager, begin_fault, after_begin_sweep}
use Rattle.sm_manager.specs.Packets.{Called, after_timeout, is_for_sweep, is_info_request, packet_taken, pending_for, request_answered, request_gave_up}
use Rattle.sm_manager.specs.Packets.{sweep_answered, sweep_gave_up, after_packet}
use Rattle.plan_steps.specs.Bound.{most_steps}
use Rattle.sm_manager.specs.PlanFaults.{number_fault, or_else, plan_fault, writing_fault}
use Rattle.fact_store.specs.View.{cells_of}
use Rattle.sm_manager.specs.ManagerRequests.{with_number}
use Rattle.sm_manager.specs.Writing.{write_fault_with}
use Rattle.manager_laws.specs.Scene.{Handed}
use Rattle.manager_laws.specs.Managing.{Managing, ManagerEvent, Begin, Write, Take, Send, Hear, TimeOut, Poll, HandOver, Yield, Rediscover}
use Rattle.manager_laws.specs.Managing.{NewManagersRest, hearing, sending, after_manager_event}
use Rattle.manager_laws.specs.Written.{BeginsNoWriting, BeginsSweep, NewManagersSweepFirst, SweepsFirst}
use Rattle.manager_laws.proofs.Before.{takes_first}
use Rattle.manager_laws.proofs.Follows.{KeepsSweep, handed_keeps, polled_keeps, request_keeps, served_keeps}
use Rattle.sm_manager.specs.Traps.{represses}
use Rattle.manager_laws.proofs.Generations.{nothing_held}

pub new_managers_rest : NewManagersRest
new_managers_rest port_guid port priority conduct planning = record { sweep = refl; pending = refl; outgoing = refl; facts = nothing_held; floor = refl }

-- a manager that never began a sweep ------------------------------------------------------------------------

abbrev NeverSwept : Managing → Type 0
NeverSwept w = w.manager.sweep ≡ None

still : (m after : Manager) → m.sweep ≡ None → KeepsSweep m after → after.sweep ≡ None
still m after never keeps = keeps.sweep ∙ never

-- hears nothing that its sweep asked for
heard : (m : Manager) (bytes : List ℕ) (lid : Option ℕ) → m.sweep ≡ None → (after_packet m bytes lid).manager.sweep ≡ None
heard m bytes lid never = by_fault (fault_of bytes)
  where
    by_pending : (o : Option Pending) → (request_answered m bytes o).manager.sweep ≡ None
    by_pending None = never
    by_pending (Some p) = still m _ never (request_keeps m p (Some (status bytes)) p.purpose)

    by_fault : (why : Option SmpFault) → (packet_taken m bytes lid why).manager.sweep ≡ None
    by_fault (Some why) = never
    by_fault None =
        cond_both (is_info_request bytes) _ _ (λ (x : Called). x.manager.sweep ≡ None)
        (λ _. still m _ never (served_keeps m bytes lid))
        (λ _. cond_both (represses m bytes) _ _ (λ (x : Called). x.manager.sweep ≡ None) (λ _. never)
        (λ _. cond_both (is_for_sweep bytes) _ _ (λ (x : Called). x.manager.sweep ≡ None)
        (λ _. subst (λ o. (sweep_answered m bytes o).manager.sweep ≡ None) (sym never) never)
        (λ _. by_pending (pending_for m bytes))))

timed : (m : Manager) (transaction : ℕ) → m.sweep ≡ None → (after_timeout m transaction).manager.sweep ≡ None
timed m transaction never =
    cond_both (nat_le (2 ^ 32) transaction) _ _ (λ (x : Called). x.manager.sweep ≡ None)
    (λ _. subst (λ o. (sweep_gave_up m transaction o).manager.sweep ≡ None) (sym never) never)
    (λ _. by_pending (with_number transaction m.pending))
  where
    by_pending : (o : Option Pending) → (request_gave_up m o).manager.sweep ≡ None
    by_pending None = never
    by_pending (Some p) = still m _ never (request_keeps m p None p.purpose)

-- goes on so until it begins one
goes_on : (w : Managing) (event : ManagerEvent) → NeverSwept w → BeginsSweep w event ⊎ NeverSwept (after_manager_event w event)
goes_on w Begin never = by_fault (begin_fault w.manager) refl
  where
    by_fault : (why : Option ManagerFault) → begin_fault w.manager ≡ why → BeginsSweep w Begin ⊎ NeverSwept (after_manager_event w Begin)
    by_fault None e = inl e
    by_fault (Some why) e =
        inr (ap (λ o. (cond (is_none o) (after_begin_sweep w.manager) w.manager).sweep) e ∙ never)
goes_on w Write never = inr (cond_both (is_none (writing_fault w.manager)) _ _ (λ (x : Manager). x.sweep ≡ None) (λ _. never) (λ _. never))
goes_on w Take never = inr ((takes_first w.manager).sweep ∙ never)
goes_on w (Send which) never = inr (by_packet (slice_get w.out which))
  where
    by_packet : (o : Option Outgoing) → NeverSwept (sending w o)
    by_packet None = never
    by_packet (Some o) = never
goes_on w (Hear which) never = inr (by_handed (slice_get w.scene.handed which))
  where
    by_handed : (m : Option Handed) → NeverSwept (hearing w m)
    by_handed None = never
    by_handed (Some h) =
        cond_both (is_same_port h.at w.seat) _ _ (λ (x : Managing). NeverSwept x) (λ _. heard w.manager h.packet.bytes (Some h.packet.slid) never) (λ _. never)
goes_on w (TimeOut transaction) never = inr (timed w.manager transaction never)
goes_on w (Poll lid) never = inr (cond_both (is_none (poll_fault w.manager lid)) _ _ (λ (x : Manager). x.sweep ≡ None)
    (λ _. still w.manager _ never (polled_keeps w.manager (poll_way w.manager lid))) (λ _. never))
goes_on w HandOver never =
    inr (cond_both (is_none (handover_fault w.manager)) _ _ (λ (x : Manager). x.sweep ≡ None)
    (λ _. still w.manager _ never (handed_keeps w.manager (successor_way w.manager))) (λ _. never))
goes_on w Yield never =
    inr (cond_both (is_none (yield_fault w.manager)) _ _ (λ (x : Manager). x.sweep ≡ None)
    (λ _. still w.manager _ never (handed_keeps w.manager (heir_way w.manager))) (λ _. never))
goes_on w Rediscover never =
    inr (cond_both (is_none (rediscover_fault w.manager)) (after_rediscover w.manager) w.manager (λ (x : Manager). x.sweep ≡ None) (λ _. never) (λ _. never))
goes_on w event never = inr never

-- and writes nothing
writes_nothing : (w : Managing) (event : ManagerEvent) → NeverSwept w → BeginsNoWriting w event
writes_nothing w Write never =
    let m = w.manager in
    λ none. cc (sym (ap
    (λ o. or_else (write_fault_with m o) (or_else (plan_fault m.planning.lmc (cells_of m.store)) (number_fault (m.counter
    + most_steps (cells_of m.store))))) never) ∙ none)
writes_nothing w event never = tt

sweeps_first : (events : List ManagerEvent) (w : Managing) → NeverSwept w → SweepsFirst events w
sweeps_first [] w never = tt
sweeps_first (event ∷ events) w never =
    elim (goes_on w event never) [
      | inl begins ↦ inl begins
      | inr later ↦ inr (writes_nothing w event never, sweeps_first events (after_manager_event w event) later)
    ]

pub new_managers_sweep_first : NewManagersSweepFirst
new_managers_sweep_first port_guid port priority conduct planning w events new = sweeps_first events w (ap (λ (m : Manager). m.sweep) new)
