-- A manager whose writings write a plan: each packet that it gave out or is about to give out is its own, and each Set among them, like each step
-- that is still to come, carries the plan's values.
use Rattle.std.proofs.Common.{◌≡◌, ◌⊎◌, inl, inr, ℕ, ◌+◌, ◌≤◌, ◌^◌, Bool, true, false, cond, List, [], ◌∷◌, ◌++◌, length, refl, sym, ap, ◌∙◌, subst, arith}
use Rattle.std.proofs.lemmas.List.Elements.{Contains-append_cases, Contains-append_left, Contains-append_right}
use Rattle.std.proofs.lemmas.Bool.{cond_both, ltb-false}
use Rattle.std.specs.Prelude.{Contains, Option, Some, None, drop, is_none, not, slice_get, ◌&&◌, ◌||◌}
use Rattle.fabric_model.specs.declared.cable.NodePort.{NodePort}
use Rattle.fabric_model.specs.Cables.{is_same_port}
use Rattle.fabric_model.specs.DirectedWalk.{directed_end}
use Rattle.node_agents.specs.Agent.{Agent}
use Rattle.fabric_sim.specs.Simulation.{Simulation, agent_at, fabric_of}
use Rattle.fabric_sim.proofs.TripShapes.{IsAlong}
use Rattle.lft_blocks.specs.Plan.{PlanValue}
use Rattle.plan_steps.specs.declared.step.Step.{Step}
use Rattle.plan_steps.specs.Phase.{Phase}
use Rattle.sm_manager.specs.declared.outgoing.Outgoing.{Outgoing}
use Rattle.sm_manager.specs.declared.pending.Pending.{Pending}
use Rattle.sm_manager.specs.Manager.{Manager, Writing, after_begin_sweep, begin_fault, taken_of}
use Rattle.sm_manager.specs.ManagerRequests.{counts, is_for_step, is_step, no_step_waits, without_number}
use Rattle.sm_manager.specs.Packets.{Called, after_packet, after_timeout, unless_spent}
use Rattle.sm_manager.specs.PlanFaults.{writing_fault}
use Rattle.sm_manager.specs.Writing.{after_step, after_write_steps, is_spent, next_phase, noted, phase_sent, phases_by, steps_out, went_on_with, without_empty_phases}
use Rattle.manager_laws.specs.Scene.{Handed, after_event}
use Rattle.manager_laws.specs.Managing.{Managing, ManagerEvent, Around, Begin, Write, Take, Send, Hear, TimeOut, Raise, Merge, Poll, HandOver, Yield, Rediscover}
use Rattle.manager_laws.specs.Managing.{CanBe, after_manager_event, hearing, sending, taking}
use Rattle.manager_laws.specs.Sets.{Carries}
use Rattle.manager_laws.proofs.AgentSets.{AsksFor}
use Rattle.manager_laws.proofs.Answers.{was_there}
use Rattle.manager_laws.proofs.Before.{is_none-none}
use Rattle.manager_laws.proofs.Calls.{beside_swept, hands_over, packet_comes, polls_beside, rediscovers, time_passes, yields}
use Rattle.manager_laws.proofs.Fair.{AreOwnPackets, BesideCall, CanGo, IsOwnPacket, own_more, own_steps, own_still, packets_of, stays_handed, step_is_own}
use Rattle.manager_laws.proofs.Generations.{all_small, generation_small}
use Rattle.manager_laws.proofs.Goes.{Goes, NoStepWaits, heard_at_seat}
use Rattle.manager_laws.proofs.Numbered.{from_passed, length-sent_from, most_number, next_is_of, next_sent, numbered_from, out_of, rest_is_of, steps_out_are}
use Rattle.manager_laws.proofs.Steps.{IsOf, StepSent}
use Rattle.manager_laws.proofs.WritingSweeps.{Ground, begun, facts_merged, rises}
use Rattle.manager_laws.proofs.Writings.{may_write}

module _ (start : Simulation) (seat : NodePort) (plan : PlanValue) where
  -- a step can go out, and where its path leads its Set carries the plan's values
  pub record Carried (s : Step) : Type 0 where
    pub can : CanGo start seat plan s
    pub carries : (end : NodePort) → directed_end (fabric_of start) seat s.path ≡ Some end → (now : Simulation) → IsAlong start now
        → (a : Agent) → agent_at now end.node ≡ Some a → (packet : List ℕ) → AsksFor s packet → Carries plan a end.port packet

  abbrev pub AreCarried : List Phase → Type 0
  AreCarried phases = (counted : Bool) (s : Step) → IsOf phases counted s → Carried s

  abbrev pub LaterCarried : Option Writing → Type 0
  LaterCarried None = Unit {0}
  LaterCarried (Some v) = AreCarried v.later

  pub record Plans (w : Managing) : Type 0 where
    -- the steps that it gave out, or is about to
    pub all : List StepSent
    pub outgoing : AreOwnPackets start seat plan 0 all w.scene.handed w.manager.outgoing
    pub out : AreOwnPackets start seat plan 0 all w.scene.handed w.out
    pub known : (x : StepSent) → Contains all x → Carried x.step
    pub waits : NoStepWaits w.manager ⊎ LaterCarried w.manager.writing

  -- the next phase goes out ---------------------------------------------------------------------------------

  phase_plans : (w : Managing) → Plans w → (m : Manager) (v : Writing) → m.outgoing ≡ w.manager.outgoing → AreCarried v.later
      → m.counter + length (next_phase v.later).steps ≤ 2 ^ 32 → Plans (record w { manager = phase_sent m v })
  phase_plans w p m v outgoing carried most =
      let new = next_sent m.counter v.later in
      let steps = (next_phase v.later).steps in
      let counted = (next_phase v.later).counts in
      record {
        all = p.all ++ new;
        outgoing = own_more start seat plan 0 (p.all ++ new) w.scene.handed m.outgoing (steps_out m.counter steps)
            (subst (AreOwnPackets start seat plan 0 (p.all ++ new) w.scene.handed) (sym outgoing) (still w.manager.outgoing p.outgoing))
            (subst (AreOwnPackets start seat plan 0 (p.all ++ new) w.scene.handed) (sym (steps_out_are counted m.counter steps))
            (own_steps start seat plan 0 (p.all ++ new) w.scene.handed new new_own));
        out = still w.out p.out;
        known = λ x there. elim (Contains-append_cases p.all new x there) [
          | inl i ↦ p.known x i
          | inr k ↦ carried x.counts x.step (next_is_of m.counter v.later x k)
        ];
        waits = inr (λ c s is. carried c s (rest_is_of v.later c s (from_passed (drop 1 v.later) c s is)));
      }
    where
      still : (out : List Outgoing) → AreOwnPackets start seat plan 0 p.all w.scene.handed out
          → AreOwnPackets start seat plan 0 (p.all ++ next_sent m.counter v.later) w.scene.handed out
      still out own =
          packets_of start seat plan 0 0 p.all (p.all ++ next_sent m.counter v.later) (omega arith)
          (λ x there. Contains-append_left p.all (next_sent m.counter v.later) x there) w.scene.handed out own

      new_own : (x : StepSent) → Contains (next_sent m.counter v.later) x
          → IsOwnPacket start seat plan 0 (p.all ++ next_sent m.counter v.later) w.scene.handed (out_of x)
      new_own x there =
          let steps = (next_phase v.later).steps in
          let counted = (next_phase v.later).counts in
          let below = most_number m.counter (next_sent m.counter v.later) x (numbered_from counted m.counter steps) there in
          let long = length-sent_from counted m.counter steps in
          step_is_own start seat plan 0 (p.all ++ next_sent m.counter v.later) w.scene.handed x
          (carried x.counts x.step (next_is_of m.counter v.later x there)).can (omega (arith, below, long, most))
          (inr (Contains-append_right p.all (next_sent m.counter v.later) x there))

  -- a step ends ------------------------------------------------------------------------------------------------

  module _ (w : Managing) (g : Plans w) (p : Pending) (there : Contains w.manager.pending p) (is : is_step p ≡ true) (was_done : Bool) where
    left : LaterCarried w.manager.writing
    left = elim g.waits [ inl none ↦ absurd (none p there is) | inr h ↦ h ]

    abbrev ended_with : Option Writing → Manager
    ended_with o = record w.manager { pending = without_number p.number w.manager.pending; writing = noted (counts p) was_done o }

    rests : (o : Option Writing) → LaterCarried (noted (counts p) was_done o) → Plans (record w { manager = ended_with o })
    rests o h = record { all = g.all; outgoing = g.outgoing; out = g.out; known = g.known; waits = inr h }

    over_plans : (o : Option Writing) → LaterCarried o → (went_on_with (ended_with o) (noted (counts p) was_done o)).counter ≤ 2 ^ 32
        → Plans (record w { manager = went_on_with (ended_with o) (noted (counts p) was_done o) })
    over_plans None h most = rests None tt
    over_plans (Some v) h most = by_rest (no_step_waits (without_number p.number w.manager.pending)) most
      where
        by_rest : (b : Bool) → (cond b (phase_sent (ended_with (Some v)) (record v { has_failed = v.has_failed || (counts p && not was_done) }))
            (ended_with (Some v))).counter ≤ 2 ^ 32
            → Plans (record w {
              manager = cond b (phase_sent (ended_with (Some v)) (record v { has_failed = v.has_failed || (counts p && not was_done) }))
                  (ended_with (Some v));
            })
        by_rest false most = rests (Some v) h
        by_rest true most =
            phase_plans w g (ended_with (Some v)) (record v { has_failed = v.has_failed || (counts p && not was_done) }) refl h most

    step_plans : Plans (record w { manager = (unless_spent w.manager (after_step w.manager p was_done)).manager })
    step_plans =
        cond_both (is_spent (after_step w.manager p was_done)) _ _ (λ (x : Called). Plans (record w { manager = x.manager })) (λ _. g)
        (λ few. over_plans w.manager.writing left (ltb-false _ _ few))

  -- a call that ends and begins no step
  beside_plans : (old : Type 0) (w : Managing) (after : Manager) → Plans w → BesideCall start seat plan old w.scene.handed w.manager after
      → Plans (record w { manager = after })
  beside_plans old w after g call =
      record {
        all = g.all;
        outgoing = subst (AreOwnPackets start seat plan 0 g.all w.scene.handed) (sym call.outgoing)
            (own_more start seat plan 0 g.all w.scene.handed w.manager.outgoing call.more g.outgoing (call.own 0 g.all));
        out = g.out;
        known = g.known;
        waits = elim g.waits [
          | inl none ↦ inl (λ p there is. none p (call.steps_were p there is) is)
          | inr can ↦ inr (subst LaterCarried (sym call.writing) can)
        ];
      }

  -- any event ------------------------------------------------------------------------------------------------------

  -- the writings that begin write the plan
  abbrev pub WritesCarried : Managing → ManagerEvent → Type 0
  WritesCarried w Write = writing_fault w.manager ≡ None → AreCarried (phases_by w.manager w.manager.sweep)
  WritesCarried w event = Unit {0}

  module _ (ground : Ground start seat) where
    heard_plans : (old : Type 0) (w : Managing) (which : ℕ) (m : Option Handed) → slice_get w.scene.handed which ≡ m → Goes start seat plan old w → Plans w
        → Plans (hearing w m)
    heard_plans old w which None there g p = p
    heard_plans old w which (Some h) there g p =
        cond_both (is_same_port h.at w.seat) _ _ Plans
        (λ same. elim (packet_comes start seat plan ground old w.scene.handed w.manager g.fair.side g.fair.once which h (Some h.packet.slid) there
        (ap (is_same_port h.at) (sym g.fair.seat_is) ∙ same) (heard_at_seat start seat w h g.fair.seat_is same
        (was_there start w.scene.handed which h g.fair.scene.handed there))) [
          | inl call ↦ beside_plans old w (after_packet w.manager h.packet.bytes (Some h.packet.slid)).manager p call
          | inr ends ↦ subst (λ x. Plans (record w { manager = x })) (sym ends.is)
              (step_plans w p ends.step ends.there (ap is_for_step ends.purpose_is) ends.was_done)
        ])
        (λ _. p)

    pub event_plans : (old : Type 0) (w : Managing) (event : ManagerEvent) → WritesCarried w event → Goes start seat plan old w → CanBe seat event → Plans w
        → Plans (after_manager_event w event)
    event_plans old w (Around event) carried g can_be p =
        let later = stays_handed w.scene event in
        record {
          all = p.all;
          outgoing = own_still start seat plan 0 p.all w.scene.handed (after_event w.scene event).handed w.manager.outgoing later p.outgoing;
          out = own_still start seat plan 0 p.all w.scene.handed (after_event w.scene event).handed w.out later p.out;
          known = p.known;
          waits = p.waits;
        }
    event_plans old w Begin carried g can_be p =
        cond_both (is_none (begin_fault w.manager)) _ _ (λ x. Plans (record w { manager = x }))
        (λ e. beside_plans ⊥ w (after_begin_sweep w.manager) p
        (beside_swept start seat plan ground old w.scene.handed ⊥ w.manager (after_begin_sweep w.manager) g.fair.once
        (begun start seat old w.manager g.fair.side (is_none-none _ e))))
        (λ _. p)
    event_plans old w Write carried g can_be p =
        cond_both (is_none (writing_fault w.manager)) _ _ (λ x. Plans (record w { manager = x }))
        (λ e. begins (is_none-none _ e)) (λ _. p)
      where
        begins : writing_fault w.manager ≡ None → Plans (record w { manager = after_write_steps w.manager })
        begins none =
            let phases = phases_by w.manager w.manager.sweep in
            phase_plans w p w.manager (record { later = without_empty_phases phases; has_failed = false }) refl
            (λ c s is. carried none c s (from_passed phases c s is)) (may_write w.manager none).few
    event_plans old w Take carried g can_be p = by_first w.manager.outgoing p.outgoing
      where
        by_first : (out : List Outgoing) → AreOwnPackets start seat plan 0 p.all w.scene.handed out → Plans (taking w (taken_of w.manager out))
        by_first [] own = p
        by_first (o ∷ out) own =
            record {
              all = p.all;
              outgoing = own.1;
              out = own_more start seat plan 0 p.all w.scene.handed w.out (o ∷ []) p.out (own.0, tt);
              known = p.known;
              waits = p.waits;
            }
    event_plans old w (Send which) carried g can_be p = by_packet (slice_get w.out which)
      where
        by_packet : (o : Option Outgoing) → Plans (sending w o)
        by_packet None = p
        by_packet (Some o) = record { all = p.all; outgoing = p.outgoing; out = p.out; known = p.known; waits = p.waits }
    event_plans old w (Hear which) carried g can_be p = heard_plans old w which (slice_get w.scene.handed which) refl g p
    event_plans old w (TimeOut transaction) carried g can_be p =
        elim (time_passes start seat plan ground old w.scene.handed w.manager g.fair.side g.fair.once transaction) [
          | inl call ↦ beside_plans old w (after_timeout w.manager transaction).manager p call
          | inr ends ↦ subst (λ x. Plans (record w { manager = x })) (sym ends.is)
              (step_plans w p ends.step ends.there (ap is_for_step ends.purpose_is) ends.was_done)
        ]
    event_plans old w (Raise floor) carried g can_be p =
        beside_plans old w _ p
        (beside_swept start seat plan ground old w.scene.handed old w.manager _ g.fair.once
        (rises start seat old w.manager g.fair.side floor (generation_small floor can_be)))
    event_plans old w (Merge floor sightings) carried g can_be p =
        beside_plans old w _ p
        (beside_swept start seat plan ground old w.scene.handed old w.manager _ g.fair.once
        (facts_merged start seat old w.manager g.fair.side floor sightings (generation_small floor can_be.0) (all_small sightings can_be.1)))
    event_plans old w (Poll lid) carried g can_be p =
        beside_plans old w _ p (polls_beside start seat plan ground old w.scene.handed w.manager g.fair.side g.fair.once lid)
    event_plans old w HandOver carried g can_be p =
        beside_plans old w _ p (hands_over start seat plan ground old w.scene.handed w.manager g.fair.side g.fair.once)
    event_plans old w Yield carried g can_be p =
        beside_plans old w _ p (yields start seat plan ground old w.scene.handed w.manager g.fair.side g.fair.once)
    event_plans old w Rediscover carried g can_be p =
        beside_plans old w _ p (rediscovers start seat plan ground old w.scene.handed w.manager g.fair.side g.fair.once)
