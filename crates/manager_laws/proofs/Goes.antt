-- A manager goes on: each number that it gives out was not used before.
use Rattle.std.proofs.Common.{◌≡◌, ◌⊎◌, inl, inr, ℕ, ◌+◌, ◌≤◌, ◌^◌, Bool, true, false, cond, List, [], length, map, refl, sym, ◌∙◌, subst, arith}
use Rattle.std.proofs.lemmas.Bool.{cond_both, ltb-false}
use Rattle.std.specs.Prelude.{Contains, Option, Some, None, drop, not, ◌&&◌, ◌||◌}
use Rattle.fabric_model.specs.declared.cable.NodePort.{NodePort}
use Rattle.fabric_model.specs.Cables.{is_same_port}
use Rattle.fabric_model.proofs.Cabled.{same_port-is}
use Rattle.fabric_sim.specs.Simulation.{Simulation}
use Rattle.fabric_sim.proofs.Courses.{IsForManager}
use Rattle.lft_blocks.specs.Plan.{PlanValue}
use Rattle.plan_steps.specs.declared.step.Step.{Step}
use Rattle.plan_steps.specs.Phase.{Phase}
use Rattle.sm_manager.specs.declared.pending.Pending.{Pending}
use Rattle.sm_manager.specs.Manager.{Manager, Writing}
use Rattle.sm_manager.specs.Packets.{Called, unless_spent}
use Rattle.sm_manager.specs.ManagerRequests.{counts, is_step, no_step_waits, without_number}
use Rattle.sm_manager.specs.Writing.{is_spent, next_phase, next_pending, noted, without_empty_phases, phase_sent, steps_out, after_step, went_on_with}
use Rattle.manager_laws.specs.Scene.{Handed}
use Rattle.manager_laws.specs.Managing.{Managing}
use Rattle.manager_laws.proofs.Fair.{AreOwnPackets, BesideCall, CanGo, IsFair, IsOwnPacket, own_more, own_steps, step_is_own, fair_beside, fair_later}
use Rattle.manager_laws.proofs.Numbered.{AreOnce, from_passed, length-sent_from, most_number, next_is_of, next_sent, numbered_from}
use Rattle.manager_laws.proofs.Numbered.{once_more, once_without, out_of}
use Rattle.manager_laws.proofs.Numbered.{rest_is_of, steps_from, steps_once, steps_out_are}
use Rattle.manager_laws.proofs.Steps.{IsOf, StepSent}
use Rattle.manager_laws.proofs.WritingSweeps.{SweepSide}

-- a manager hears what was handed up at its seat
pub heard_at_seat : (start : Simulation) (seat : NodePort) (w : Managing) (h : Handed) → w.seat ≡ seat → is_same_port h.at w.seat ≡ true
    → IsForManager start h.at h.packet.bytes → IsForManager start seat h.packet.bytes
heard_at_seat start seat w h seat_is same is = subst (λ p. IsForManager start p h.packet.bytes) (same_port-is h.at w.seat same ∙ seat_is) is

-- no step waits
abbrev pub NoStepWaits : Manager → Type 0
NoStepWaits m = (p : Pending) → Contains m.pending p → is_step p ≡ true → ⊥

module _ (start : Simulation) (seat : NodePort) (plan : PlanValue) where
  -- phases whose steps can be sent
  abbrev pub CanAllGo : List Phase → Type 0
  CanAllGo phases = (counts : Bool) (s : Step) → IsOf phases counts s → CanGo start seat plan s

  abbrev pub CanGoOn : Option Writing → Type 0
  CanGoOn None = Unit {0}
  CanGoOn (Some v) = CanAllGo v.later

  pub passed_goes : (phases : List Phase) → CanAllGo phases → CanAllGo (without_empty_phases phases)
  passed_goes phases can counts s is = can counts s (from_passed phases counts s is)

  -- the next phase goes out -----------------------------------------------------------------------------------

  -- what stays of a manager that ended a step, but for the steps that wait
  module _ (old : Type 0) (c : ℕ) (all : List StepSent) (w : Managing) (fair : IsFair start seat plan old c all w) (m : Manager) (v : Writing)
      (outgoing : m.outgoing ≡ w.manager.outgoing) (side : SweepSide start seat old m) (once : AreOnce m.counter m.pending) where
    -- as it sends the steps of its next phase, which are its own
    pub phase_fair : AreOwnPackets start seat plan c all w.scene.handed (map out_of (next_sent m.counter v.later))
        → IsFair start seat plan old c all (record w { manager = phase_sent m v })
    phase_fair own =
        let steps = (next_phase v.later).steps in
        record {
          scene = fair.scene;
          traced = fair.traced;
          seat_is = fair.seat_is;
          side = record { port = side.port; lmc = side.lmc; sweep = side.sweep; knows = side.knows };
          once = once_more m.counter (m.counter + length steps) m.pending (next_pending m.counter v.later) once
              (steps_once (next_phase v.later).counts m.counter steps) (omega arith) (steps_from (next_phase v.later).counts m.counter steps);
          outgoing = own_more start seat plan c all w.scene.handed m.outgoing (steps_out m.counter (next_phase v.later).steps)
              (subst (AreOwnPackets start seat plan c all w.scene.handed) (sym outgoing) fair.outgoing)
              (subst (AreOwnPackets start seat plan c all w.scene.handed) (sym (steps_out_are (next_phase v.later).counts m.counter steps)) own);
          out = fair.out;
        }

  -- what is so of a manager as it goes on ----------------------------------------------------------------------

  pub record Goes (old : Type 0) (w : Managing) : Type 0 where
    pub fair : IsFair start seat plan old w.manager.counter [] w
    pub waits : NoStepWaits w.manager ⊎ CanGoOn w.manager.writing

  -- a phase goes out
  pub phase_goes : (old : Type 0) (w : Managing) (m : Manager) (v : Writing) → IsFair start seat plan old w.manager.counter [] w → m.counter ≡ w.manager.counter
      → m.outgoing ≡ w.manager.outgoing → SweepSide start seat old m → AreOnce m.counter m.pending → CanAllGo v.later
      → m.counter + length (next_phase v.later).steps ≤ 2 ^ 32 → Goes old (record w { manager = phase_sent m v })
  phase_goes old w m v fair counter outgoing side once can most =
      let more = m.counter + length (next_phase v.later).steps in
      let grown = fair_later start seat plan w.manager.counter more [] [] (omega (arith, counter)) (λ x there. there) old w fair in
      record {
        fair = phase_fair old more [] w grown m v outgoing side once (own_steps start seat plan more [] w.scene.handed (next_sent m.counter v.later) new);
        waits = inr (passed_goes (drop 1 v.later) (λ counts s is. can counts s (rest_is_of v.later counts s is)));
      }
    where
      new : (x : StepSent) → Contains (next_sent m.counter v.later) x
          → IsOwnPacket start seat plan (m.counter + length (next_phase v.later).steps) [] w.scene.handed (out_of x)
      new x there =
          let steps = (next_phase v.later).steps in
          let below = most_number m.counter (next_sent m.counter v.later) x (numbered_from (next_phase v.later).counts m.counter steps) there in
          let long = length-sent_from (next_phase v.later).counts m.counter steps in
          step_is_own start seat plan (m.counter + length (next_phase v.later).steps) [] w.scene.handed x
          (can x.counts x.step (next_is_of m.counter v.later x there))
          (omega (arith, below, long, most)) (inl (omega (arith, below, long)))

  -- a step ends
  module _ (old : Type 0) (w : Managing) (g : Goes old w) (p : Pending) (there : Contains w.manager.pending p) (is : is_step p ≡ true) (was_done : Bool) where
    can : CanGoOn w.manager.writing
    can = elim g.waits [ inl none ↦ absurd (none p there is) | inr h ↦ h ]

    abbrev ended_with : Option Writing → Manager
    ended_with o = record w.manager { pending = without_number p.number w.manager.pending; writing = noted (counts p) was_done o }

    once : AreOnce w.manager.counter (without_number p.number w.manager.pending)
    once = once_without p.number w.manager.counter w.manager.pending g.fair.once

    rests : (o : Option Writing) → CanGoOn (noted (counts p) was_done o) → Goes old (record w { manager = ended_with o })
    rests o h =
        record {
          fair = record {
            scene = g.fair.scene;
            traced = g.fair.traced;
            seat_is = g.fair.seat_is;
            side = record { port = g.fair.side.port; lmc = g.fair.side.lmc; sweep = g.fair.side.sweep; knows = g.fair.side.knows };
            once = once;
            outgoing = g.fair.outgoing;
            out = g.fair.out;
          };
          waits = inr h;
        }

    over_goes : (o : Option Writing) → CanGoOn o → (went_on_with (ended_with o) (noted (counts p) was_done o)).counter ≤ 2 ^ 32
        → Goes old (record w { manager = went_on_with (ended_with o) (noted (counts p) was_done o) })
    over_goes None h most = rests None tt
    over_goes (Some v) h most = by_rest (no_step_waits (without_number p.number w.manager.pending)) most
      where
        by_rest : (b : Bool) → (cond b (phase_sent (ended_with (Some v)) (record v { has_failed = v.has_failed || (counts p && not was_done) }))
            (ended_with (Some v))).counter ≤ 2 ^ 32
            → Goes old (record w {
              manager = cond b (phase_sent (ended_with (Some v)) (record v { has_failed = v.has_failed || (counts p && not was_done) }))
                  (ended_with (Some v));
            })
        by_rest false most = rests (Some v) h
        by_rest true most =
            phase_goes old w (ended_with (Some v)) (record v { has_failed = v.has_failed || (counts p && not was_done) }) g.fair refl refl
            (record { port = g.fair.side.port; lmc = g.fair.side.lmc; sweep = g.fair.side.sweep; knows = g.fair.side.knows }) once h most

    pub step_goes : Goes old (record w { manager = (unless_spent w.manager (after_step w.manager p was_done)).manager })
    step_goes =
        cond_both (is_spent (after_step w.manager p was_done)) _ _ (λ (x : Called). Goes old (record w { manager = x.manager })) (λ _. g)
        (λ left. over_goes w.manager.writing can (ltb-false _ _ left))

  -- a call that ends and begins no step
  pub beside_goes : (old new : Type 0) (w : Managing) (after : Manager) → Goes old w → BesideCall start seat plan new w.scene.handed w.manager after
      → Goes new (record w { manager = after })
  beside_goes old new w after g call =
      record {
        fair = fair_later start seat plan w.manager.counter after.counter [] [] call.upto (λ x there. there) new (record w { manager = after })
            (fair_beside start seat plan old new w.manager.counter [] w after g.fair call);
        waits = elim g.waits [
          | inl none ↦ inl (λ p there is. none p (call.steps_were p there is) is)
          | inr can ↦ inr (subst CanGoOn (sym call.writing) can)
        ];
      }
