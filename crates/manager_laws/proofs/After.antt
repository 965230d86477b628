-- From the writing on: each step that counts is still to be sent, or waits for its answer, or is held by its agent, or failed.
use Rattle.std.proofs.Common.{◌≡◌, ◌⊎◌, inl, inr, ℕ, ◌+◌, ◌<◌, ◌≤◌, ◌^◌, Bool, true, false, cond, List, [], ◌∷◌, ◌++◌, length}
use Rattle.std.proofs.Common.{refl, sym, ap, ◌∙◌, subst, arith}
use Rattle.std.proofs.lemmas.Bool.{cond_both, and_parts, and_from, eqb-true, eqb-false, ltb-false, or_left, or_right, not-true}
use Rattle.std.proofs.lemmas.List.Elements.{All-head, All-tail, Contains-append_left, Contains-append_right, Contains-append_cases}
use Rattle.std.specs.Prelude.{Contains, Option, Some, None, All, drop, is_none, not, slice_get, ◌==◌, ◌&&◌, ◌||◌}
use Rattle.std.specs.List.{list_any}
use Rattle.fabric_model.specs.declared.cable.NodePort.{NodePort}
use Rattle.fabric_model.specs.Cables.{is_same_port}
use Rattle.fabric_model.proofs.Cabled.{same_port-is}
use Rattle.smp_bytes.specs.Header.{sm_info}
use Rattle.smp_bytes.specs.Packet.{method}
use Rattle.smp_bytes.specs.Requests.{directed}
use Rattle.node_agents.specs.Agent.{Agent}
use Rattle.fabric_sim.specs.declared.packet.Packet.{Packet}
use Rattle.fabric_sim.specs.Simulation.{Simulation, agent_at}
use Rattle.fabric_sim.specs.ThereAndBack.{directed_packet}
use Rattle.fabric_sim.proofs.Traced.{IsForManager}
use Rattle.fabric_sim.proofs.TracedCalls.{agents_after, repeated_agents, lost_agents, emitted_agents, injected_agents}
use Rattle.fabric_sim.proofs.TripShapes.{IsAlong}
use Rattle.lft_blocks.specs.Plan.{PlanValue}
use Rattle.plan_steps.specs.declared.step.Step.{Step}
use Rattle.plan_steps.specs.Phase.{Phase}
use Rattle.sm_manager.specs.declared.outgoing.Outgoing.{Outgoing}
use Rattle.sm_manager.specs.declared.pending.Pending.{Pending}
use Rattle.sm_manager.specs.Manager.{Manager, Writing, begin_fault, after_begin_sweep, after_take_outgoing}
use Rattle.sm_manager.specs.Packets.{Called, answers, unless_spent, after_packet, after_timeout}
use Rattle.sm_manager.specs.PlanFaults.{writing_fault}
use Rattle.sm_manager.specs.ManagerRequests.{counts, is_for_step, is_step, no_step_waits, none_counts, without_number}
use Rattle.sm_manager.specs.Writing.{is_spent, is_written, is_written_by, next_phase, next_pending, noted, without_empty_phases, phase_sent, after_step, went_on_with}
use Rattle.manager_laws.specs.Scene.{Handed, Scene, Sending, ByLid, ByPath, Answer, Event, Deliver, Lose, Repeat, Send as SendFrom, Emit, after_event}
use Rattle.manager_laws.specs.Scene.{answer_to, answered_from, asks_manager, emitted, emitted_from, sent, sent_from}
use Rattle.manager_laws.proofs.Answers.{was_there}
use Rattle.manager_laws.proofs.TracedScenes.{traced_there}
use Rattle.manager_laws.specs.Managing.{Managing, ManagerEvent, Around, Begin, Write, Take, Send, Hear, TimeOut, Raise, Merge, Poll, HandOver, Yield, Rediscover}
use Rattle.manager_laws.specs.Managing.{CanBe, packet_of, sending, hearing}
use Rattle.manager_laws.specs.Managing.{after_manager_event, after_manager_events}
use Rattle.manager_laws.specs.Sets.{Carries, KeepsPlan, OwnSets}
use Rattle.manager_laws.specs.Written.{Keeps, AllKeep}
use Rattle.manager_laws.proofs.Before.{is_none-none, takes_first}
use Rattle.manager_laws.proofs.Calls.{HeardBy, beside_swept, hands_over, packet_comes, polls_beside, rediscovers, time_passes, yields}
use Rattle.manager_laws.proofs.Fair.{BesideCall, CanGo, IsFair, IsOwnPacket, own_steps, step_is_own, fair_beside, fair_later, fair_taken}
use Rattle.manager_laws.proofs.Fair.{fair_sent, fair_around}
use Rattle.manager_laws.proofs.Generations.{all_small, generation_small}
use Rattle.manager_laws.proofs.Goes.{heard_at_seat, phase_fair}
use Rattle.manager_laws.proofs.HeardAnswers.{is_answer_to}
use Rattle.manager_laws.proofs.Numbered.{AreOnce, HasNumber, from_passed, least_number, length-sent_from, most_number, next_is_of}
use Rattle.manager_laws.proofs.Numbered.{next_or_rest, next_sent, none_left_counts}
use Rattle.manager_laws.proofs.Numbered.{none_pending_counts, numbered_from, once_without, one_of_number, others_wait, others_waited}
use Rattle.manager_laws.proofs.Numbered.{out_of, passed_is_of, pending_of}
use Rattle.manager_laws.proofs.Numbered.{rest_is_of, waits_as, as_waits}
use Rattle.manager_laws.proofs.Scenes.{Sends, Tells, same_agents, Stays}
use Rattle.manager_laws.proofs.Steps.{IsOf, StepSent}
use Rattle.manager_laws.proofs.WritingSweeps.{Ground, SweepSide, begun, facts_merged, rises}
use Rattle.manager_laws.proofs.WritingTaken.{IsGood, IsDone, done_stays}

module _ (start : Simulation) (seat : NodePort) (plan : PlanValue) (c : ℕ) (phases : List Phase) where
  -- how far a writing of these phases is: which of its steps went out ---------------------------------------

  -- a request that waits is one of them
  pub record WaitsFor (all : List StepSent) (p : Pending) : Type 0 where
    pub step : StepSent
    pub there : Contains all step
    pub is : pending_of step ≡ p

  abbrev pub HowFar : Simulation → List Pending → Writing → StepSent → Type 0
  HowFar s pending v x = (v.has_failed ≡ true) ⊎ (IsDone start seat plan s x ⊎ Contains pending (pending_of x))

  pub record IsOnWay (s : Simulation) (all : List StepSent) (pending : List Pending) (counter : ℕ) (v : Writing) : Type 0 where
    pub least : (x : StepSent) → Contains all x → c ≤ x.number
    pub below : (x : StepSent) → Contains all x → x.number < counter
    pub once : (x y : StepSent) → Contains all x → Contains all y → x.number ≡ y.number → x ≡ y
    pub known : (x : StepSent) → Contains all x → IsOf phases x.counts x.step
    pub waits : (p : Pending) → Contains pending p → is_step p ≡ true → WaitsFor all p
    pub each : (x : StepSent) → Contains all x → x.counts ≡ true → HowFar s pending v x
    pub later : (counts : Bool) (t : Step) → IsOf v.later counts t → IsOf phases counts t
    pub sent : (counts : Bool) (t : Step) → IsOf phases counts t → IsOf v.later counts t ⊎ HasNumber all counts t

  pub record Writes (w : Managing) : Type 0 where
    pub all : List StepSent
    pub fair : IsFair start seat plan ⊥ c all w
    pub from : c ≤ w.manager.counter
    pub now : Writing
    pub writing : w.manager.writing ≡ Some now
    pub way : IsOnWay w.scene.fabric all w.manager.pending w.manager.counter now

  -- the next phase goes out ---------------------------------------------------------------------------------

  module _ (s : Simulation) (all : List StepSent) (pending : List Pending) (counter : ℕ) (v : Writing) (from : c ≤ counter)
      (way : IsOnWay s all pending counter v) where
    among : (x : StepSent) → Contains (all ++ next_sent counter v.later) x → Contains all x ⊎ Contains (next_sent counter v.later) x
    among x there = Contains-append_cases all (next_sent counter v.later) x there

    new_from : (x : StepSent) → Contains (next_sent counter v.later) x → counter ≤ x.number
    new_from x there = least_number counter (next_sent counter v.later) x (numbered_from (next_phase v.later).counts counter (next_phase v.later).steps) there

    new_below : (x : StepSent) → Contains (next_sent counter v.later) x → x.number < counter + length (next_phase v.later).steps
    new_below x there =
        let below = most_number counter (next_sent counter v.later) x (numbered_from (next_phase v.later).counts counter (next_phase v.later).steps) there in
        let long = length-sent_from (next_phase v.later).counts counter (next_phase v.later).steps in
        omega (arith, below, long)

    all_once : (x y : StepSent) → Contains all x ⊎ Contains (next_sent counter v.later) x → Contains all y ⊎ Contains (next_sent counter v.later) y
        → x.number ≡ y.number → x ≡ y
    all_once x y (inl i) (inl j) same = way.once x y i j same
    all_once x y (inl i) (inr k) same = let low = way.below x i in let high = new_from y k in absurd (omega (arith, low, high, same))
    all_once x y (inr k) (inl i) same = let low = way.below y i in let high = new_from x k in absurd (omega (arith, low, high, same))
    all_once x y (inr i) (inr k) same =
        one_of_number counter (next_sent counter v.later) x y (numbered_from (next_phase v.later).counts counter (next_phase v.later).steps) i k same

    pub next_way : IsOnWay s (all ++ next_sent counter v.later) (pending ++ next_pending counter v.later) (counter + length (next_phase v.later).steps)
        (record v { later = without_empty_phases (drop 1 v.later) })
    next_way =
        record {
          least = λ x there. elim (among x there) [ inl i ↦ way.least x i | inr k ↦ let high = new_from x k in omega (arith, high, from) ];
          below = λ x there. elim (among x there) [ inl i ↦ let low = way.below x i in omega (arith, low) | inr k ↦ new_below x k ];
          once = λ x y there also same. all_once x y (among x there) (among y also) same;
          known = λ x there. elim (among x there) [ inl i ↦ way.known x i | inr k ↦ way.later x.counts x.step (next_is_of counter v.later x k) ];
          waits = λ p there is. elim (Contains-append_cases pending (next_pending counter v.later) p there) [
            | inl i ↦ let w = way.waits p i is in
                record { step = w.step; there = Contains-append_left all (next_sent counter v.later) w.step w.there; is = w.is }
            | inr k ↦ let w = waits_as (next_phase v.later).counts counter (next_phase v.later).steps p k in
                record { step = w.sent; there = Contains-append_right all (next_sent counter v.later) w.sent w.there; is = w.is }
          ];
          each = λ x there counts. elim (among x there) [
            | inl i ↦ elim (way.each x i counts) [
              | inl failed ↦ inl failed
              | inr y ↦ inr (elim y [
                | inl is_done ↦ inl is_done
                | inr waiting ↦ inr (Contains-append_left pending (next_pending counter v.later) (pending_of x) waiting)
              ])
            ]
            | inr k ↦ inr (inr (Contains-append_right pending (next_pending counter v.later) (pending_of x)
                (as_waits (next_phase v.later).counts counter (next_phase v.later).steps x k)))
          ];
          later = λ counts t is. way.later counts t (rest_is_of v.later counts t (from_passed (drop 1 v.later) counts t is));
          sent = λ counts t is. elim (way.sent counts t is) [
            | inl left ↦ elim (next_or_rest counter v.later counts t left) [
              | inl has ↦ inr (record {
                sent = has.sent;
                there = Contains-append_right all (next_sent counter v.later) has.sent has.there;
                counts_is = has.counts_is;
                step_is = has.step_is;
              })
              | inr rest ↦ inl (passed_is_of (drop 1 v.later) counts t rest)
            ]
            | inr has ↦ inr (record {
              sent = has.sent;
              there = Contains-append_left all (next_sent counter v.later) has.sent has.there;
              counts_is = has.counts_is;
              step_is = has.step_is;
            })
          ];
        }

  -- a step ends -----------------------------------------------------------------------------------------------

  ended_way : (s : Simulation) (all : List StepSent) (pending : List Pending) (counter : ℕ) (v : Writing) (p : Pending) (was_done : Bool)
      → IsOnWay s all pending counter v → Contains pending p → (f : WaitsFor all p) → (was_done ≡ true → IsDone start seat plan s f.step)
      → IsOnWay s all (without_number p.number pending) counter (record v { has_failed = v.has_failed || (counts p && not was_done) })
  ended_way s all pending counter v p was_done way there f is_done =
      record {
        least = way.least;
        below = way.below;
        once = way.once;
        known = way.known;
        waits = λ q among is. way.waits q (others_waited p.number pending q among) is;
        later = way.later;
        sent = way.sent;
        each = λ x among counted. elim (way.each x among counted) [
          | inl failed ↦ inl (or_left v.has_failed (counts p && not was_done) failed)
          | inr y ↦ elim y [
            | inl held ↦ inr (inl held)
            | inr waiting ↦ by_number x among counted waiting (x.number == p.number) refl
          ]
        ];
      }
    where
      after : Writing
      after = record v { has_failed = v.has_failed || (counts p && not was_done) }

      by_end : (x : StepSent) → x ≡ f.step → x.counts ≡ true → (b : Bool) → was_done ≡ b → HowFar s (without_number p.number pending) after x
      by_end x same counted true e = inr (inl (subst (λ (y : StepSent). IsDone start seat plan s y) (sym same) (is_done e)))
      by_end x same counted false e =
          inl (or_right v.has_failed (counts p && not was_done)
          (and_from (counts p) (not was_done) (ap counts (sym f.is) ∙ ap (λ (y : StepSent). y.counts) (sym same) ∙ counted) (ap not e)))

      by_number : (x : StepSent) → Contains all x → x.counts ≡ true → Contains pending (pending_of x) → (b : Bool) → (x.number == p.number) ≡ b
          → HowFar s (without_number p.number pending) after x
      by_number x among counted waiting true e =
          by_end x (way.once x f.step among f.there (eqb-true _ _ e ∙ ap (λ (q : Pending). q.number) (sym f.is))) counted was_done refl
      by_number x among counted waiting false e = inr (inr (others_wait p.number pending (pending_of x) (eqb-false _ _ e) waiting))

  -- beside it, or around --------------------------------------------------------------------------------------

  -- the steps that wait are the same
  beside_way : (s : Simulation) (all : List StepSent) (pending later : List Pending) (counter counter' : ℕ) (v : Writing) → counter ≤ counter'
      → ((p : Pending) → Contains pending p → is_step p ≡ true → Contains later p) → ((p : Pending) → Contains later p → is_step p ≡ true → Contains pending p)
      → IsOnWay s all pending counter v → IsOnWay s all later counter' v
  beside_way s all pending later counter counter' v upto stay were way =
      record {
        least = way.least;
        below = λ x there. let low = way.below x there in omega (arith, low, upto);
        once = way.once;
        known = way.known;
        waits = λ p there is. way.waits p (were p there is) is;
        later = way.later;
        sent = way.sent;
        each = λ x there counted. elim (way.each x there counted) [
          | inl failed ↦ inl failed
          | inr y ↦ inr (elim y [ inl held ↦ inl held | inr waiting ↦ inr (stay (pending_of x) waiting refl) ])
        ];
      }

  -- what was done stays done
  way_stays : (s after : Simulation) (all : List StepSent) (pending : List Pending) (counter : ℕ) (v : Writing) → Stays start seat plan c all s after
      → IsOnWay s all pending counter v → IsOnWay after all pending counter v
  way_stays s after all pending counter v stays way =
      record {
        least = way.least;
        below = way.below;
        once = way.once;
        known = way.known;
        waits = way.waits;
        later = way.later;
        sent = way.sent;
        each = λ x there counted. elim (way.each x there counted) [
          | inl failed ↦ inl failed
          | inr y ↦ inr (elim y [ inl held ↦ inl (stays x there held) | inr waiting ↦ inr waiting ])
        ];
      }

  pub beside_writes : (w : Managing) (after : Manager) → Writes w → BesideCall start seat plan ⊥ w.scene.handed w.manager after
      → Writes (record w { manager = after })
  beside_writes w after g call =
      record {
        all = g.all;
        fair = fair_beside start seat plan ⊥ ⊥ c g.all w after g.fair call;
        from = let upto = call.upto in let from = g.from in omega (arith, from, upto);
        now = g.now;
        writing = call.writing ∙ g.writing;
        way = beside_way w.scene.fabric g.all w.manager.pending after.pending w.manager.counter after.counter g.now call.upto call.steps_stay call.steps_were
            g.way;
      }

  -- what an answer says ----------------------------------------------------------------------------------------

  module _ (all : List StepSent) where
    -- the answer to a step that says that it was done was made when it was
    heard_is_done : (s : Simulation) (bytes : List ℕ) (p : Pending) → ((x y : StepSent) → Contains all x → Contains all y → x.number ≡ y.number → x ≡ y)
        → ((x : StepSent) → Contains all x → c ≤ x.number) → (f : WaitsFor all p) → (f.step.step.attribute ≡ sm_info → ⊥)
        → IsForManager (Sends start seat plan c all) (Tells start seat plan c all s) start seat bytes → HeardBy bytes p → IsDone start seat plan s f.step
    heard_is_done s bytes p once least f no_info is heard =
        let x = is_answer_to start seat plan c all s bytes f.step once least f.there no_info is (ap (answers bytes) f.is ∙ heard.answers_it) heard.no_sweep in
        subst (λ (q : StepSent). IsDone start seat plan s q) x.same (x.told.is_done (x.status_is ∙ heard.done_is))

  -- steps that are good ----------------------------------------------------------------------------------------

  module _ (good : (x : StepSent) → IsOf phases x.counts x.step → IsGood start seat plan x) where
    goods : (w : Managing) (g : Writes w) (x : StepSent) → Contains g.all x → IsGood start seat plan x
    goods w g x there = good x (g.way.known x there)

    -- a phase goes out
    pub phase_writes : (w : Managing) (m : Manager) (v : Writing) (all : List StepSent) → IsFair start seat plan ⊥ c all w → c ≤ m.counter
        → m.outgoing ≡ w.manager.outgoing
        → SweepSide start seat ⊥ m → AreOnce m.counter m.pending → IsOnWay w.scene.fabric all m.pending m.counter v
        → m.counter + length (next_phase v.later).steps ≤ 2 ^ 32 → Writes (record w { manager = phase_sent m v })
    phase_writes w m v all fair from outgoing side once way most =
        let more = all ++ next_sent m.counter v.later in
        let grown = fair_later start seat plan c c all (all ++ next_sent m.counter v.later) (omega arith)
        (λ x there. Contains-append_left all (next_sent m.counter v.later) x there) ⊥ w fair in
        record {
          all = all ++ next_sent m.counter v.later;
          fair = phase_fair start seat plan ⊥ c (all ++ next_sent m.counter v.later) w grown m v outgoing side once
              (own_steps start seat plan c (all ++ next_sent m.counter v.later) w.scene.handed (next_sent m.counter v.later) own);
          from = omega (arith, from);
          now = record v { later = without_empty_phases (drop 1 v.later) };
          writing = refl;
          way = next_way w.scene.fabric all m.pending m.counter v from way;
        }
      where
        can_go : (x : StepSent) → IsGood start seat plan x → CanGo start seat plan x.step
        can_go x g = record { sendable = g.sendable; own = g.own; short = g.short }

        own : (x : StepSent) → Contains (next_sent m.counter v.later) x
            → IsOwnPacket start seat plan c (all ++ next_sent m.counter v.later) w.scene.handed (out_of x)
        own x there =
            let below = new_below w.scene.fabric all m.pending m.counter v from way x there in
            step_is_own start seat plan c (all ++ next_sent m.counter v.later) w.scene.handed x
            (can_go x (good x (way.later x.counts x.step (next_is_of m.counter v.later x there))))
            (omega (arith, below, most)) (inr (Contains-append_right all (next_sent m.counter v.later) x there))

    -- a step ends
    module _ (w : Managing) (g : Writes w) (p : Pending) (there : Contains w.manager.pending p) (is : is_step p ≡ true) (was_done : Bool)
        (is_done : (f : WaitsFor g.all p) → was_done ≡ true → IsDone start seat plan w.scene.fabric f.step) where
      abbrev ended_with : Option Writing → Manager
      ended_with o = record w.manager { pending = without_number p.number w.manager.pending; writing = noted (counts p) was_done o }

      abbrev after_it : Writing
      after_it = record g.now { has_failed = g.now.has_failed || (counts p && not was_done) }

      way : IsOnWay w.scene.fabric g.all (without_number p.number w.manager.pending) w.manager.counter after_it
      way =
          let f = g.way.waits p there is in
          ended_way w.scene.fabric g.all w.manager.pending w.manager.counter g.now p was_done g.way there f (is_done f)

      once : AreOnce w.manager.counter (without_number p.number w.manager.pending)
      once = once_without p.number w.manager.counter w.manager.pending g.fair.once

      rests : Writes (record w { manager = ended_with (Some g.now) })
      rests =
          record {
            all = g.all;
            fair = record {
              scene = g.fair.scene;
              traced = g.fair.traced;
              seat_is = g.fair.seat_is;
              side = record { port = g.fair.side.port; lmc = g.fair.side.lmc; sweep = g.fair.side.sweep; knows = g.fair.side.knows };
              once = once;
              outgoing = g.fair.outgoing;
              out = g.fair.out;
            };
            from = g.from;
            now = after_it;
            writing = refl;
            way = way;
          }

      over_writes : (b : Bool) → (cond b (phase_sent (ended_with (Some g.now)) after_it) (ended_with (Some g.now))).counter ≤ 2 ^ 32
          → Writes (record w { manager = cond b (phase_sent (ended_with (Some g.now)) after_it) (ended_with (Some g.now)) })
      over_writes false most = rests
      over_writes true most =
          phase_writes w (ended_with (Some g.now)) after_it g.all g.fair g.from refl
          (record { port = g.fair.side.port; lmc = g.fair.side.lmc; sweep = g.fair.side.sweep; knows = g.fair.side.knows }) once way most

      goes_on : (o : Option Writing) → Some g.now ≡ o → (went_on_with (ended_with o) (noted (counts p) was_done o)).counter ≤ 2 ^ 32
          → Writes (record w { manager = went_on_with (ended_with o) (noted (counts p) was_done o) })
      goes_on o e = subst (λ x. (went_on_with (ended_with x) (noted (counts p) was_done x)).counter ≤ 2 ^ 32
          → Writes (record w { manager = went_on_with (ended_with x) (noted (counts p) was_done x) })) e
          (over_writes (no_step_waits (without_number p.number w.manager.pending)))

      pub step_writes : Writes (record w { manager = (unless_spent w.manager (after_step w.manager p was_done)).manager })
      step_writes =
          cond_both (is_spent (after_step w.manager p was_done)) _ _ (λ (x : Called). Writes (record w { manager = x.manager })) (λ _. g)
          (λ left. goes_on w.manager.writing (sym g.writing) (ltb-false _ _ left))

    -- any event ------------------------------------------------------------------------------------------------

    module _ (ground : Ground start seat) (own : OwnSets)
        (owns : (now : Simulation) → IsAlong start now → (at : NodePort) (a : Agent)
        (packet : List ℕ) → agent_at now at.node ≡ Some a → own at packet → Carries plan a at.port packet) where
      -- whatever is sent, no agent changes
      pub sent_from_agents : (w : Managing) (at : NodePort) (packet : Packet) → Writes w → (sent_from w.scene at packet).fabric.agents ≡ w.scene.fabric.agents
      sent_from_agents w at packet g =
          injected_agents (Sends start seat plan c g.all) (Tells start seat plan c g.all w.scene.fabric) ground.cables ground.counts
          g.fair.scene.fabric.along g.fair.scene.fabric.is g.fair.traced.flights at packet

      answered_agents : (w : Managing) (at : NodePort) (given : ℕ) (payload : List ℕ) (m : Option Handed) → Writes w
          → (answered_from w.scene at given payload m).fabric.agents ≡ w.scene.fabric.agents
      answered_agents w at given payload None g = refl
      answered_agents w at given payload (Some h) g =
          cond_both (asks_manager at h) _ _ (λ (x : Scene). x.fabric.agents ≡ w.scene.fabric.agents)
          (λ _. sent_from_agents w at (answer_to h.packet given payload) g) (λ _. refl)

      pub sent_agents : (w : Managing) (s : Sending) (at : NodePort) → Writes w → (sent w.scene at s).fabric.agents ≡ w.scene.fabric.agents
      sent_agents w (ByLid packet) at g = sent_from_agents w at packet g
      sent_agents w (ByPath method attribute modifier tid path payload) at g = sent_from_agents w at
          (directed_packet (directed method attribute modifier tid path payload)) g
      sent_agents w (Answer which given payload) at g = answered_agents w at given payload (slice_get w.scene.handed which) g

      emitted_from_agents : (w : Managing) (at : NodePort) (packet : Packet) → Writes w
          → (emitted_from w.scene at packet).fabric.agents ≡ w.scene.fabric.agents
      emitted_from_agents w at packet g =
          emitted_agents (Sends start seat plan c g.all) (Tells start seat plan c g.all w.scene.fabric) ground.cables ground.counts
          g.fair.scene.fabric.along g.fair.scene.fabric.is g.fair.traced.flights at packet

      pub emitting_agents : (w : Managing) (s : Sending) (at : NodePort) → Writes w → (emitted w.scene at s).fabric.agents ≡ w.scene.fabric.agents
      emitting_agents w (ByLid packet) at g = emitted_from_agents w at packet g
      emitting_agents w (ByPath method attribute modifier tid path payload) at g = emitted_from_agents w at
          (directed_packet (directed method attribute modifier tid path payload)) g
      emitting_agents w (Answer which given payload) at g = refl

      around_stays : (w : Managing) (event : Event) (g : Writes w) → KeepsPlan plan own w.scene.fabric event
          → Stays start seat plan c g.all w.scene.fabric (after_event w.scene event).fabric
      around_stays w (Deliver n) g keeps =
          λ x there held. done_stays start w.scene.fabric seat plan g.fair.scene.fabric.along n
          (λ at a packet takes. elim (keeps at a packet takes)
          [ inl is_own ↦ owns w.scene.fabric g.fair.scene.fabric.along at a packet takes.there is_own | inr carries ↦ carries ])
          (agents_after (Sends start seat plan c g.all) (Tells start seat plan c g.all w.scene.fabric) ground.cables ground.counts g.fair.scene.fabric.along
          g.fair.scene.fabric.is g.fair.traced.flights n)
          x (goods w g x there) held
      around_stays w (Lose n) g keeps =
          same_agents start seat plan c g.all w.scene.fabric _
          (lost_agents (Sends start seat plan c g.all) (Tells start seat plan c g.all w.scene.fabric) ground.cables ground.counts g.fair.scene.fabric.along
          g.fair.scene.fabric.is g.fair.traced.flights n)
      around_stays w (Repeat n) g keeps =
          same_agents start seat plan c g.all w.scene.fabric _
          (repeated_agents (Sends start seat plan c g.all) (Tells start seat plan c g.all w.scene.fabric) ground.cables ground.counts g.fair.scene.fabric.along
          g.fair.scene.fabric.is g.fair.traced.flights n)
      around_stays w (SendFrom from_seat sending_it) g keeps =
          same_agents start seat plan c g.all w.scene.fabric _ (sent_agents w sending_it from_seat g)
      around_stays w (Emit at sending_it) g keeps =
          same_agents start seat plan c g.all w.scene.fabric _ (emitting_agents w sending_it at g)

      heard_writes : (w : Managing) (which : ℕ) (m : Option Handed) → slice_get w.scene.handed which ≡ m → Writes w → Writes (hearing w m)
      heard_writes w which None e g = g
      heard_writes w which (Some h) e g =
          cond_both (is_same_port h.at w.seat) _ _ Writes
          (λ same. elim (packet_comes start seat plan ground ⊥ w.scene.handed w.manager g.fair.side g.fair.once which h (Some h.packet.slid) e
          (ap (is_same_port h.at) (sym g.fair.seat_is) ∙ same)
          (heard_at_seat start seat w h g.fair.seat_is same (was_there start w.scene.handed which h g.fair.scene.handed e))) [
            | inl call ↦ beside_writes w (after_packet w.manager h.packet.bytes (Some h.packet.slid)).manager g call
            | inr ends ↦ subst (λ x. Writes (record w { manager = x })) (sym ends.is)
                (step_writes w g ends.step ends.there (ap is_for_step ends.purpose_is) ends.was_done
                (λ f was. heard_is_done g.all w.scene.fabric h.packet.bytes ends.step g.way.once g.way.least f (goods w g f.step f.there).sendable.no_manager
                (traced_at same) (ends.heard was)))
          ])
          (λ _. g)
        where
          traced_at : is_same_port h.at w.seat ≡ true
              → IsForManager (Sends start seat plan c g.all) (Tells start seat plan c g.all w.scene.fabric) start seat h.packet.bytes
          traced_at same =
              subst (λ q. IsForManager (Sends start seat plan c g.all) (Tells start seat plan c g.all w.scene.fabric) start q h.packet.bytes)
              (same_port-is h.at w.seat same ∙ g.fair.seat_is)
              (traced_there (Sends start seat plan c g.all) (Tells start seat plan c g.all w.scene.fabric) start w.scene.handed which h g.fair.traced.handed e)

      pub event_writes : (w : Managing) (event : ManagerEvent) → Keeps plan own w event → Writes w → CanBe seat event → Writes (after_manager_event w event)
      event_writes w (Around event) keeps g can_be =
          let stays = around_stays w event g keeps in
          record {
            all = g.all;
            fair = fair_around start seat plan ground ⊥ c g.all w event (goods w g) g.fair can_be.0 can_be.1 stays;
            from = g.from;
            now = g.now;
            writing = g.writing;
            way = way_stays w.scene.fabric (after_event w.scene event).fabric g.all w.manager.pending w.manager.counter g.now stays g.way;
          }
      event_writes w Begin keeps g can_be =
          cond_both (is_none (begin_fault w.manager)) _ _ (λ x. Writes (record w { manager = x }))
          (λ e. beside_writes w (after_begin_sweep w.manager) g
          (beside_swept start seat plan ground ⊥ w.scene.handed ⊥ w.manager (after_begin_sweep w.manager) g.fair.once
          (begun start seat ⊥ w.manager g.fair.side (is_none-none _ e))))
          (λ _. g)
      event_writes w Write keeps g can_be =
          cond_both (is_none (writing_fault w.manager)) _ _ (λ x. Writes (record w { manager = x }))
          (λ e. absurd (keeps (is_none-none _ e))) (λ _. g)
      event_writes w Take keeps g can_be =
          let t = takes_first w.manager in
          record {
            all = g.all;
            fair = fair_taken start seat plan ⊥ c g.all w g.fair;
            from = let same = t.counter in let from = g.from in omega (arith, from, same);
            now = g.now;
            writing = t.writing ∙ g.writing;
            way = subst (λ n. IsOnWay w.scene.fabric g.all (after_take_outgoing w.manager).manager.pending n g.now) (sym t.counter)
                (subst (λ ps. IsOnWay w.scene.fabric g.all ps w.manager.counter g.now) (sym t.pending) g.way);
          }
      event_writes w (Send which) keeps g can_be =
          sent_writes (slice_get w.out which) (fair_sent start seat plan ground ⊥ c g.all w which (goods w g) g.fair)
        where
          sent_writes : (o : Option Outgoing) → IsFair start seat plan ⊥ c g.all (sending w o) → Writes (sending w o)
          sent_writes None fair = g
          sent_writes (Some o) fair =
              record {
                all = g.all;
                fair = fair;
                from = g.from;
                now = g.now;
                writing = g.writing;
                way = way_stays w.scene.fabric _ g.all w.manager.pending w.manager.counter g.now
                    (same_agents start seat plan c g.all w.scene.fabric _ (sent_from_agents w w.seat (packet_of o) g)) g.way;
              }
      event_writes w (Hear which) keeps g can_be = heard_writes w which (slice_get w.scene.handed which) refl g
      event_writes w (TimeOut transaction) keeps g can_be =
          elim (time_passes start seat plan ground ⊥ w.scene.handed w.manager g.fair.side g.fair.once transaction) [
            | inl call ↦ beside_writes w (after_timeout w.manager transaction).manager g call
            | inr ends ↦ subst (λ x. Writes (record w { manager = x })) (sym ends.is)
                (step_writes w g ends.step ends.there (ap is_for_step ends.purpose_is) ends.was_done (λ f was. absurd (ends.heard was)))
          ]
      event_writes w (Raise floor) keeps g can_be =
          beside_writes w _ g
          (beside_swept start seat plan ground ⊥ w.scene.handed ⊥ w.manager _ g.fair.once
          (rises start seat ⊥ w.manager g.fair.side floor (generation_small floor can_be)))
      event_writes w (Merge floor sightings) keeps g can_be =
          beside_writes w _ g
          (beside_swept start seat plan ground ⊥ w.scene.handed ⊥ w.manager _ g.fair.once
          (facts_merged start seat ⊥ w.manager g.fair.side floor sightings (generation_small floor can_be.0) (all_small sightings can_be.1)))
      event_writes w (Poll lid) keeps g can_be =
          beside_writes w _ g (polls_beside start seat plan ground ⊥ w.scene.handed w.manager g.fair.side g.fair.once lid)
      event_writes w HandOver keeps g can_be =
          beside_writes w _ g (hands_over start seat plan ground ⊥ w.scene.handed w.manager g.fair.side g.fair.once)
      event_writes w Yield keeps g can_be =
          beside_writes w _ g (yields start seat plan ground ⊥ w.scene.handed w.manager g.fair.side g.fair.once)
      event_writes w Rediscover keeps g can_be =
          beside_writes w _ g (rediscovers start seat plan ground ⊥ w.scene.handed w.manager g.fair.side g.fair.once)

      pub after_writes : (events : List ManagerEvent) (w : Managing) → AllKeep plan own events w → Writes w → All (CanBe seat) events
          → Writes (after_manager_events events w)
      after_writes [] w keep g all_can = g
      after_writes (event ∷ events) w keep g all_can =
          after_writes events (after_manager_event w event) keep.1
          (event_writes w event keep.0 g (All-head (CanBe seat) event events all_can)) (All-tail (CanBe seat) event events all_can)

  -- once it is written, each step that counts was done ---------------------------------------------------------

  pub record WasDone (s : Simulation) (t : Step) : Type 0 where
    pub step : StepSent
    pub is : step.step ≡ t
    pub counts_is : step.counts ≡ true
    pub known : IsOf phases step.counts step.step
    pub is_done : IsDone start seat plan s step

  pub written_done : (w : Managing) → Writes w → is_written w.manager ≡ true → (t : Step) → IsOf phases true t → WasDone w.scene.fabric t
  written_done w g written t of =
      elim (g.way.sent true t of) [
        | inl left ↦ absurd (none_left_counts g.now.later t (not-true _ inner.0) left)
        | inr has ↦ record {
          step = has.sent;
          is = has.step_is;
          counts_is = has.counts_is;
          known = g.way.known has.sent has.there;
          is_done = by_way has.sent has.counts_is (g.way.each has.sent has.there has.counts_is);
        }
      ]
    where
      now : is_written_by w.manager.pending (Some g.now) ≡ true
      now = ap (is_written_by w.manager.pending) (sym g.writing) ∙ written

      outer : (not g.now.has_failed ≡ true) × ((not (list_any (λ q. q.counts) g.now.later) && none_counts w.manager.pending) ≡ true)
      outer = and_parts (not g.now.has_failed) (not (list_any (λ q. q.counts) g.now.later) && none_counts w.manager.pending) now

      inner : (not (list_any (λ q. q.counts) g.now.later) ≡ true) × (none_counts w.manager.pending ≡ true)
      inner = and_parts (not (list_any (λ q. q.counts) g.now.later)) (none_counts w.manager.pending) outer.1

      by_way : (x : StepSent) → x.counts ≡ true → HowFar w.scene.fabric w.manager.pending g.now x → IsDone start seat plan w.scene.fabric x
      by_way x counted (inl failed) = absurd (cc (sym (ap not failed) ∙ outer.0))
      by_way x counted (inr (inl held)) = held
      by_way x counted (inr (inr waiting)) = absurd (none_pending_counts w.manager.pending (pending_of x) inner.1 waiting counted)
