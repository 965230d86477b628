-- While each Set that an agent takes carries a plan's values, each agent is between what it was and the plan, whatever else
-- happens.
use Rattle.std.proofs.Common.{◌≡◌, ◌⊎◌, inl, inr, ℕ, ◌≤◌, Bool, true, false, List, [], ◌∷◌, refl, sym, ap, ◌∙◌}
use Rattle.std.proofs.lemmas.Bool.{cond_both, eqb-true, eqb-false}
use Rattle.std.proofs.lemmas.List.Elements.{All-head, All-tail}
use Rattle.std.specs.Prelude.{All, Option, Some, None, slice_get, ◌==◌}
use Rattle.fabric_model.specs.declared.cable.NodePort.{NodePort}
use Rattle.fabric_model.specs.Fabric.{Fabric}
use Rattle.node_agents.specs.Agent.{Agent, IsAgent}
use Rattle.node_agents.specs.Answers.{after_answer}
use Rattle.fabric_sim.specs.declared.packet.Packet.{Packet}
use Rattle.fabric_sim.specs.Simulation.{AreCables, Simulation, agent_at, fabric_of, port_count, port_of}
use Rattle.fabric_sim.specs.Changes.{after_lose, after_repeat}
use Rattle.fabric_sim.specs.Delivery.{after_deliver}
use Rattle.fabric_sim.proofs.AgentLists.{changed_at_id, others_stay}
use Rattle.fabric_sim.proofs.Courses.{AnySends, SaysSo}
use Rattle.fabric_sim.proofs.TracedCalls.{AsksAnAgent, agents_after, emitted_agents, injected_agents, lost_agents, repeated_agents}
use Rattle.fabric_sim.proofs.TripShapes.{agent_there}
use Rattle.plan_tables.specs.Plan.{PlanValue}
use Rattle.manager_laws.specs.Scene.{Handed, Scene, Sending, ByLid, ByPath, Answer, CanHappen, Event, Deliver, Lose, Repeat, Send, Emit}
use Rattle.manager_laws.specs.Scene.{after_event, after_events, answer_to, answered_from, asks_manager, emitted, emitted_from, sent, sent_from}
use Rattle.manager_laws.specs.Sets.{Carries, TakesSet}
use Rattle.manager_laws.proofs.Answers.{Continues, continued}
use Rattle.manager_laws.proofs.WritingTaken.{carries, upto}
use Rattle.program_laws.specs.Between.{IsBetween}
use Rattle.program_laws.specs.LiveStep.{AllSetsCarry, IsMoment, SetsCarry}
use Rattle.program_laws.specs.StepPlan.{HasWholeBlocks}
use Rattle.program_laws.proofs.live_steps.Between.{answered_between}

-- a scene goes on to be one of the fabric in the course of events that can happen
module _ (start : Simulation) (cables : AreCables start) (counts : (id : ℕ) → port_count start id ≤ 254) where
  pub goes_on : (events : List Event) (w : Scene) → Continues start w → All CanHappen events → Continues start (after_events events w)
  goes_on [] w c all = c
  goes_on (event ∷ events) w c all =
      goes_on events (after_event w event) (continued cables counts w event c (All-head CanHappen event events all)) (All-tail CanHappen event events all)

module _ (start : Simulation) (cables : AreCables start) (counts : (id : ℕ) → port_count start id ≤ 254) (plan : PlanValue) (blocks : HasWholeBlocks plan)
    (from : Simulation) where
  -- each agent is between what it was and the plan
  abbrev pub Now : Simulation → Type 0
  Now s = (id : ℕ) (a : Agent) → agent_at from id ≡ Some a → (b : Agent) × (agent_at s id ≡ Some b) × IsBetween plan a b

  same_now : (s after : Simulation) → after.agents ≡ s.agents → Now s → Now after
  same_now s after same h id a there =
      let was = h id a there in (was.0, ap (λ (xs : List Agent). slice_get xs id) same ∙ was.1, was.2)

  module _ (w : Scene) (c : Continues start w) where
    -- once a packet was delivered to an agent
    asked_now : (n : ℕ)
        → ((at : NodePort) (a : Agent) (packet : List ℕ) → TakesSet w.fabric n at a packet → Carries plan a at.port packet)
        → (asks : AsksAnAgent w.fabric n) → (id : ℕ) (a b : Agent) → agent_at w.fabric id ≡ Some b → IsBetween plan a b
        → (t : Bool) → ((port_of asks.flight.whereabouts).node == id) ≡ t
        → (x : Agent) × (agent_at (after_deliver w.fabric n).fabric id ≡ Some x) × IsBetween plan a x
    asked_now n all asks id a b there is false other = (
      b,
      ap (λ (xs : List Agent). slice_get xs id) asks.asked.agents
          ∙ others_stay w.fabric.agents (port_of asks.flight.whereabouts).node id
          (λ x. (after_answer x asks.request (port_of asks.flight.whereabouts).port).agent)
          (eqb-false _ _ other)
          ∙ there,
      is,
    )
    asked_now n all asks id a b there is true same_is =
        let same : (port_of asks.flight.whereabouts).node ≡ id = eqb-true _ _ same_is in
        let here : agent_at w.fabric (port_of asks.flight.whereabouts).node ≡ Some b = ap (slice_get w.fabric.agents) same ∙ there in
        let is_agent : IsAgent b = agent_there w.fabric.agents (port_of asks.flight.whereabouts).node b c.fabric.along.agents here in
        let most = upto start w.fabric (port_of asks.flight.whereabouts) plan c.fabric.along n asks.flight asks.request asks.asked b here in (
          (after_answer b asks.request (port_of asks.flight.whereabouts).port).agent,
          ap (slice_get (after_deliver w.fabric n).fabric.agents) (sym same)
              ∙ ap (λ (xs : List Agent). slice_get xs (port_of asks.flight.whereabouts).node) asks.asked.agents
              ∙ changed_at_id w.fabric.agents (port_of asks.flight.whereabouts).node b
              (λ x. (after_answer x asks.request (port_of asks.flight.whereabouts).port).agent) here,
          answered_between plan blocks a b asks.request (port_of asks.flight.whereabouts).port is_agent asks.asked.whole most
              (carries start w.fabric (port_of asks.flight.whereabouts) plan c.fabric.along n asks.flight asks.request asks.asked all b here)
              is,
        )

    delivery_now : (n : ℕ)
        → ((at : NodePort) (a : Agent) (packet : List ℕ) → TakesSet w.fabric n at a packet → Carries plan a at.port packet)
        → ((after_deliver w.fabric n).fabric.agents ≡ w.fabric.agents) ⊎ AsksAnAgent w.fabric n → Now w.fabric
        → Now (after_deliver w.fabric n).fabric
    delivery_now n all (inl same) h = same_now w.fabric (after_deliver w.fabric n).fabric same h
    delivery_now n all (inr asks) h =
        λ id a there.
        let was = h id a there in
        asked_now n all asks id a was.0 was.1 was.2 ((port_of asks.flight.whereabouts).node == id) refl

    sent_still : (at : NodePort) (packet : Packet) → (sent_from w at packet).fabric.agents ≡ w.fabric.agents
    sent_still at packet = injected_agents AnySends (SaysSo start) cables counts c.fabric.along c.fabric.is c.fabric.flights at packet

    answered_still : (at : NodePort) (given : ℕ) (payload : List ℕ) (m : Option Handed)
        → (answered_from w at given payload m).fabric.agents ≡ w.fabric.agents
    answered_still at given payload None = refl
    answered_still at given payload (Some h) =
        cond_both (asks_manager at h) _ _ (λ (x : Scene). x.fabric.agents ≡ w.fabric.agents)
        (λ _. sent_still at (answer_to h.packet given payload)) (λ _. refl)

    sending_still : (at : NodePort) (s : Sending) → (sent w at s).fabric.agents ≡ w.fabric.agents
    sending_still at (ByLid packet) = sent_still at packet
    sending_still at (ByPath method attribute modifier tid path payload) = sent_still at _
    sending_still at (Answer which given payload) = answered_still at given payload (slice_get w.handed which)

    emitted_still : (at : NodePort) (packet : Packet) → (emitted_from w at packet).fabric.agents ≡ w.fabric.agents
    emitted_still at packet = emitted_agents AnySends (SaysSo start) cables counts c.fabric.along c.fabric.is c.fabric.flights at packet

    emitting_still : (at : NodePort) (s : Sending) → (emitted w at s).fabric.agents ≡ w.fabric.agents
    emitting_still at (ByLid packet) = emitted_still at packet
    emitting_still at (ByPath method attribute modifier tid path payload) = emitted_still at _
    emitting_still at (Answer which given payload) = refl

    event_now : (event : Event) → SetsCarry plan w.fabric event → Now w.fabric → Now (after_event w event).fabric
    event_now (Deliver n) carry h =
        delivery_now n carry
        (agents_after AnySends (SaysSo start) cables counts c.fabric.along c.fabric.is c.fabric.flights n) h
    event_now (Lose n) carry h =
        same_now w.fabric (after_lose w.fabric n).fabric
        (lost_agents AnySends (SaysSo start) cables counts c.fabric.along c.fabric.is c.fabric.flights n) h
    event_now (Repeat n) carry h =
        same_now w.fabric (after_repeat w.fabric n).fabric
        (repeated_agents AnySends (SaysSo start) cables counts c.fabric.along c.fabric.is c.fabric.flights n) h
    event_now (Send at sending) carry h = same_now w.fabric (sent w at sending).fabric (sending_still at sending) h
    event_now (Emit at sending) carry h = same_now w.fabric (emitted w at sending).fabric (emitting_still at sending) h

  -- a scene with the fabric `f` in which each agent is between what it was and the plan
  pub record Found (f : Fabric) : Type 0 where
    pub scene : Scene
    pub is : f ≡ fabric_of scene.fabric
    pub continues : Continues start scene
    pub now : Now scene.fabric

  pub at_moment : (events : List Event) (w : Scene) → Continues start w → All CanHappen events → AllSetsCarry plan events w → Now w.fabric
      → (f : Fabric) → IsMoment events w f → Found f
  at_moment [] w c all carry h f is = record { scene = w; is = is; continues = c; now = h }
  at_moment (event ∷ events) w c all carry h f (inl is) = record { scene = w; is = is; continues = c; now = h }
  at_moment (event ∷ events) w c all carry h f (inr later) =
      at_moment events (after_event w event) (continued cables counts w event c (All-head CanHappen event events all)) (All-tail CanHappen event events all)
      carry.1 (event_now w c event carry.0 h) f later

-- an agent is between what it is and any plan
pub first_now : (plan : PlanValue) (a : Agent) → IsBetween plan a a
first_now plan a =
    record { node = refl; ranges = λ m has r. refl; top = λ top among is_top. inl refl; entries = λ n block is_block i less. inl refl }
