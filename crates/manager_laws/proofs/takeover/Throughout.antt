-- While a subnet is taken over and each Set carries the values of the plan that it holds, it goes on holding it, and pings arrive at each moment.
use Rattle.std.proofs.Common.{◌≡◌, inl, inr, ℕ, List, [], ◌∷◌, refl, sym, ap, subst}
use Rattle.std.proofs.lemmas.Bool.{cond_both}
use Rattle.std.proofs.lemmas.List.Elements.{All-head, All-tail}
use Rattle.std.specs.Prelude.{Option, Some, None, All, slice_get}
use Rattle.fabric_model.specs.declared.cable.NodePort.{NodePort}
use Rattle.fabric_model.specs.Cables.{is_same_port}
use Rattle.fabric_model.specs.Fabric as fabrics
use Rattle.fabric_model.specs.FabricWalks.{IsJoinedTo}
use Rattle.node_agents.specs.Agent.{Agent}
use Rattle.fact_store.specs.View.{Facts, cells_of}
use Rattle.fabric_sim.specs.declared.packet.Packet.{Packet}
use Rattle.fabric_sim.specs.Simulation.{Simulation, fabric_of}
use Rattle.fabric_sim.specs.Changes.{after_lose, after_repeat}
use Rattle.fabric_sim.specs.Delivery.{after_deliver}
use Rattle.fabric_sim.proofs.Courses.{AnySends, SaysSo}
use Rattle.fabric_sim.proofs.TracedCalls.{agents_after, emitted_agents, injected_agents, lost_agents, repeated_agents}
use Rattle.subnet_view.specs.FabricAgreement.{AgreesOn}
use Rattle.lid_assign.specs.Lids.{IsNoRoom}
use Rattle.lft_blocks.specs.Rule.{RuleValue}
use Rattle.lft_blocks.specs.InForce.{HoldsPlan}
use Rattle.lft_blocks.specs.Plan.{PlanValue, plan_of}
use Rattle.sm_manager.specs.declared.outgoing.Outgoing.{Outgoing}
use Rattle.manager_laws.specs.Scene.{Handed, Scene, Sending, ByLid, ByPath, Answer, Event, Deliver, Lose, Repeat, Send as SendFrom, Emit, after_event, emitted, emitted_from, answer_to, answered_from, asks_manager, sent, sent_from}
use Rattle.manager_laws.proofs.Answers.{Continues}
use Rattle.manager_laws.proofs.PlannedPings.{pings_arrive}
use Rattle.manager_laws.proofs.Alike.{agrees_along, end_port_along}
use Rattle.manager_laws.specs.Managing.{Managing, ManagerEvent, Around, Begin, Write, Take, Send, Hear, TimeOut, Raise, Merge, Poll, HandOver, Yield, Rediscover}
use Rattle.manager_laws.specs.Managing.{CanBe, hearing, packet_of, sending, after_manager_event, after_manager_events}
use Rattle.manager_laws.specs.Sets.{Carries, KeepsPlan, TakesSet}
use Rattle.manager_laws.specs.WritingPings.{WritesWholeSweep}
use Rattle.manager_laws.specs.Written.{AllKeep, Keeps, at_first_steps, at_writing, own_sets, plan_at}
use Rattle.manager_laws.proofs.After.{Writes, event_writes}
use Rattle.manager_laws.proofs.Before.{by_before, by_swept}
use Rattle.manager_laws.proofs.Goes.{Goes}
use Rattle.manager_laws.proofs.Held as held
use Rattle.manager_laws.proofs.SweepBegins.{starting, swept_first}
use Rattle.manager_laws.proofs.WritingSweeps.{Ground}
use Rattle.manager_laws.specs.Takeover.{AllCarry, Carrying, IsInUse, InUseAlong, IsInUseThroughout, PingsArriveThroughout, TakesOverQuietly, planning_at, plan_by_it}
use Rattle.manager_laws.proofs.takeover.HeldOn.{AreListed, HeldOn, delivery_keeps, held_later, holds_now, same_keep}
use Rattle.manager_laws.proofs.takeover.Listed.{are_listed}
use Rattle.manager_laws.proofs.takeover.Takeover.{seat_is_end, takeover_changes_nothing}

module _ (start : Simulation) (seat : NodePort) (plan : PlanValue) (listed : AreListed start plan (IsJoinedTo (fabric_of start) seat))
    (ground : Ground start seat) where
  abbrev HeldIn : Simulation → Type 0
  HeldIn s = HeldOn start plan (IsJoinedTo (fabric_of start) seat) s

  -- what happens around --------------------------------------------------------------------------------------

  module _ (w : Scene) (c : Continues start w) where
    keeps_still : (after : Simulation) → after.agents ≡ w.fabric.agents → HeldIn w.fabric → HeldIn after
    keeps_still after same h =
        held_later start plan (IsJoinedTo (fabric_of start) seat) listed w.fabric after c.fabric.along
        (same_keep start plan (IsJoinedTo (fabric_of start) seat) w.fabric after same) h

    sent_still : (at : NodePort) (packet : Packet) → (sent_from w at packet).fabric.agents ≡ w.fabric.agents
    sent_still at packet =
        injected_agents AnySends (SaysSo start) ground.cables ground.counts c.fabric.along c.fabric.is c.fabric.flights at packet

    answered_still : (at : NodePort) (given : ℕ) (payload : List ℕ) (m : Option Handed)
        → (answered_from w at given payload m).fabric.agents ≡ w.fabric.agents
    answered_still at given payload None = refl
    answered_still at given payload (Some h) =
        cond_both (asks_manager at h) _ _ (λ (x : Scene). x.fabric.agents ≡ w.fabric.agents)
        (λ _. sent_still at (answer_to h.packet given payload)) (λ _. refl)

    sending_still : (at : NodePort) (s : Sending) → (sent w at s).fabric.agents ≡ w.fabric.agents
    sending_still at (ByLid packet) = sent_still at packet
    sending_still at (ByPath method attribute modifier tid path payload) = sent_still at _
    sending_still at (Answer which given payload) = answered_still at given payload (slice_get w.handed which)

    emitted_still : (at : NodePort) (packet : Packet) → (emitted_from w at packet).fabric.agents ≡ w.fabric.agents
    emitted_still at packet =
        emitted_agents AnySends (SaysSo start) ground.cables ground.counts c.fabric.along c.fabric.is c.fabric.flights at packet

    emitting_still : (at : NodePort) (s : Sending) → (emitted w at s).fabric.agents ≡ w.fabric.agents
    emitting_still at (ByLid packet) = emitted_still at packet
    emitting_still at (ByPath method attribute modifier tid path payload) = emitted_still at _
    emitting_still at (Answer which given payload) = refl

    -- where each Set carries the plan's values
    pub around_held : (event : Event)
        → ((serial : ℕ) → event ≡ Deliver serial → (at : NodePort) (a : Agent) (packet : List ℕ) → TakesSet w.fabric serial at a packet
        → Carries plan a at.port packet)
        → HeldIn w.fabric → HeldIn (after_event w event).fabric
    around_held (Deliver n) carry h =
        held_later start plan (IsJoinedTo (fabric_of start) seat) listed w.fabric (after_deliver w.fabric n).fabric c.fabric.along
        (delivery_keeps start plan (IsJoinedTo (fabric_of start) seat) w.fabric seat c.fabric.along n (carry n refl)
        (agents_after AnySends (SaysSo start) ground.cables ground.counts c.fabric.along c.fabric.is c.fabric.flights n)) h
    around_held (Lose n) carry h =
        keeps_still (after_lose w.fabric n).fabric (lost_agents AnySends (SaysSo start) ground.cables ground.counts c.fabric.along c.fabric.is c.fabric.flights
        n) h
    around_held (Repeat n) carry h =
        keeps_still (after_repeat w.fabric n).fabric (repeated_agents AnySends (SaysSo start) ground.cables ground.counts c.fabric.along c.fabric.is
        c.fabric.flights n) h
    around_held (SendFrom at sending_it) carry h = keeps_still (sent w at sending_it).fabric (sending_still at sending_it) h
    around_held (Emit at sending_it) carry h = keeps_still (emitted w at sending_it).fabric (emitting_still at sending_it) h

  -- whatever happens to the manager ------------------------------------------------------------------------------

  abbrev CarryAt : Managing → ManagerEvent → Type 0
  CarryAt w event = (serial : ℕ) → event ≡ Around (Deliver serial)
      → (at : NodePort) (a : Agent) (packet : List ℕ) → TakesSet w.scene.fabric serial at a packet → Carries plan a at.port packet

  pub event_held : (w : Managing) (event : ManagerEvent) → Continues start w.scene → CarryAt w event → HeldIn w.scene.fabric
      → HeldIn (after_manager_event w event).scene.fabric
  event_held w (Around event) c carry h = around_held w.scene c event (λ serial e. carry serial (ap (λ x. Around x) e)) h
  event_held w (Send which) c carry h = by_packet (slice_get w.out which)
    where
      by_packet : (o : Option Outgoing) → HeldIn (sending w o).scene.fabric
      by_packet None = h
      by_packet (Some o) = keeps_still w.scene c (sent_from w.scene w.seat (packet_of o)).fabric (sent_still w.scene c w.seat (packet_of o)) h
  event_held w (Hear which) c carry h = by_handed (slice_get w.scene.handed which)
    where
      by_handed : (m : Option Handed) → HeldIn (hearing w m).scene.fabric
      by_handed None = h
      by_handed (Some x) =
          cond_both (is_same_port x.at w.seat) _ _ (λ (y : Managing). HeldIn y.scene.fabric) (λ _. h) (λ _. h)
  event_held w event c carry h = h

  -- by what is asked of what happens
  quiet_carry : (w : Managing) (event : ManagerEvent) → Carrying plan w event → CarryAt w event
  quiet_carry w event carry serial e at a packet takes =
      elim (subst (Carrying plan w) e carry at a packet takes) [ inl none ↦ absurd none | inr it ↦ it ]

  -- at a moment
  module _ (rule : RuleValue) (lmc : ℕ) (facts : Facts) (has_room : ¬ (IsNoRoom lmc (cells_of facts))) (plan_is : plan_of rule lmc (cells_of facts) ≡ plan)
      (agrees : AgreesOn (IsJoinedTo (fabric_of start) seat) (cells_of facts) (fabric_of start)) (seat_is : fabrics.IsEndPort (fabric_of start) seat) where
    pub in_use : (w : Scene) → Continues start w → HeldIn w.fabric → IsInUse rule facts (plan_of rule lmc (cells_of facts)) w.fabric seat
    in_use w c h =
        let holds = subst (λ p. HoldsPlan (IsJoinedTo (fabric_of w.fabric) seat) p (fabric_of w.fabric)) (sym plan_is)
        (holds_now start w.fabric plan seat c.fabric.along h) in
        record {
          holds = holds;
          arrive = pings_arrive rule lmc facts w.fabric seat has_room c.fabric.is (end_port_along start w.fabric c.fabric.along seat seat_is)
              (agrees_along start w.fabric c.fabric.along seat (cells_of facts) agrees) holds;
        }

module _ (given : Facts) (w : Managing) (before between after : List ManagerEvent) (t : TakesOverQuietly given w before between after) where
  abbrev planned : WritesWholeSweep w before between after
  planned = t.takes.sweeps.planned

  plan_is : plan_at (at_writing w before between) ≡ plan_by_it (planning_at w before between) given
  plan_is = (takeover_changes_nothing given w before between after t.takes).same_plan

  ground : Ground w.scene.fabric w.seat
  ground = held.ground w before between after planned.writes.run

  listed : AreListed w.scene.fabric (plan_by_it (planning_at w before between) given) (IsJoinedTo (fabric_of w.scene.fabric) w.seat)
  listed = are_listed (planning_at w before between).rule (planning_at w before between).lmc given w.scene.fabric (IsJoinedTo (fabric_of w.scene.fabric) w.seat)
      t.takes.agrees

  abbrev Held : Simulation → Type 0
  Held s = HeldOn w.scene.fabric (plan_by_it (planning_at w before between) given) (IsJoinedTo (fabric_of w.scene.fabric) w.seat) s

  abbrev Now : Scene → Type 0
  Now x = IsInUse (planning_at w before between).rule given (plan_by_it (planning_at w before between) given) x.fabric w.seat

  now : (x : Scene) → Continues w.scene.fabric x → Held x.fabric → Now x
  now x c h =
      in_use w.scene.fabric w.seat (plan_by_it (planning_at w before between) given) listed ground
      (planning_at w before between).rule (planning_at w before between).lmc given t.takes.has_room refl t.takes.agrees
      (seat_is_end w before between after t.takes.sweeps) x c h

  next : (x : Managing) (event : ManagerEvent) → Continues w.scene.fabric x.scene
      → Carrying (plan_by_it (planning_at w before between) given) x event → Held x.scene.fabric → Held (after_manager_event x event).scene.fabric
  next x event c carry h =
      event_held w.scene.fabric w.seat (plan_by_it (planning_at w before between) given) listed ground x event c
      (quiet_carry w.scene.fabric w.seat (plan_by_it (planning_at w before between) given) listed ground x event carry) h

  -- until the writing
  abbrev Along : List ManagerEvent → Managing → Type 0
  Along events x =
      AllCarry (plan_by_it (planning_at w before between) given) events x → Held x.scene.fabric
      → InUseAlong (planning_at w before between).rule given (plan_by_it (planning_at w before between) given) w.seat events x
      × Held (after_manager_events events x).scene.fabric

  none_along : (x : Managing) (old : Type 0) → Goes w.scene.fabric w.seat (plan_at (at_writing w before between)) old x → Along [] x
  none_along x old g carry h = (now x.scene g.fair.scene h, h)

  one_along : (event : ManagerEvent) (events : List ManagerEvent) (x : Managing) (old : Type 0)
      → Goes w.scene.fabric w.seat (plan_at (at_writing w before between)) old x → CanBe w.seat event → Along events (after_manager_event x event)
      → Along (event ∷ events) x
  one_along event events x old g can later carry h =
      let rest = later carry.1 (next x event g.fair.scene carry.0 h) in ((now x.scene g.fair.scene h, rest.0), rest.1)

  -- from the writing on its own Sets carry them too
  abbrev Runs : Managing → Type 0
  Runs x =
      Writes w.scene.fabric w.seat (plan_at (at_writing w before between)) (at_writing w before between).manager.counter
      (held.phases w before between after planned.writes.run planned.sweep planned.is_last) x

  own_carry : (x : Managing) (event : Event) → Continues w.scene.fabric x.scene
      → KeepsPlan (plan_at (at_writing w before between)) (own_sets w (at_writing w before between)) x.scene.fabric event
      → (serial : ℕ) → event ≡ Deliver serial → (at : NodePort) (a : Agent) (packet : List ℕ) → TakesSet x.scene.fabric serial at a packet
      → Carries (plan_by_it (planning_at w before between) given) a at.port packet
  own_carry x event c keep serial e at a packet takes =
      subst (λ p. Carries p a at.port packet) plan_is
      (elim (subst (KeepsPlan (plan_at (at_writing w before between)) (own_sets w (at_writing w before between)) x.scene.fabric) e keep at a packet takes) [
        | inl own ↦ held.owns w before between after planned.writes.run planned.sweep planned.is_last x.scene.fabric c.fabric.along at a packet
            takes.there own
        | inr it ↦ it
      ])

  written_next : (x : Managing) (event : ManagerEvent) → Continues w.scene.fabric x.scene
      → Keeps (plan_at (at_writing w before between)) (own_sets w (at_writing w before between)) x event
      → Held x.scene.fabric → Held (after_manager_event x event).scene.fabric
  written_next x (Around event) c keep h =
      around_held w.scene.fabric w.seat (plan_by_it (planning_at w before between) given) listed ground x.scene c event (own_carry x event c keep) h
  written_next x Begin c keep h = next x Begin c tt h
  written_next x Write c keep h = next x Write c tt h
  written_next x Take c keep h = next x Take c tt h
  written_next x (Send which) c keep h = next x (Send which) c tt h
  written_next x (Hear which) c keep h = next x (Hear which) c tt h
  written_next x (TimeOut transaction) c keep h = next x (TimeOut transaction) c tt h
  written_next x (Raise floor) c keep h = next x (Raise floor) c tt h
  written_next x (Merge floor sightings) c keep h = next x (Merge floor sightings) c tt h
  written_next x (Poll lid) c keep h = next x (Poll lid) c tt h
  written_next x HandOver c keep h = next x HandOver c tt h
  written_next x Yield c keep h = next x Yield c tt h
  written_next x Rediscover c keep h = next x Rediscover c tt h

  written_along : (events : List ManagerEvent) (x : Managing)
      → AllKeep (plan_at (at_writing w before between)) (own_sets w (at_writing w before between)) events x → Runs x → All (CanBe w.seat) events
      → Held x.scene.fabric
      → InUseAlong (planning_at w before between).rule given (plan_by_it (planning_at w before between) given) w.seat events x
  written_along [] x keep g all h = now x.scene g.fair.scene h
  written_along (event ∷ events) x keep g all h =
      let can = All-head (CanBe w.seat) event events all in (
        now x.scene g.fair.scene h,
        written_along events (after_manager_event x event) keep.1
            (event_writes w.scene.fabric w.seat (plan_at (at_writing w before between)) (at_writing w before between).manager.counter
            (held.phases w before between after planned.writes.run planned.sweep planned.is_last)
            (held.good w before between after planned.writes.run planned.sweep planned.is_last)
            (held.ground w before between after planned.writes.run) (own_sets w (at_writing w before between))
            (held.owns w before between after planned.writes.run planned.sweep planned.is_last) x event keep.0 g can)
            (All-tail (CanBe w.seat) event events all) (written_next x event g.fair.scene keep.0 h),
      )

  at_first : Held w.scene.fabric
  at_first = t.takes.holds

  throughout : IsInUseThroughout given w before between after
  throughout =
      let plan = plan_at (at_writing w before between) in
      let one = by_before w.scene.fabric w.seat plan ground Along none_along one_along before w planned.writes.run.sweeps_first
      (starting w planned.writes.run.starts plan) planned.writes.run.before_can t.carry_before at_first in
      let two = by_swept w.scene.fabric w.seat plan ground Along none_along one_along between (after_manager_event (after_manager_events before w) Begin)
      (swept_first w planned.writes.run.starts plan before planned.writes.run.sweeps_first planned.writes.run.before_can planned.writes.run.sweep_begins)
      planned.writes.run.between_can t.carry_between one.1 in
      record {
        until_sweep = one.0;
        until_writing = two.0;
        while_writing = written_along after (at_first_steps w before between) planned.writes.run.keep
            (held.begins w before between after planned.writes.run planned.sweep planned.is_last) planned.writes.run.after_can two.1;
      }

pub pings_arrive_throughout : PingsArriveThroughout
pings_arrive_throughout given w before between after t = throughout given w before between after t
