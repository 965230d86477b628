-- One of several managers, to which the others are what happens around it: its sweeps find the plan that is held, and so it writes this plan.
use Rattle.std.proofs.Common.{◌≡◌, ◌≢◌, ◌⊎◌, inl, inr, ℕ, ◌<◌, ◌≤◌, ◌^◌, Bool, true, false, cond, List, [], ◌∷◌, length, refl, sym, ap, ◌∙◌, subst, arith}
use Rattle.std.proofs.lemmas.Bool.{and_parts, cond_both, eqb-true, leb-true}
use Rattle.std.specs.Prelude.{Contains, Option, Some, None, is_none, nat_le, slice_get, ◌==◌, ◌&&◌}
use Rattle.fabric_model.specs.declared.cable.NodePort.{NodePort}
use Rattle.fabric_model.specs.Cables.{is_same_port}
use Rattle.fabric_model.specs.FabricWalks.{IsJoinedTo}
use Rattle.fabric_model.specs.DirectedWalk.{directed_end}
use Rattle.smp_bytes.specs.Requests.{directed}
use Rattle.fact_store.specs.View.{Facts, cells_of}
use Rattle.fabric_sim.specs.Simulation.{Simulation, fabric_of}
use Rattle.subnet_view.specs.FabricAgreement.{AgreesOn}
use Rattle.lid_assign.specs.Lids.{IsNoRoom}
use Rattle.lft_blocks.specs.Plan.{PlanValue, plan_of}
use Rattle.lft_blocks.specs.Planning.{Planning}
use Rattle.plan_steps.specs.declared.step.Step.{Step}
use Rattle.plan_steps.specs.Phase.{Phase}
use Rattle.sweep.specs.Sweep.{Sweep}
use Rattle.sm_manager.specs.declared.outgoing.Outgoing.{Outgoing}
use Rattle.sm_manager.specs.CallLists as calls
use Rattle.sm_manager.specs.Manager.{after_begin_sweep, begin_fault}
use Rattle.sm_manager.specs.PlanFaults.{writing_fault}
use Rattle.sm_manager.specs.Writing.{phases_by}
use Rattle.sm_manager.proofs.Lives.{planning_stays}
use Rattle.manager_laws.specs.Complete.{facts_of}
use Rattle.manager_laws.specs.Scene.{Handed, Scene, Sending, ByLid, ByPath, Answer, Event, CanSend, Send as SendFrom, after_event, sent_from}
use Rattle.manager_laws.specs.Managing.{Managing, ManagerEvent, Around, Begin, Write, Take, Send, Hear, TimeOut, Raise, Merge, Poll, HandOver, Yield, Rediscover}
use Rattle.manager_laws.specs.Managing.{CanBe, after_manager_event, hearing, packet_of, sending}
use Rattle.manager_laws.specs.Sets.{Carries}
use Rattle.manager_laws.specs.Sweeping.{Begins, after_sweep_events}
use Rattle.manager_laws.specs.Written.{BeginsNoWriting}
use Rattle.manager_laws.specs.WritingPings.{BeginsNoSweep}
use Rattle.manager_laws.proofs.Before.{begin_goes, event_goes, is_none-none, none-is_none}
use Rattle.manager_laws.proofs.Done.{done_sweeps_are_complete}
use Rattle.manager_laws.proofs.Fair.{AreOwnPackets, own_there}
use Rattle.manager_laws.proofs.Followed.{SeenBySweeps}
use Rattle.manager_laws.proofs.Follows.{holds_all}
use Rattle.manager_laws.proofs.Goes.{Goes}
use Rattle.manager_laws.proofs.OneSweep.{FollowsOne, first_of, follows_first, follows_on}
use Rattle.manager_laws.proofs.Scenes.{IsOfStep, IsOwn, IsOwnSending}
use Rattle.manager_laws.proofs.Steps.{IsOf, StepSent}
use Rattle.manager_laws.proofs.WritingSweeps.{Ground, IsSwept, IsSweptOne, SweepIs}
use Rattle.manager_laws.proofs.WritingTaken.{asks_for_step, same_path}
use Rattle.manager_laws.proofs.Writings.{MayWrite, may_write, own_carries, writing_goes}
use Rattle.manager_laws.specs.Claims.{HasLidsOf}
use Rattle.manager_laws.specs.Takeover.{plan_by_it}
use Rattle.manager_laws.proofs.takeover.Claimed.{swept_claims_are_true}
use Rattle.manager_laws.proofs.takeover.Seeing.{held_lids}
use Rattle.manager_laws.specs.Masters.{IsItsOwn, IsWholeSweep, Seated, WritesWhole, has_swept_after, knows_one_after, seated_after, seen_by}
use Rattle.manager_laws.specs.StaysInForce.{HoldsLids}
use Rattle.manager_laws.specs.OwnRuns.{WritesSwept}
use Rattle.manager_laws.proofs.masters.Acting.{AreCarried, Carried, Plans, WritesCarried, event_plans}
use Rattle.manager_laws.proofs.masters.Deliveries.{IsPlannedFrom, Sends}
use Rattle.manager_laws.proofs.masters.Traces.{SendsSo}

-- an old sweep may be left where none began
abbrev pub Old : Bool → Type 0
Old true = ⊥
Old false = Unit {0}

-- no elements
none_of : {X : Type 0} (xs : List X) → (length xs == 0) ≡ true → xs ≡ []
none_of [] e = refl
none_of (x ∷ xs) e = let none = eqb-true _ _ e in absurd (omega (arith, none))

-- a manager that has swept goes on having swept
pub swept_still : (m : Seated) (own : ManagerEvent) → m.has_swept ≡ true → has_swept_after m own ≡ true
swept_still m Begin e = by_fault (is_none (begin_fault m.manager))
  where
    by_fault : (b : Bool) → cond b true m.has_swept ≡ true
    by_fault true = refl
    by_fault false = e
swept_still m event e = e

-- it knows one sweep by an event of its own where it had before and learns of nothing else, or a sweep begins as it knows nothing
pub knows_by : (scene : Scene) (m : Seated) (own : ManagerEvent) → knows_one_after m own ≡ true
    → ((m.knows_one_sweep ≡ true) × BeginsNoSweep (seen_by scene m) own)
    ⊎ ((own ≡ Begin) × (begin_fault m.manager ≡ None) × (cells_of m.manager.store ≡ []))
knows_by scene m Begin e = by_fault (is_none (begin_fault m.manager)) refl e
  where
    by_fault : (b : Bool) → is_none (begin_fault m.manager) ≡ b → cond b (length (cells_of m.manager.store) == 0) m.knows_one_sweep ≡ true
        → ((m.knows_one_sweep ≡ true) × (begin_fault m.manager ≢ None))
        ⊎ ((Begin ≡ Begin) × (begin_fault m.manager ≡ None) × (cells_of m.manager.store ≡ []))
    by_fault true none h = inr (refl, is_none-none _ none, none_of (cells_of m.manager.store) h)
    by_fault false some h = inl (h, λ none. cc (sym some ∙ none-is_none _ none))
knows_by scene m (Raise floor) e =
    let parts = and_parts m.knows_one_sweep (nat_le floor m.manager.store.floor) e in inl (parts.0, leb-true _ _ parts.1)
knows_by scene m (Merge floor sightings) e =
    let parts = and_parts m.knows_one_sweep (length sightings == 0 && nat_le floor m.manager.store.floor) e in
    let both = and_parts (length sightings == 0) (nat_le floor m.manager.store.floor) parts.1 in
    inl (parts.0, (none_of sightings both.0, leb-true _ _ both.1))
knows_by scene m event e = inl (e, tt)

-- the seat stays
seat_stays : (w : Managing) (event : ManagerEvent) → (after_manager_event w event).seat ≡ w.seat
seat_stays w (Send which) = by_packet (slice_get w.out which)
  where
    by_packet : (o : Option Outgoing) → (sending w o).seat ≡ w.seat
    by_packet None = refl
    by_packet (Some o) = refl
seat_stays w (Hear which) = by_handed (slice_get w.scene.handed which)
  where
    by_handed : (m : Option Handed) → (hearing w m).seat ≡ w.seat
    by_handed None = refl
    by_handed (Some h) = cond_both (is_same_port h.at w.seat) _ _ (λ (x : Managing). x.seat ≡ w.seat) (λ _. refl) (λ _. refl)
seat_stays w event = refl

-- how it plans stays
planning_kept : (w : Managing) (event : ManagerEvent) → (after_manager_event w event).manager.planning ≡ w.manager.planning
planning_kept w (Around event) = refl
planning_kept w Begin = planning_stays w.manager calls.BeginSweep
planning_kept w Write = planning_stays w.manager calls.WriteSteps
planning_kept w Take = planning_stays w.manager calls.Take
planning_kept w (Send which) = by_packet (slice_get w.out which)
  where
    by_packet : (o : Option Outgoing) → (sending w o).manager.planning ≡ w.manager.planning
    by_packet None = refl
    by_packet (Some o) = refl
planning_kept w (Hear which) = by_handed (slice_get w.scene.handed which)
  where
    by_handed : (m : Option Handed) → (hearing w m).manager.planning ≡ w.manager.planning
    by_handed None = refl
    by_handed (Some h) =
        cond_both (is_same_port h.at w.seat) _ _ (λ (x : Managing). x.manager.planning ≡ w.manager.planning)
        (λ _. planning_stays w.manager (calls.Packet h.packet.bytes (Some h.packet.slid))) (λ _. refl)
planning_kept w (TimeOut transaction) = planning_stays w.manager (calls.Timeout transaction)
planning_kept w (Raise floor) = planning_stays w.manager (calls.Raise floor)
planning_kept w (Merge floor sightings) = planning_stays w.manager (calls.Merge floor sightings)
planning_kept w (Poll lid) = planning_stays w.manager (calls.Poll lid)
planning_kept w HandOver = planning_stays w.manager calls.Handover
planning_kept w Yield = planning_stays w.manager calls.Yield
planning_kept w Rediscover = planning_stays w.manager calls.Rediscover

-- what is known of the seats and the plan
pub record Known (from : Scene) (held : Facts) (planning : Planning) (seat : NodePort) : Type 0 where
  pub has_room : ¬ (IsNoRoom planning.lmc (cells_of held))
  pub agrees : AgreesOn (IsJoinedTo (fabric_of from.fabric) seat) (cells_of held) (fabric_of from.fabric)
  pub lids : HoldsLids (IsJoinedTo (fabric_of from.fabric) seat) (plan_by_it planning held) (fabric_of from.fabric)
  pub begins : (at : ℕ) → (1 ≤ at) × (at < 2 ^ 32) → (keeps : Bool) → Begins (first_of from seat at keeps) at 1
  pub ground : Ground from.fabric seat

module _ (from : Scene) (held : Facts) (planning : Planning) (seat : NodePort) (known : Known from held planning seat) where
  -- such a sweep that has every answer gives the plan that is held
  pub same_plan : (w : Managing) → FollowsOne (HasLidsOf (fabric_of from.fabric)) from seat w → w.manager.planning ≡ planning → IsWholeSweep w.manager.sweep
      → plan_of w.manager.planning.rule w.manager.planning.lmc (cells_of w.manager.store) ≡ plan_by_it planning held
  same_plan w one planning_is whole =
      let u = after_sweep_events one.events (first_of from seat one.at one.keeps) in
      let begins = known.begins one.at one.few one.keeps in
      let answered = subst IsWholeSweep one.follows.sweep whole in
      let taken = held_lids (IsJoinedTo (fabric_of from.fabric) seat) (fabric_of from.fabric) planning.rule planning.lmc held (facts_of u.reports)
      known.has_room known.agrees
      (done_sweeps_are_complete (first_of from seat one.at one.keeps) one.at 1 one.events begins one.can_be answered).at_first known.lids
      (swept_claims_are_true (first_of from seat one.at one.keeps) one.at 1 one.events begins one.can_be one.stays answered) in
      (λ j. plan_of (planning_is j).rule (planning_is j).lmc (cells_of w.manager.store))
      ∙ ap (plan_of planning.rule planning.lmc) (holds_all w u one.follows) ∙ taken.1

-- a manager that begins to write a plan
module _ (start : Simulation) (seat : NodePort) (plan : PlanValue) (w : Managing) (g : Goes start seat plan ⊥ w) (none : writing_fault w.manager ≡ None)
    (same : plan_of w.manager.planning.rule w.manager.planning.lmc (cells_of w.manager.store) ≡ plan) where
  may : MayWrite w.manager
  may = may_write w.manager none

  abbrev phases_with : Sweep → List Phase
  phases_with s = phases_by w.manager (Some s)

  step_carried : (s : Sweep) → IsSwept start seat s → (counted : Bool) (t : Step) → IsOf (phases_with s) counted t
      → Carried start seat plan t
  step_carried s swept counted t of =
      record {
        can = writing_goes start seat w.manager may g.fair.side.lmc s swept plan counted t of;
        carries = λ end leads now along a there packet asks. subst (λ p. Carries p a end.port packet) same
            (own_carries start seat w.manager may g.fair.side.lmc s swept now along end a packet there
            (record {
              phase = of.phase;
              there = of.there;
              step = t;
              in_phase = of.step;
              leads = leads;
              attribute = asks.attribute;
              modifier = asks.modifier;
              payload = asks.payload;
            }));
      }

  -- so each step of the writing that begins then carries its values
  pub writing_carried : AreCarried start seat plan (phases_by w.manager w.manager.sweep)
  writing_carried = by_sweep w.manager.sweep (swept_one w.manager.sweep g.fair.side.sweep)
    where
      swept_one : (o : Option Sweep) → SweepIs start seat ⊥ o → IsSweptOne start seat o
      swept_one o (inl old) = absurd old.0
      swept_one o (inr swept) = swept

      by_sweep : (o : Option Sweep) → IsSweptOne start seat o → AreCarried start seat plan (phases_by w.manager o)
      by_sweep None swept = absurd swept
      by_sweep (Some s) swept = step_carried s swept

-- sending -------------------------------------------------------------------------------------------------------

-- what the manager sends is one of the things that happen to the scene
pub record SendsOne (So : Sending → Type 0) (seat : NodePort) (w after : Scene) : Type 0 where
  pub sending : Sending
  pub can : CanSend seat sending
  pub so : So sending
  pub is : after_event w (SendFrom seat sending) ≡ after

-- an event of its own changes nothing on the scene, or sends one of its packets
module _ (start : Simulation) (seat : NodePort) (plan : PlanValue) (c : ℕ) (all : List StepSent) (So : Sending → Type 0)
    (so : (s : Sending) → IsOwnSending start seat plan c all s → So s) where
  pub own_scene : (w : Managing) → w.seat ≡ seat → AreOwnPackets start seat plan c all w.scene.handed w.out → (event : ManagerEvent) → IsItsOwn event
      → ((after_manager_event w event).scene ≡ w.scene) ⊎ SendsOne So seat w.scene (after_manager_event w event).scene
  own_scene w seat_is out (Around event) its = absurd its
  own_scene w seat_is out (Send which) its = by_packet (slice_get w.out which) refl
    where
      by_packet : (o : Option Outgoing) → slice_get w.out which ≡ o
          → ((sending w o).scene ≡ w.scene) ⊎ SendsOne So seat w.scene (sending w o).scene
      by_packet None e = inl refl
      by_packet (Some o) e =
          let own = own_there start seat plan c all w.scene.handed w.out which o out e in
          inr (record {
            sending = own.sending;
            can = own.can;
            so = so own.sending own.own;
            is = own.is w.scene (λ k h there. there) ∙ ap (λ q. sent_from w.scene q (packet_of o)) (sym seat_is);
          })
  own_scene w seat_is out (Hear which) its = by_handed (slice_get w.scene.handed which)
    where
      by_handed : (m : Option Handed) → ((hearing w m).scene ≡ w.scene) ⊎ SendsOne So seat w.scene (hearing w m).scene
      by_handed None = inl refl
      by_handed (Some h) = inl (cond_both (is_same_port h.at w.seat) _ _ (λ (x : Managing). x.scene ≡ w.scene) (λ _. refl) (λ _. refl))
  own_scene w seat_is out event its = inl refl

module _ (from : Scene) (plan : PlanValue) (IsSeat : NodePort → Type 0) (seat : NodePort) (is_seat : IsSeat seat) (all : List StepSent)
    (carried : (x : StepSent) → Contains all x → Carried from.fabric seat plan x.step) where
  step_planned : (request : List ℕ) → IsOfStep from.fabric seat plan 0 all request → IsPlannedFrom from.fabric plan IsSeat seat request
  step_planned request x =
      let c = carried x.step x.there in
      record {
        is_seat = is_seat;
        carries = λ path over end leads now along a there packet notes hops out. c.carries end
            (ap (directed_end (fabric_of from.fabric) seat) (sym (same_path x.step path request c.can.sendable c.can.short x.small over x.is)) ∙ leads)
            now along a there packet (asks_for_step x.step request packet notes hops c.can.sendable c.can.short x.small x.is out);
      }

  request_so : (request : List ℕ) → IsOwn from.fabric seat plan 0 all request → Sends from.fabric plan IsSeat seat request
  request_so request (inl (inl low)) sets = absurd (omega (arith, low))
  request_so request (inl (inr (high, alone))) sets = inl (alone sets)
  request_so request (inr x) sets = inr (step_planned request x)

  pub sending_so : (s : Sending) → IsOwnSending from.fabric seat plan 0 all s → SendsSo from plan IsSeat seat s
  sending_so (ByLid packet) own = own
  sending_so (ByPath method_number attribute modifier tid path payload) own =
      request_so (directed method_number attribute modifier tid path payload) own
  sending_so (Answer which given payload) own = tt

-- one of the managers -----------------------------------------------------------------------------------------------

-- no writing begins where no sweep did
pub no_writing : (scene : Scene) (m : Seated) (b : Bool) → m.has_swept ≡ b → (event : ManagerEvent) → WritesSwept m event
    → BeginsNoWriting (seen_by scene m) event ⊎ (Old b → ⊥)
no_writing scene m true e event writes = inr (λ none. none)
no_writing scene m false e Write writes = inl (λ none. cc (sym e ∙ writes none))
no_writing scene m false e event writes = inl tt

-- it is seen as it is
pub view_after : (scene : Scene) (m : Seated) (event : ManagerEvent)
    → seen_by (after_manager_event (seen_by scene m) event).scene (seated_after m event (after_manager_event (seen_by scene m) event))
    ≡ after_manager_event (seen_by scene m) event
view_after scene m event =
    let w = after_manager_event (seen_by scene m) event in
    (λ j. record { scene = w.scene; seat = sym (seat_stays (seen_by scene m) event) j; manager = w.manager; out = w.out })

module _ (start : Simulation) (plan : PlanValue) (scene : Scene) (m : Seated) (ground : Ground start m.seat)
    (goes : Goes start m.seat plan (Old m.has_swept) (seen_by scene m)) where
  -- it goes on by an event of its own
  pub goes_after : (event : ManagerEvent) → IsItsOwn event → CanBe m.seat event → WritesSwept m event
      → Goes start m.seat plan (Old (has_swept_after m event)) (after_manager_event (seen_by scene m) event)
  goes_after event its can_be writes = by_event event its can_be
      (event_goes start m.seat plan ground (Old m.has_swept) (seen_by scene m) event (no_writing scene m m.has_swept refl event writes) goes can_be)
    where
      by_fault : (b : Bool) → is_none (begin_fault m.manager) ≡ b
          → Goes start m.seat plan (Old (cond b true m.has_swept))
          (record { scene = scene; seat = m.seat; manager = cond b (after_begin_sweep m.manager) m.manager; out = m.out })
      by_fault true e =
          begin_goes start m.seat plan ground (Old m.has_swept) (seen_by scene m) goes (is_none-none _ e)
      by_fault false e = goes

      by_event : (event : ManagerEvent) → IsItsOwn event → CanBe m.seat event
          → Goes start m.seat plan (Old m.has_swept) (after_manager_event (seen_by scene m) event)
          → Goes start m.seat plan (Old (has_swept_after m event)) (after_manager_event (seen_by scene m) event)
      by_event (Around event) its can_be g = absurd its
      by_event Begin its can_be g = by_fault (is_none (begin_fault m.manager)) refl
      by_event event its can_be g = g

-- a writing of what one sweep told begins once a sweep did
pub swept_if : (m : Seated) (event : ManagerEvent) → (m.knows_one_sweep ≡ true → m.has_swept ≡ true) → WritesWhole m event → WritesSwept m event
swept_if m Write swept whole = λ none. swept (whole none).0
swept_if m event swept whole = tt

module _ (from : Scene) (held : Facts) (planning : Planning) where
  pub record Side (scene : Scene) (m : Seated) : Type 0 where
    pub goes : Goes from.fabric m.seat (plan_by_it planning held) (Old m.has_swept) (seen_by scene m)
    pub plans : Plans from.fabric m.seat (plan_by_it planning held) (seen_by scene m)
    pub planning_is : m.manager.planning ≡ planning
    pub swept : m.knows_one_sweep ≡ true → m.has_swept ≡ true
    pub follows : m.knows_one_sweep ≡ true → FollowsOne (HasLidsOf (fabric_of from.fabric)) from m.seat (seen_by scene m)

  module _ (scene : Scene) (m : Seated) (side : Side scene m) (known : Known from held planning m.seat) where
    goes_new : m.knows_one_sweep ≡ true → Goes from.fabric m.seat (plan_by_it planning held) ⊥ (seen_by scene m)
    goes_new knows = subst (λ b. Goes from.fabric m.seat (plan_by_it planning held) (Old b) (seen_by scene m)) (side.swept knows) side.goes

    -- what it knows afterwards from one sweep
    follows_after : (event : ManagerEvent) → CanBe m.seat event → SeenBySweeps (HasLidsOf (fabric_of from.fabric)) from scene
        → HasLidsOf (fabric_of from.fabric) scene
        → HasLidsOf (fabric_of from.fabric) (after_manager_event (seen_by scene m) event).scene → knows_one_after m event ≡ true
        → FollowsOne (HasLidsOf (fabric_of from.fabric)) from m.seat (after_manager_event (seen_by scene m) event)
    follows_after event can_be seen now lids knows = elim (knows_by scene m event knows) [
      | inl (old, quiet) ↦ follows_on (HasLidsOf (fabric_of from.fabric)) from m.seat (plan_by_it planning held) known.ground (seen_by scene m) event
          (side.follows old) (goes_new old) quiet can_be now lids
      | inr (is, none, nothing) ↦ subst (λ e. FollowsOne (HasLidsOf (fabric_of from.fabric)) from m.seat (after_manager_event (seen_by scene m) e)) (sym is)
          (subst (λ b. FollowsOne (HasLidsOf (fabric_of from.fabric)) from m.seat
          (record { scene = scene; seat = m.seat; manager = cond b (after_begin_sweep m.manager) m.manager; out = m.out })) (sym (none-is_none _ none))
          (follows_first (HasLidsOf (fabric_of from.fabric)) from m.seat (plan_by_it planning held) known.ground (Old m.has_swept) (seen_by scene m)
          seen now side.goes nothing))
    ]

    swept_after : (event : ManagerEvent) → knows_one_after m event ≡ true → has_swept_after m event ≡ true
    swept_after event knows = elim (knows_by scene m event knows) [
      | inl (old, quiet) ↦ swept_still m event (side.swept old)
      | inr (is, none, nothing) ↦ subst (λ e. has_swept_after m e ≡ true) (sym is) (ap (λ b. cond b true m.has_swept) (none-is_none _ none))
    ]

    carried_if : (event : ManagerEvent) → WritesWhole m event
        → WritesCarried from.fabric m.seat (plan_by_it planning held) (seen_by scene m) event
    carried_if Write whole = λ none.
        let knows = (whole none).0 in
        writing_carried from.fabric m.seat (plan_by_it planning held) (seen_by scene m) (goes_new knows) none
        (same_plan from held planning m.seat known (seen_by scene m) (side.follows knows) side.planning_is (whole none).1)
    carried_if event whole = tt

    -- by an event of its own
    pub own_side : (event : ManagerEvent) → IsItsOwn event → CanBe m.seat event → WritesWhole m event
        → SeenBySweeps (HasLidsOf (fabric_of from.fabric)) from scene → HasLidsOf (fabric_of from.fabric) scene
        → HasLidsOf (fabric_of from.fabric) (after_manager_event (seen_by scene m) event).scene
        → Side (after_manager_event (seen_by scene m) event).scene (seated_after m event (after_manager_event (seen_by scene m) event))
    own_side event its can_be whole seen now lids =
        let w = after_manager_event (seen_by scene m) event in
        let view = view_after scene m event in
        record {
          goes = subst (Goes from.fabric m.seat (plan_by_it planning held) (Old (has_swept_after m event))) (sym view)
              (goes_after from.fabric (plan_by_it planning held) scene m known.ground side.goes event its can_be
              (swept_if m event side.swept whole));
          plans = subst (Plans from.fabric m.seat (plan_by_it planning held)) (sym view)
              (event_plans from.fabric m.seat (plan_by_it planning held) known.ground (Old m.has_swept) (seen_by scene m) event
              (carried_if event whole) side.goes can_be side.plans);
          planning_is = planning_kept (seen_by scene m) event ∙ side.planning_is;
          swept = swept_after event;
          follows = λ knows. subst (FollowsOne (HasLidsOf (fabric_of from.fabric)) from m.seat) (sym view) (follows_after event can_be seen now lids knows);
        }

    -- by what happens around it
    pub around_side : (event : Event) → CanBe m.seat (Around event) → HasLidsOf (fabric_of from.fabric) scene
        → HasLidsOf (fabric_of from.fabric) (after_event scene event) → Side (after_event scene event) m
    around_side event can_be now lids =
        record {
          goes = event_goes from.fabric m.seat (plan_by_it planning held) known.ground (Old m.has_swept) (seen_by scene m) (Around event) (inl tt)
              side.goes can_be;
          plans = event_plans from.fabric m.seat (plan_by_it planning held) known.ground (Old m.has_swept) (seen_by scene m) (Around event) tt
              side.goes can_be side.plans;
          planning_is = side.planning_is;
          swept = side.swept;
          follows = λ knows. follows_on (HasLidsOf (fabric_of from.fabric)) from m.seat (plan_by_it planning held) known.ground (seen_by scene m)
              (Around event) (side.follows knows) (goes_new knows) tt can_be now lids;
        }
