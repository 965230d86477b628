-- A writing that begins: where none of what forbids it holds, its steps go where the sweep came to, and set what the plan has there.
use Rattle.std.proofs.Common.{◌≡◌, ◌<◌, inl, inr, ℕ, ◌≤◌, ◌^◌, Bool, true, false, cond, List, [], ◌∷◌, length, refl, sym, ap, ◌∙◌, subst, arith}
use Rattle.std.proofs.lemmas.Bool.{eqb-true, not-false}
use Rattle.std.proofs.lemmas.Option.{same_Some}
use Rattle.std.specs.Prelude.{Contains, Option, Some, None, nat_le, not, ◌==◌, ◌||◌}
use Rattle.fabric_model.specs.declared.cable.NodePort.{NodePort}
use Rattle.smp_bytes.specs.Header.{port_info}
use Rattle.fabric_model.specs.Fabric.{Node, IsNodeAt}
use Rattle.attr_codec.specs.declared.port_state.PortState.{PortState}
use Rattle.reply_facts.specs.Report.{guid_port}
use Rattle.fabric_sim.specs.Simulation.{Simulation, fabric_of}
use Rattle.fabric_sim.specs.ThereAndBack.{BeginsWith}
use Rattle.fabric_model.specs.DirectedWalk.{directed_end}
use Rattle.subnet_view.proofs.Members.{contains_cases, contains_none}
use Rattle.fact_store.specs.View.{cells_of}
use Rattle.lid_assign.specs.Lids.{IsNoRoom, range_of}
use Rattle.lft_blocks.specs.Plan.{PlanValue, plan_of}
use Rattle.sweep.specs.Sweep.{Sweep, is_done, path_to, seen_state}
use Rattle.plan_steps.specs.declared.step.Step.{Step}
use Rattle.plan_steps.specs.LidSteps.{own_lid}
use Rattle.plan_steps.specs.Phase.{Phase}
use Rattle.plan_steps.specs.PlannedTree.{planned_tree}
use Rattle.sm_manager.specs.Writing.{phases_by}
use Rattle.sm_manager.specs.declared.fault.ManagerFault.{ManagerFault}
use Rattle.sm_manager.specs.declared.pending.Pending.{Pending}
use Rattle.sm_manager.specs.ManagerRequests.{is_step, no_step_waits}
use Rattle.sm_manager.specs.Manager.{Manager}
use Rattle.sm_manager.specs.PlanFaults.{writing_fault}
use Rattle.sm_state.specs.Standing.{is_in}
use Rattle.sm_manager.proofs.Begun.{first_phase_fits, may_begin}
use Rattle.sm_manager.specs.Writing.{write_fault_with, after_write_steps}
use Rattle.sm_state.specs.declared.state.SmState.TheVariants.{Master}
use Rattle.manager_laws.proofs.AgentSets.{IsOfPlan}
use Rattle.manager_laws.proofs.Fair.{CanGo}
use Rattle.manager_laws.proofs.Goes.{CanAllGo}
use Rattle.manager_laws.proofs.Led.{IsLedSweep, LeadsToVertex, path_led, seen_small}
use Rattle.manager_laws.proofs.Numbered.{no_step_there}
use Rattle.manager_laws.proofs.Steps.{IsOf, StepSent, IsStep, IsPlanned, IsGoodPhase, AreGoodPhases, good_phases}
use Rattle.manager_laws.proofs.WritingSweeps.{IsSwept}
use Rattle.manager_laws.proofs.WritingTaken.{IsGood, node_of_agent}
use Rattle.manager_laws.specs.Sets.{Carries, IsOwnSet}
use Rattle.fabric_sim.specs.Simulation.{agent_at}
use Rattle.fabric_sim.proofs.TripShapes.{IsAlong}
use Rattle.node_agents.specs.Agent.{Agent, is_switch, node_of}
use Rattle.node_agents.specs.PortInfo.{port_meant}
use Rattle.smp_bytes.specs.Field.{number_in}
use Rattle.smp_bytes.specs.Packet.{attribute_modifier}
use Rattle.attr_codec.specs.PortInfo.{range_in}
use Rattle.attr_codec.specs.SwitchInfo.{linear_fdb_top}
use Rattle.lft_blocks.specs.Plan.{block_at}

-- when it begins -----------------------------------------------------------------------------------

pub record MayWrite (m : Manager) : Type 0 where
  pub no_step : (p : Pending) → Contains m.pending p → is_step p ≡ true → ⊥
  pub sweep_done : (s : Sweep) → m.sweep ≡ Some s → is_done s ≡ true
  pub has_room : ¬ (IsNoRoom m.planning.lmc (cells_of m.store))
  pub few : (after_write_steps m).counter ≤ 2 ^ 32

pub may_write : (m : Manager) → writing_fault m ≡ None → MayWrite m
may_write m e =
    let begins = may_begin m e in
    record {
      no_step = λ p. no_step_there m.pending p (nothing_waits m.sweep begins.may);
      sweep_done = λ s is. sweep_ended s
          (ap (write_fault_with m) (sym is) ∙ begins.may);
      has_room = begins.has_room;
      few = first_phase_fits m e;
    }
  where
    third : (a b c : Bool) (u v w : ManagerFault) → cond a (Some u) (cond b (Some v) (cond c (Some w) None)) ≡ None → c ≡ false
    third true b c u v w h = absurd (cc)
    third false true c u v w h = absurd (cc)
    third false false true u v w h = absurd (cc)
    third false false false u v w h = refl

    second : (a b : Bool) (u v : ManagerFault) (rest : Option ManagerFault) → cond a (Some u) (cond b (Some v) rest) ≡ None → b ≡ false
    second true b u v rest h = absurd (cc)
    second false true u v rest h = absurd (cc)
    second false false u v rest h = refl

    sweep_ended : (s : Sweep) → write_fault_with m (Some s) ≡ None → is_done s ≡ true
    sweep_ended s h = not-false (is_done s) (second (not (is_in Master m.standing)) (not (is_done s)) _ _ _ h)

    nothing_waits : (s : Option Sweep) → write_fault_with m s ≡ None → no_step_waits m.pending ≡ true
    nothing_waits None h = absurd (cc)
    nothing_waits (Some s) h = not-false (no_step_waits m.pending)
        (third (not (is_in Master m.standing)) (not (is_done s)) (not (no_step_waits m.pending)) _ _ _ h)

-- its steps ----------------------------------------------------------------------------------------

module _ (start : Simulation) (seat : NodePort) (plan : PlanValue) (s : Sweep) (led : IsLedSweep (fabric_of start) seat s) where
  -- each goes where the sweep came to
  step_can_go : (t : Step) → IsStep plan s t → CanGo start seat plan t
  step_can_go t is =
      let to = path_led (fabric_of start) seat s is.guid is.vertex t.path led is.goes.path in
      record {
        sendable = is.sendable;
        own = subst (BeginsWith seat.port) (sym to.path_is) to.led.own;
        short = subst (λ (p : List ℕ). length p ≤ 63) (sym to.path_is) to.led.short;
      }

  step_is_good : (p : StepSent) → IsStep plan s p.step → (p.counts ≡ true → IsPlanned plan s p.step) → IsGood start seat plan p
  step_is_good p is planned =
      let to = path_led (fabric_of start) seat s is.guid is.vertex p.step.path led is.goes.path in
      let can = step_can_go p.step is in
      record {
        sendable = is.sendable;
        own = can.own;
        short = can.short;
        end = to.led.end;
        node = to.led.node;
        leads = ap (directed_end (fabric_of start) seat) to.path_is ∙ to.led.leads;
        there = to.led.has.there;
        of_plan = λ counts. let q = planned counts in
            let also = path_led (fabric_of start) seat s q.guid q.vertex p.step.path led q.goes.path in
            subst (λ (g : ℕ). IsOfPlan plan g p.step) (sym also.guid_is ∙ sym also.led.has.named ∙ ap (λ (n : Node). n.guid) (same_node to also)) q.of_plan;
        port = λ counts is_port. let q = planned counts in
            let also = path_led (fabric_of start) seat s q.guid q.vertex p.step.path led q.goes.path in
            q.port is_port ∙ sym also.port_is ∙ also.led.port
            ∙ (λ j. guid_port (ap (λ (n : Node). n.kind) (same_node to also) j) (ap (λ (e : NodePort). e.port) (same_end to also) j));
      }
    where
      same_end : {g v h u : ℕ} (to : LeadsToVertex (fabric_of start) seat p.step.path g v) (also : LeadsToVertex (fabric_of start) seat p.step.path h u)
          → also.led.end ≡ to.led.end
      same_end to also =
          same_Some _ _ (sym also.led.leads ∙ ap (directed_end (fabric_of start) seat) (sym also.path_is ∙ to.path_is) ∙ to.led.leads)

      same_node : {g v h u : ℕ} (to : LeadsToVertex (fabric_of start) seat p.step.path g v) (also : LeadsToVertex (fabric_of start) seat p.step.path h u)
          → also.led.node ≡ to.led.node
      same_node to also =
          same_Some _ _ (sym (subst (λ (e : NodePort). IsNodeAt (fabric_of start) e.node also.led.node) (same_end to also) also.led.has.there)
          ∙ to.led.has.there)

-- the phases of a writing
module _ (start : Simulation) (seat : NodePort) (m : Manager) (may : MayWrite m) (few_lmc : m.planning.lmc < 8) (s : Sweep) (swept : IsSwept start seat s) where
  master : ℕ
  master = own_lid (cells_of m.store) (plan_of m.planning.rule m.planning.lmc (cells_of m.store)).given.ports m.standing.guid m.port

  few : (guid vertex : ℕ) (path : List ℕ) → path_to s guid vertex ≡ Some path → vertex ≤ 254
  few guid vertex path e =
      let to = path_led (fabric_of start) seat s guid vertex path swept.led e in
      let small = to.led.small in
      let same = to.port_is in
      omega (arith, small, same)

  seen_few : (guid port : ℕ) (state : PortState) → seen_state s guid port ≡ Some state → port ≤ 254
  seen_few guid port state e = seen_small (fabric_of start) seat s guid port state swept.led e

  GoodOne : Phase → Type 0
  GoodOne p = IsGoodPhase m.planning.rule m.planning.lmc few_lmc m.store may.has_room s master few seen_few p

  GoodAll : List Phase → Type 0
  GoodAll phases = AreGoodPhases m.planning.rule m.planning.lmc few_lmc m.store may.has_room s master few seen_few phases

  all_good : GoodAll (phases_by m (Some s))
  unfolding GoodAll master
  all_good = good_phases m.planning.rule m.planning.lmc few_lmc m.store may.has_room s master few seen_few (planned_tree m.planning (cells_of m.store))

  one_good : (phases : List Phase) (p : Phase) → GoodAll phases → Contains phases p → GoodOne p
  unfolding GoodAll GoodOne
  one_good [] p good there = absurd (contains_none p there)
  one_good (q ∷ phases) p good there =
      elim (contains_cases q p phases there) [ inl i ↦ subst GoodOne i good.0 | inr k ↦ one_good phases p good.1 k ]

  -- of each phase
  phase_good : (counts : Bool) (t : Step)
      → IsOf (phases_by m (Some s)) counts t
      → IsStep (plan_of m.planning.rule m.planning.lmc (cells_of m.store)) s t
      × (counts ≡ true → IsPlanned (plan_of m.planning.rule m.planning.lmc (cells_of m.store)) s t)
  unfolding GoodOne
  phase_good counts t is =
      let good = one_good (phases_by m (Some s)) is.phase all_good
      is.there in
      (good.steps t is.step, λ c. good.counted (is.counts_is ∙ c) t is.step)

  pub writing_goes : (plan : PlanValue)
      → CanAllGo start seat plan (phases_by m (Some s))
  writing_goes plan counts t is =
      let can = step_can_go start seat (plan_of m.planning.rule m.planning.lmc (cells_of m.store)) s swept.led t (phase_good counts t is).0 in
      record { sendable = can.sendable; own = can.own; short = can.short }

  -- a Set of its own carries the plan's values
  pub own_carries : (now : Simulation) → IsAlong start now → (at : NodePort) (a : Agent) (packet : List ℕ) → agent_at now at.node ≡ Some a
      → IsOwnSet (fabric_of start) seat (phases_by m (Some s)) at
      packet
      → Carries (plan_of m.planning.rule m.planning.lmc (cells_of m.store)) a at.port packet
  unfolding GoodOne
  own_carries now along at a packet agent own =
      record {
        lids = λ e port range meant has. ap range_in own.payload
            ∙ is.planned.lids (sym own.attribute ∙ e) range
            (ap (λ g. range_of (plan_of m.planning.rule m.planning.lmc (cells_of m.store)).given (record { node = g; port = own.step.modifier })) guid_is
            ∙ ap (λ n. range_of (plan_of m.planning.rule m.planning.lmc (cells_of m.store)).given (record { node = a.node.guid; port = n }))
            (sym (means (sym own.attribute ∙ e) port meant))
            ∙ has);
        top = λ e top switch is_top. ap (number_in linear_fdb_top) own.payload ∙ is.planned.top (sym own.attribute ∙ e) top is_top;
        block = λ e block there. own.payload ∙ is.planned.block (sym own.attribute ∙ e) block
            (ap (λ g. block_at (plan_of m.planning.rule m.planning.lmc (cells_of m.store)) g own.step.modifier) guid_is
            ∙ ap (block_at (plan_of m.planning.rule m.planning.lmc (cells_of m.store)) a.node.guid) (sym own.modifier) ∙ there);
      }
    where
      is : IsStep (plan_of m.planning.rule m.planning.lmc (cells_of m.store)) s own.step
      is = (one_good (phases_by m (Some s)) own.phase all_good
          own.there).steps own.step
          own.in_phase

      to : LeadsToVertex (fabric_of start) seat own.step.path is.guid is.vertex
      to = path_led (fabric_of start) seat s is.guid is.vertex own.step.path swept.led is.goes.path

      ends : to.led.end ≡ at
      ends = same_Some _ _ (sym to.led.leads ∙ ap (directed_end (fabric_of start) seat) (sym to.path_is) ∙ own.leads)

      node_is : to.led.node ≡ node_of a
      node_is = node_of_agent start now along at.node to.led.node a
          (subst (λ (e : NodePort). IsNodeAt (fabric_of start) e.node to.led.node) ends to.led.has.there) agent

      guid_is : is.guid ≡ a.node.guid
      guid_is = sym to.guid_is ∙ sym to.led.has.named ∙ ap (λ (n : Node). n.guid) node_is

      vertex_is : is.vertex ≡ cond (is_switch a) 0 at.port
      vertex_is = sym to.port_is ∙ to.led.port ∙ (λ j. guid_port (node_is j).kind (ends j).port)

      means : own.step.attribute ≡ port_info → (port : ℕ) → port_meant a (number_in attribute_modifier packet) at.port ≡ Some port → port ≡ own.step.modifier
      means is_port port meant =
          by_kind (is_switch a) (nat_le own.step.modifier a.node.ports) vertex_is (is.zero is_port)
          (ap (λ n. port_meant a n at.port) (sym own.modifier) ∙ meant)
        where
          by_zero : (b : Bool) → (own.step.modifier == 0) ≡ b → (d : Bool) → (own.step.modifier == at.port) ≡ d → is.vertex ≡ at.port
              → (own.step.modifier ≡ 0 → is.vertex ≡ 0)
              → cond (b || d) (Some at.port) None ≡ Some port → port ≡ own.step.modifier
          by_zero true e d f v z h =
              let none = eqb-true _ _ e in sym (same_Some at.port port h) ∙ sym v ∙ z none ∙ sym none
          by_zero false e true f v z h = sym (same_Some at.port port h) ∙ sym (eqb-true _ _ f)
          by_zero false e false f v z h = absurd (cc)

          by_kind : (b d : Bool) → is.vertex ≡ cond b 0 at.port → (own.step.modifier ≡ 0 → is.vertex ≡ 0)
              → cond b (cond d (Some own.step.modifier) None) (cond (own.step.modifier == 0 || own.step.modifier == at.port) (Some at.port) None) ≡ Some port
              → port ≡ own.step.modifier
          by_kind true true v z h = sym (same_Some _ _ h)
          by_kind true false v z h = absurd (cc)
          by_kind false d v z h = by_zero (own.step.modifier == 0) refl (own.step.modifier == at.port) refl v z h

  -- each of its steps is good
  pub writing_good : (x : StepSent)
      → IsOf (phases_by m (Some s)) x.counts x.step
      → IsGood start seat (plan_of m.planning.rule m.planning.lmc (cells_of m.store)) x
  writing_good x is =
      let good = phase_good x.counts x.step is in
      step_is_good start seat (plan_of m.planning.rule m.planning.lmc (cells_of m.store)) s swept.led x good.0 good.1

  -- a step along the path to a switch goes to the node of that GUID
  pub masks_at : (x : StepSent) (is : IsOf (phases_by m (Some s)) x.counts x.step) (guid : ℕ) → path_to s guid 0 ≡ Some x.step.path
      → (writing_good x is).node.guid ≡ guid
  masks_at x is guid e =
      let good = writing_good x is in
      let to = path_led (fabric_of start) seat s guid 0 x.step.path swept.led e in
      let ends : to.led.end ≡ good.end = same_Some _ _ (sym to.led.leads ∙ ap (directed_end (fabric_of start) seat) (sym to.path_is) ∙ good.leads) in
      let nodes : to.led.node ≡ good.node = same_Some _ _ (sym (subst (λ (p : NodePort). IsNodeAt (fabric_of start) p.node to.led.node) ends to.led.has.there)
      ∙ good.there) in
      ap (λ (n : Node). n.guid) (sym nodes) ∙ to.led.has.named ∙ to.guid_is
