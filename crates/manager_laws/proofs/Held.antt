-- Once a plan is written, all that the last sweep before came to holds it.
use Rattle.std.proofs.Common.{◌≡◌, inl, inr, ℕ, ◌+◌, ◌*◌, ◌≤◌, true, false, cond, List, [], length, refl, sym, ap, ◌∙◌, subst, arith}
use Rattle.std.proofs.lemmas.Option.{slice_get-get_or}
use Rattle.std.specs.Prelude.{Contains, Option, Some, None, IsSome}
use Rattle.std.specs.Option.{option_map_or}
use Rattle.fabric_model.specs.declared.cable.NodePort.{NodePort}
use Rattle.smp_bytes.specs.Header.{port_info, switch_info, linear_forwarding_table}
use Rattle.fabric_model.specs.Fabric.{Node, IsNodeAt, range_at as range_in_fabric, IsPortNamed}
use Rattle.fabric_model.specs.DirectedWalk.{directed_end}
use Rattle.attr_codec.specs.declared.port_state.PortState.{PortState}
use Rattle.attr_codec.specs.declared.port_state.PortState.TheVariants.{NoChange}
use Rattle.node_agents.specs.Agent.{Agent, base_lid_at, lmc_at, range_at, entry_at}
use Rattle.fact_store.specs.View.{Facts, cells_of}
use Rattle.fabric_sim.specs.Simulation.{Simulation, IsSimulation, agent_at, fabric_of}
use Rattle.fabric_sim.proofs.SeenFabrics.{agent_seen}
use Rattle.fabric_sim.proofs.TripShapes.{IsAlong}
use Rattle.subnet_view.specs.declared.end_port.EndPort.{EndPort}
use Rattle.subnet_view.proofs.Members.{contains_none}
use Rattle.lid_assign.specs.Lids.{range_of, top_of}
use Rattle.lft_blocks.specs.InForce.{HoldsBlock}
use Rattle.lft_blocks.specs.Plan.{PlanValue, plan_of, block_at, switches_of}
use Rattle.sweep.specs.Sweep.{Sweep, path_to, seen_state, switch_image, IsReached}
use Rattle.plan_steps.specs.declared.step.Step.{Step}
use Rattle.plan_steps.specs.Carried.{port_read}
use Rattle.plan_steps.specs.LidSteps.{own_lid, port_data}
use Rattle.plan_steps.specs.BlockSteps.{top_data}
use Rattle.plan_steps.specs.Phase.{Phase}
use Rattle.plan_steps.specs.PlannedTree.{planned_tree}
use Rattle.plan_steps.specs.Tree.{TreePorts}
use Rattle.sm_manager.specs.Manager.{Manager, Writing}
use Rattle.sm_manager.specs.Writing.{begun_with, is_written, without_empty_phases, phases_by, after_write_steps}
use Rattle.manager_laws.specs.Truth.{HasNode, AreGuidsDistinct}
use Rattle.manager_laws.specs.Managing.{Managing, ManagerEvent}
use Rattle.manager_laws.specs.Written.{IsHeldWhere, IsWritingRun, WrittenPlansAreHeld, at_first_steps, at_writing}
use Rattle.manager_laws.specs.Written.{at_end, own_sets, plan_at}
use Rattle.manager_laws.specs.Sets.{Carries, IsOwnSet}
use Rattle.manager_laws.proofs.After.{IsOnWay, Writes, phase_writes, after_writes, written_done}
use Rattle.manager_laws.proofs.AgentSets.{Holds}
use Rattle.manager_laws.proofs.Before.{none-is_none}
use Rattle.manager_laws.proofs.Goes.{Goes}
use Rattle.manager_laws.proofs.Led.{IsLedSweep, LeadsToVertex, path_led, seen_small}
use Rattle.manager_laws.proofs.Numbered.{from_passed, passed_is_of}
use Rattle.manager_laws.proofs.SweepBegins as sweeps
use Rattle.manager_laws.proofs.Steps.{IsOf, StepSent, range_is_set, block_is_set, top_is_set, range_value, top_value}
use Rattle.manager_laws.proofs.WritingSweeps.{Ground, IsSwept, IsSweptOne}
use Rattle.manager_laws.proofs.WritingTaken.{IsGood, IsDone, nodes_stay}
use Rattle.manager_laws.proofs.Writings.{MayWrite, may_write, own_carries, writing_good}

-- what a step that was done means -------------------------------------------------------------------------

module _ (start s : Simulation) (seat : NodePort) (plan : PlanValue) (distinct : AreGuidsDistinct (fabric_of start)) (along : IsAlong start s) (sweep : Sweep)
    (led : IsLedSweep (fabric_of start) seat sweep) (guid vertex : ℕ) (path : List ℕ) (e : path_to sweep guid vertex ≡ Some path) where
  to : LeadsToVertex (fabric_of start) seat path guid vertex
  to = path_led (fabric_of start) seat sweep guid vertex path led e

  -- the agent of the node of that GUID holds it
  pub held_at : (p : StepSent) (t : Step) → p.counts ≡ true → p.step ≡ t → t.path ≡ path → IsDone start seat plan s p → (id : ℕ) (node : Node)
      → IsNodeAt (fabric_of s) id node → node.guid ≡ guid → (a : Agent) × (agent_at s id ≡ Some a) × Holds a t
  held_at p t counts is path_is is_done id node there named =
      let (a, at, same) = agent_seen s id node there in
      let same_id : id ≡ to.led.end.node =
      distinct _ _ node to.led.node (nodes_stay start s along id node there) to.led.has.there (named ∙ sym to.guid_is ∙ sym to.led.has.named) in
      let leads = ap (λ (x : Step). directed_end (fabric_of start) seat x.path) is ∙ ap (directed_end (fabric_of start) seat) (path_is ∙ to.path_is)
      ∙ to.led.leads in
      let held = is_done.holds counts to.led.end a leads (ap (agent_at s) (sym same_id) ∙ at) in
      (a, at, subst (Holds a) is held)

-- the law -------------------------------------------------------------------------------------------------

module _ (w : Managing) (before between after : List ManagerEvent) (run : IsWritingRun w before between after) where
  pub along0 : IsAlong w.scene.fabric w.scene.fabric
  along0 = sweeps.along0 w run.starts

  pub ground : Ground w.scene.fabric w.seat
  ground = sweeps.ground w run.starts

  pub swept_before : Goes w.scene.fabric w.seat (plan_at (at_writing w before between)) ⊥ (at_writing w before between)
  swept_before =
      sweeps.swept_on w run.starts (plan_at (at_writing w before between)) before run.sweeps_first run.before_can run.sweep_begins between run.between_can

  module _ (sweep : Sweep) (sweep_is : (at_writing w before between).manager.sweep ≡ Some sweep) where
    pub may : MayWrite (at_writing w before between).manager
    may = may_write (at_writing w before between).manager run.writing_begins

    pub swept : IsSwept w.scene.fabric w.seat sweep
    swept = elim swept_before.fair.side.sweep [ inl none ↦ absurd none.0 | inr one ↦ subst (IsSweptOne w.scene.fabric w.seat) sweep_is one ]

    abbrev tree : List TreePorts
    tree = planned_tree (at_writing w before between).manager.planning (cells_of (at_writing w before between).manager.store)

    pub phases : List Phase
    phases = phases_by (at_writing w before between).manager (Some sweep)

    pub phases_are : phases ≡ phases_by (at_writing w before between).manager (Some sweep)
    unfolding phases
    phases_are = refl

    pub good : (x : StepSent) → IsOf phases x.counts x.step → IsGood w.scene.fabric w.seat (plan_at (at_writing w before between)) x
    unfolding phases
    good x is = writing_good w.scene.fabric w.seat (at_writing w before between).manager may swept_before.fair.side.lmc sweep swept x is

    pub begins : Writes w.scene.fabric w.seat (plan_at (at_writing w before between)) (at_writing w before between).manager.counter phases
        (at_first_steps w before between)
    unfolding phases
    begins =
        let w3 = at_writing w before between in
        let s = w.scene.fabric in
        let p = plan_at w3 in
        let c = w3.manager.counter in
        let ps = phases in
        let v : Writing = record { later = without_empty_phases phases; has_failed = false } in
        let way : IsOnWay s w.seat p c phases w3.scene.fabric [] w3.manager.pending c v = record {
          least = λ x there. absurd (contains_none x there);
          below = λ x there. absurd (contains_none x there);
          once = λ x y there also same. absurd (contains_none x there);
          known = λ x there. absurd (contains_none x there);
          waits = λ x there is. absurd (may.no_step x there is);
          each = λ x there counts. absurd (contains_none x there);
          later = λ counts t is. from_passed phases counts t is;
          sent = λ counts t is. inl (passed_is_of phases counts t is);
        } in
        let same : begun_with w3.manager phases ≡ after_write_steps w3.manager = ap (λ o. begun_with w3.manager (phases_by w3.manager o)) (sym sweep_is) in
        let few = ap (λ (x : Manager). x.counter) same in
        let most = may.few in
        let sent = phase_writes s w.seat p c phases good w3 w3.manager v [] swept_before.fair
        (omega arith) refl swept_before.fair.side swept_before.fair.once way
        (omega (arith, few, most)) in
        subst (λ b. Writes s w.seat p c phases (record w3 { manager = cond b (after_write_steps w3.manager) w3.manager }))
        (sym (none-is_none _ run.writing_begins))
        (subst (λ x. Writes s w.seat p c phases (record w3 { manager = x })) same sent)

    -- its own Sets carry the plan's values
    pub owns : (now : Simulation) → IsAlong w.scene.fabric now → (at : NodePort) (a : Agent) (packet : List ℕ) → agent_at now at.node ≡ Some a
        → own_sets w (at_writing w before between) at packet → Carries (plan_at (at_writing w before between)) a at.port packet
    owns now along at a packet there is_own =
        own_carries w.scene.fabric w.seat (at_writing w before between).manager may swept_before.fair.side.lmc sweep swept now along at a packet there
        (subst (λ o. IsOwnSet (fabric_of w.scene.fabric) w.seat (phases_by (at_writing w before between).manager o) at packet) sweep_is is_own)

    ends : Writes w.scene.fabric w.seat (plan_at (at_writing w before between)) (at_writing w before between).manager.counter phases
        (at_end w before between after)
    ends =
        after_writes w.scene.fabric w.seat (plan_at (at_writing w before between)) (at_writing w before between).manager.counter phases good ground
        (own_sets w (at_writing w before between)) owns after (at_first_steps w before between) run.keep begins run.after_can

    pub at_end_along : IsAlong w.scene.fabric (at_end w before between after).scene.fabric
    at_end_along = ends.fair.scene.fabric.along

    pub at_end_is : IsSimulation (at_end w before between after).scene.fabric
    at_end_is = ends.fair.scene.fabric.is

    module _ (written : is_written (at_end w before between after).manager ≡ true) where
      few : (guid vertex : ℕ) (path : List ℕ) → path_to sweep guid vertex ≡ Some path → vertex ≤ 254
      few guid vertex path e =
          let x = path_led (fabric_of w.scene.fabric) w.seat sweep guid vertex path swept.led e in
          let small = x.led.small in
          let same = x.port_is in
          omega (arith, small, same)

      seen_few : (guid port : ℕ) (state : PortState) → seen_state sweep guid port ≡ Some state → port ≤ 254
      seen_few guid port state e = seen_small (fabric_of w.scene.fabric) w.seat sweep guid port state swept.led e

      facts : Facts
      facts = (at_writing w before between).manager.store

      master : ℕ
      master = own_lid (cells_of (at_writing w before between).manager.store)
          (plan_of (at_writing w before between).manager.planning.rule (at_writing w before between).manager.planning.lmc
          (cells_of (at_writing w before between).manager.store)).given.ports
          (at_writing w before between).manager.standing.guid (at_writing w before between).manager.port

      -- a step of a phase that counts is held
      set_is_held : (t : Step) → IsOf phases true t
          → (guid vertex : ℕ) → path_to sweep guid vertex ≡ Some t.path → (id : ℕ) (node : Node)
          → IsNodeAt (fabric_of (at_end w before between after).scene.fabric) id node → node.guid ≡ guid
          → (a : Agent) × (agent_at (at_end w before between after).scene.fabric id ≡ Some a) × Holds a t × (length t.payload ≡ 64)
      set_is_held t of guid vertex e id node there named =
          let was = written_done w.scene.fabric w.seat (plan_at (at_writing w before between)) (at_writing w before between).manager.counter phases
          (at_end w before between after) ends written t of in
          let (a, at, held) = held_at w.scene.fabric (at_end w before between after).scene.fabric w.seat
          (plan_at (at_writing w before between)) run.starts.distinct at_end_along sweep
          swept.led guid vertex t.path e was.step t was.counts_is was.is refl was.is_done id node there named in
          (a, at, held, ap (λ (y : Step). length y.payload) (sym was.is) ∙ (good was.step was.known).sendable.whole)

      some_path : (guid vertex : ℕ) → IsReached sweep guid vertex → (path : List ℕ) × (path_to sweep guid vertex ≡ Some path)
      some_path guid vertex reached = by_path (path_to sweep guid vertex) refl reached
        where
          by_path : (o : Option (List ℕ)) → path_to sweep guid vertex ≡ o → IsSome o → (path : List ℕ) × (path_to sweep guid vertex ≡ Some path)
          by_path None e h = absurd (cc)
          by_path (Some path) e h = (path, e)

      lids_held : (e : EndPort) (range : ℕ × ℕ) (port : NodePort) → range_of (plan_at (at_writing w before between)).given e ≡ Some range
          → IsReached sweep e.node e.port → IsPortNamed (fabric_of (at_end w before between after).scene.fabric) e.node e.port port
          → range_in_fabric (fabric_of (at_end w before between after).scene.fabric) port ≡ range
      unfolding phases master
      lids_held e range port has reached named =
          let (path, there) = some_path e.node e.port reached in
          let facts = (at_writing w before between).manager.store in
          let x = range_is_set (at_writing w before between).manager.planning.rule (at_writing w before between).manager.planning.lmc swept_before.fair.side.lmc
          facts may.has_room sweep master few seen_few tree e range path has there in
          let (a, at, held, whole) = set_is_held (record {
            path = path;
            attribute = port_info;
            modifier = e.port;
            payload =
                port_data (port_read (cells_of facts) sweep e.node e.port) range master NoChange;
          }) x e.node e.port there port.node named.node named.node_there named.guid_is in
          ap (λ o. (option_map_or (λ y. base_lid_at y port.port) o 0, option_map_or (λ y. lmc_at y port.port) o 0)) at
          ∙ ap (range_at a) named.port_is ∙ held.lids refl
          ∙ range_value (at_writing w before between).manager.planning.rule (at_writing w before between).manager.planning.lmc swept_before.fair.side.lmc facts
          may.has_room sweep master few seen_few e range has

      tops_held : (guid top id : ℕ) (node : Node) → top_of (plan_at (at_writing w before between)).given ≡ Some top
          → Contains (switches_of (plan_at (at_writing w before between))) guid → IsReached sweep guid 0
          → HasNode (fabric_of (at_end w before between after).scene.fabric) guid id node
          → (fabric_of (at_end w before between after).scene.fabric).top id ≡ top
      unfolding phases master
      tops_held guid top id node is_top is_switch reached has =
          let (path, there) = some_path guid 0 reached in
          let facts = (at_writing w before between).manager.store in
          let x = top_is_set (at_writing w before between).manager.planning.rule (at_writing w before between).manager.planning.lmc swept_before.fair.side.lmc
          facts may.has_room sweep master few seen_few tree guid top path is_top is_switch there in
          let (a, at, held, whole) = set_is_held
          (record { path = path; attribute = switch_info; modifier = 0; payload = top_data (switch_image sweep guid) top }) x guid 0 there id
          node has.there has.named in
          ap (λ o. option_map_or (λ (y : Agent). y.top) o 0) at ∙ held.top refl
          ∙ top_value (at_writing w before between).manager.planning.rule (at_writing w before between).manager.planning.lmc swept_before.fair.side.lmc
          facts may.has_room sweep master few seen_few (switch_image sweep guid) top is_top

      blocks_held : (guid b id : ℕ) (block : List ℕ) (node : Node) → block_at (plan_at (at_writing w before between)) guid b ≡ Some block
          → IsReached sweep guid 0
          → HasNode (fabric_of (at_end w before between after).scene.fabric) guid id node
          → HoldsBlock (fabric_of (at_end w before between after).scene.fabric) id b block
      unfolding phases master
      blocks_held guid b id block node is_block reached has i less =
          let (path, there) = some_path guid 0 reached in
          let facts = (at_writing w before between).manager.store in
          let x = block_is_set (at_writing w before between).manager.planning.rule (at_writing w before between).manager.planning.lmc swept_before.fair.side.lmc
          facts may.has_room sweep master few seen_few tree guid b block path is_block there in
          let (a, at, held, whole) = set_is_held (record { path = path; attribute = linear_forwarding_table; modifier = b; payload = block }) x guid 0 there
          id node has.there has.named in
          slice_get-get_or block i 0 (omega (arith, less, whole))
          ∙ ap (λ n. Some n) (sym (ap (λ o. option_map_or (λ y. entry_at y (64 * b + i)) o 255) at ∙ held.block refl i less))

      pub is_held : IsHeldWhere (plan_at (at_writing w before between)) sweep (fabric_of (at_end w before between after).scene.fabric)
      is_held = record { lids = lids_held; tops = tops_held; blocks = blocks_held }

pub written_plans_are_held : WrittenPlansAreHeld
written_plans_are_held w before between after run written sweep sweep_is = is_held w before between after run sweep sweep_is written
