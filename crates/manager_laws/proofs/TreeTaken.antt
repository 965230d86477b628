-- Once agents have taken the masks of a tree, and no others since, they hold these masks.
use Rattle.std.proofs.Common.{◌≡◌, inl, inr, ℕ, ◌+◌, ◌*◌, ◌<◌, Bool, true, false, List, [], ◌∷◌, refl, sym, ap, ◌∙◌, subst, arith}
use Rattle.std.proofs.lemmas.Bool.{cond_both}
use Rattle.std.proofs.lemmas.List.Elements.{All-head, All-tail}
use Rattle.std.proofs.lemmas.Option.{same_Some}
use Rattle.std.specs.Prelude.{All, Contains, IsSome, Option, Some, None, cond, option_map, slice_get, slice_index}
use Rattle.std.specs.List.{filter_map, range_with_len}
use Rattle.fabric_model.specs.declared.cable.NodePort.{NodePort}
use Rattle.fabric_model.specs.Cables.{is_same_port}
use Rattle.fabric_model.specs.DirectedWalk.{directed_end}
use Rattle.fabric_model.specs.Fabric.{IsNodeAt, Node}
use Rattle.smp_bytes.specs.Header.{multicast_forwarding_table}
use Rattle.smp_bytes.specs.Field.{bytes_in, number_in}
use Rattle.smp_bytes.specs.Packet.{attribute_data, attribute_id, attribute_modifier, method, status}
use Rattle.fact_store.specs.View.{cells_of}
use Rattle.port_graph.proofs.Lists.{contains_map}
use Rattle.subnet_view.specs.Reading.{Cells, switches}
use Rattle.subnet_view.specs.Graph.{graph_of}
use Rattle.subnet_view.proofs.Members.{contains_none}
use Rattle.subnet_view.proofs.Taken.{is_taken, taken_from}
use Rattle.lft_blocks.specs.Plan.{PlanValue}
use Rattle.lft_blocks.specs.Planning.{Planning}
use Rattle.sweep.specs.Sweep.{IsReached, Sweep, path_to, switch_image}
use Rattle.plan_order.specs.PlanOrder.{positions_by}
use Rattle.multicast_tree.specs.Tree.{TreePorts, parent_port, position_in as order_position, tree_at, tree_by, tree_of}
use Rattle.plan_steps.specs.MaskSteps.{has_table, mask_of, mask_step, masks_data, position_count, switch_mask_steps, tree_steps}
use Rattle.plan_steps.specs.Phase.{Phase}
use Rattle.plan_steps.specs.PlannedTree.{planned_tree}
use Rattle.plan_steps.specs.declared.step.Step.{Step}
use Rattle.node_agents.specs.Agent.{Agent, IsAgent}
use Rattle.node_agents.specs.Answers.{after_answer}
use Rattle.node_agents.specs.MftBlock.{position_in}
use Rattle.node_agents.proofs.SameRequests.{told_same}
use Rattle.fabric_sim.specs.declared.flight.Flight.{Flight}
use Rattle.fabric_sim.specs.Delivery.{after_deliver}
use Rattle.fabric_sim.specs.Simulation.{Simulation, agent_at, fabric_of, port_of}
use Rattle.fabric_sim.proofs.TracedCalls.{agents_after, asks_when_answered, lost_agents, repeated_agents}
use Rattle.fabric_sim.proofs.TripShapes.{IsAlong, agent_there}
use Rattle.sm_manager.specs.declared.outgoing.Outgoing.{Outgoing}
use Rattle.manager_laws.specs.Managing.{AllAlong, Around, Begin, CanBe, HandOver, Hear, Managing, ManagerEvent, Merge, Poll, Raise, Rediscover, Send}
use Rattle.manager_laws.specs.Managing.{Take, TimeOut, Write, Yield, after_manager_event, after_manager_events, hearing, packet_of, sending}
use Rattle.manager_laws.specs.Scene.{Deliver, Emit, Event, Handed, Lose, Repeat, Send as SendFrom, after_event}
use Rattle.manager_laws.specs.Sets.{Carries, OwnSets}
use Rattle.manager_laws.specs.Truth.{HasNode}
use Rattle.manager_laws.specs.TreeTaken.{AreStepsTakenAtLast, IsSetOf, IsStepTaken, SetsOnly, TakenTreesAreHeld}
use Rattle.manager_laws.specs.TreeTaken.{TakesStep, own_tree, own_tree_steps}
use Rattle.manager_laws.specs.Written.{AllKeep, IsWritingRun, at_end, at_first_steps, at_writing, own_sets, plan_at}
use Rattle.manager_laws.proofs.After.{Writes, emitting_agents, event_writes, sent_agents, sent_from_agents}
use Rattle.manager_laws.proofs.AgentMasks.{IsBlockAt, asked_sets, asked_stays}
use Rattle.manager_laws.proofs.Held as held
use Rattle.manager_laws.proofs.Led.{path_led}
use Rattle.manager_laws.proofs.Scenes.{Sends, Tells}
use Rattle.manager_laws.proofs.Steps.{IsOf, StepSent}
use Rattle.manager_laws.proofs.WritingLists.{from_flat_map, in_flat_map, in_range_from_0}
use Rattle.manager_laws.proofs.WritingSweeps.{Ground}
use Rattle.manager_laws.proofs.WritingTaken.{IsGood, nodes_stay}

module _ (start : Simulation) (seat : NodePort) (plan : PlanValue) (c : ℕ) (phases : List Phase)
    (good : (x : StepSent) → IsOf phases x.counts x.step → IsGood start seat plan x) (ground : Ground start seat) (own : OwnSets)
    (owns : (now : Simulation) → IsAlong start now → (at : NodePort) (a : Agent) (packet : List ℕ) → agent_at now at.node ≡ Some a → own at packet
    → Carries plan a at.port packet)
    (id position : ℕ) (payload : List ℕ) (steps : List Step)
    (agreed : (t : Step) → Contains steps t → (at : NodePort) (packet : List ℕ) → IsSetOf (fabric_of start) seat t at packet → at.node ≡ id
    → position_in (number_in attribute_modifier packet) ≡ position → bytes_in attribute_data packet ≡ payload)
  where
    abbrev Going : Managing → Type 0
    Going w = Writes start seat plan c phases w

    abbrev Blocked : Simulation → Type 0
    Blocked s = IsBlockAt s id position payload

    -- where no agent changes
    unchanged : (s now : Simulation) → now.agents ≡ s.agents → Blocked s → Blocked now
    unchanged s now same held a there = held a (ap (λ xs. slice_get xs id) (sym same) ∙ there)

    -- a delivery
    delivered : (w : Managing) (n : ℕ) → Going w → SetsOnly (fabric_of start) seat steps w (Around (Deliver n)) → Blocked w.scene.fabric
        → Blocked (after_deliver w.scene.fabric n).fabric
    delivered w n g only held =
        elim (agents_after (Sends start seat plan c g.all) (Tells start seat plan c g.all w.scene.fabric) ground.cables ground.counts g.fair.scene.fabric.along
        g.fair.scene.fabric.is g.fair.traced.flights n) [
          | inl same ↦ unchanged w.scene.fabric (after_deliver w.scene.fabric n).fabric same held
          | inr x ↦ asked_stays start w.scene.fabric seat plan g.fair.scene.fabric.along n x.flight x.request x.asked id position payload
              (λ b was sets taken attribute same position_is.
              let p = port_of x.flight.whereabouts in
              let is_agent : IsAgent b = agent_there w.scene.fabric.agents p.node b g.fair.scene.fabric.along.agents was in
              let told = told_same b x.request x.flight.packet.bytes p.port is_agent x.asked.whole x.asked.readable x.asked.alike in
              let t = only p b x.flight.packet.bytes (record {
                flight = x.flight;
                waits = x.asked.waits;
                waits_at = refl;
                bytes = refl;
                there = was;
                result = x.asked.result;
                method = sym x.asked.alike.method_is ∙ sets;
                done = sym told.status_is ∙ taken;
              }) (sym x.asked.alike.attribute_is ∙ attribute) in
              x.asked.alike.data_is
              ∙ agreed t.0 t.1 p x.flight.packet.bytes t.2 same (ap position_in (sym x.asked.alike.modifier_is) ∙ position_is))
              held
        ]

    on_fabric : (w : Managing) (event : Event) → Going w → SetsOnly (fabric_of start) seat steps w (Around event) → Blocked w.scene.fabric
        → Blocked (after_event w.scene event).fabric
    on_fabric w (Deliver n) g only held = delivered w n g only held
    on_fabric w (Lose n) g only held =
        unchanged w.scene.fabric (after_event w.scene (Lose n)).fabric
        (lost_agents (Sends start seat plan c g.all) (Tells start seat plan c g.all w.scene.fabric) ground.cables ground.counts g.fair.scene.fabric.along
        g.fair.scene.fabric.is g.fair.traced.flights n) held
    on_fabric w (Repeat n) g only held =
        unchanged w.scene.fabric (after_event w.scene (Repeat n)).fabric
        (repeated_agents (Sends start seat plan c g.all) (Tells start seat plan c g.all w.scene.fabric) ground.cables ground.counts g.fair.scene.fabric.along
        g.fair.scene.fabric.is g.fair.traced.flights n) held
    on_fabric w (SendFrom other sending_it) g only held =
        unchanged w.scene.fabric (after_event w.scene (SendFrom other sending_it)).fabric (sent_agents start seat plan c phases good ground own owns w sending_it other g) held
    on_fabric w (Emit at sending_it) g only held =
        unchanged w.scene.fabric (after_event w.scene (Emit at sending_it)).fabric (emitting_agents start seat plan c phases good ground own owns w sending_it at g) held

    -- any event
    event_stays : (w : Managing) (event : ManagerEvent) → Going w → SetsOnly (fabric_of start) seat steps w event → Blocked w.scene.fabric
        → Blocked (after_manager_event w event).scene.fabric
    event_stays w (Around event) g only held = on_fabric w event g only held
    event_stays w Begin g only held = held
    event_stays w Write g only held = held
    event_stays w Take g only held = held
    event_stays w (Send which) g only held = by_packet (slice_get w.out which)
      where
        by_packet : (o : Option Outgoing) → Blocked (sending w o).scene.fabric
        by_packet None = held
        by_packet (Some o) =
            unchanged w.scene.fabric (sending w (Some o)).scene.fabric (sent_from_agents start seat plan c phases good ground own owns w w.seat (packet_of o) g) held
    event_stays w (Hear which) g only held = by_handed (slice_get w.scene.handed which)
      where
        by_handed : (m : Option Handed) → Blocked (hearing w m).scene.fabric
        by_handed None = held
        by_handed (Some h) = cond_both (is_same_port h.at w.seat) _ _ (λ (x : Managing). Blocked x.scene.fabric) (λ _. held) (λ _. held)
    event_stays w (TimeOut transaction) g only held = held
    event_stays w (Raise floor) g only held = held
    event_stays w (Merge floor sightings) g only held = held
    event_stays w (Poll lid) g only held = held
    event_stays w HandOver g only held = held
    event_stays w Yield g only held = held
    event_stays w Rediscover g only held = held

    -- the Set of a step is taken
    module _ (t : Step) (ends : (at : NodePort) → directed_end (fabric_of start) seat t.path ≡ Some at → at.node ≡ id)
        (is_masks : t.attribute ≡ multicast_forwarding_table) (position_is : position_in t.modifier ≡ position) (data_is : t.payload ≡ payload)
      where
        on_fabric_taken : (w : Managing) (event : Event) → Going w → TakesStep (fabric_of start) seat t w (Around event)
            → Blocked (after_event w.scene event).fabric
        on_fabric_taken w (Deliver n) g (at, a, packet, takes, is) =
            let x = asks_when_answered (Sends start seat plan c g.all) (Tells start seat plan c g.all w.scene.fabric) ground.cables ground.counts
            g.fair.scene.fabric.along g.fair.scene.fabric.is g.fair.traced.flights n w.scene.fabric.next takes.result in
            let p = port_of x.flight.whereabouts in
            let flight = same_Some x.flight takes.flight (sym x.asked.waits ∙ takes.waits) in
            let here : p ≡ at = ap (λ (f : Flight). port_of f.whereabouts) flight ∙ takes.waits_at in
            let bytes : x.flight.packet.bytes ≡ packet = ap (λ (f : Flight). f.packet.bytes) flight ∙ takes.bytes in
            asked_sets start w.scene.fabric seat plan g.fair.scene.fabric.along n x.flight x.request x.asked id position payload
            (ap (λ (q : NodePort). q.node) here ∙ ends at is.leads)
            (x.asked.alike.method_is ∙ ap (number_in method) bytes ∙ takes.method)
            (λ b was is_agent.
            let told = told_same b x.request x.flight.packet.bytes p.port is_agent x.asked.whole x.asked.readable x.asked.alike in
            let same : b ≡ a = same_Some b a (sym was ∙ ap (λ (q : NodePort). agent_at w.scene.fabric q.node) here ∙ takes.there) in
            told.status_is ∙ (λ i. status (after_answer (same i) (bytes i) (here i).port).packet) ∙ takes.done)
            (x.asked.alike.attribute_is ∙ ap (number_in attribute_id) bytes ∙ is.attribute ∙ is_masks)
            (ap position_in (x.asked.alike.modifier_is ∙ ap (number_in attribute_modifier) bytes ∙ is.modifier) ∙ position_is)
            (x.asked.alike.data_is ∙ ap (bytes_in attribute_data) bytes ∙ is.payload ∙ data_is)
        on_fabric_taken w (Lose n) g takes = absurd takes
        on_fabric_taken w (Repeat n) g takes = absurd takes
        on_fabric_taken w (SendFrom other sending_it) g takes = absurd takes
        on_fabric_taken w (Emit at sending_it) g takes = absurd takes

        event_takes : (w : Managing) (event : ManagerEvent) → Going w → TakesStep (fabric_of start) seat t w event
            → Blocked (after_manager_event w event).scene.fabric
        event_takes w (Around event) g takes = on_fabric_taken w event g takes
        event_takes w Begin g takes = absurd takes
        event_takes w Write g takes = absurd takes
        event_takes w Take g takes = absurd takes
        event_takes w (Send which) g takes = absurd takes
        event_takes w (Hear which) g takes = absurd takes
        event_takes w (TimeOut transaction) g takes = absurd takes
        event_takes w (Raise floor) g takes = absurd takes
        event_takes w (Merge floor sightings) g takes = absurd takes
        event_takes w (Poll lid) g takes = absurd takes
        event_takes w HandOver g takes = absurd takes
        event_takes w Yield g takes = absurd takes
        event_takes w Rediscover g takes = absurd takes

        -- from then on
        next : (w : Managing) (event : ManagerEvent) (events : List ManagerEvent) → Going w → AllKeep plan own (event ∷ events) w
            → All (CanBe seat) (event ∷ events) → Going (after_manager_event w event)
        next w event events g keep can =
            event_writes start seat plan c phases good ground own owns w event keep.0 g (All-head (CanBe seat) event events can)

        stays : (events : List ManagerEvent) (w : Managing) → Going w → AllKeep plan own events w → All (CanBe seat) events
            → AllAlong (SetsOnly (fabric_of start) seat steps) events w → Blocked w.scene.fabric → Blocked (after_manager_events events w).scene.fabric
        stays [] w g keep can only held = held
        stays (event ∷ events) w g keep can only held =
            stays events (after_manager_event w event) (next w event events g keep can) keep.1 (All-tail (CanBe seat) event events can) only.1
            (event_stays w event g only.0 held)

        taken : (events : List ManagerEvent) (w : Managing) → Going w → AllKeep plan own events w → All (CanBe seat) events
            → AllAlong (SetsOnly (fabric_of start) seat steps) events w → IsStepTaken (fabric_of start) seat t events w
            → Blocked (after_manager_events events w).scene.fabric
        taken [] w g keep can only takes = absurd takes
        taken (event ∷ events) w g keep can only (inl now) =
            stays events (after_manager_event w event) (next w event events g keep can) keep.1 (All-tail (CanBe seat) event events can) only.1
            (event_takes w event g now)
        taken (event ∷ events) w g keep can only (inr later) =
            taken events (after_manager_event w event) (next w event events g keep can) keep.1 (All-tail (CanBe seat) event events can) only.1 later

        pub taken_at_last : Contains steps t → (events : List ManagerEvent) (w : Managing) → Going w → AllKeep plan own events w → All (CanBe seat) events
            → AreStepsTakenAtLast (fabric_of start) seat steps events w → Blocked (after_manager_events events w).scene.fabric
        taken_at_last among [] w g keep can at_last = absurd (at_last.each t among)
        taken_at_last among (event ∷ events) w g keep can (inl now) = taken (event ∷ events) w g keep can now.only (now.each t among)
        taken_at_last among (event ∷ events) w g keep can (inr later) =
            taken_at_last among events (after_manager_event w event) (next w event events g keep can) keep.1 (All-tail (CanBe seat) event events can) later

-- the steps of a tree ---------------------------------------------------------------------------------------

module _ (cells : Cells) (sweep : Sweep) where
  -- a step sets the masks of a switch of the tree at a position
  record IsTreeStep (tree : List TreePorts) (t : Step) : Type 0 where
    switch : TreePorts
    among : Contains tree switch
    position : ℕ
    path : path_to sweep switch.guid 0 ≡ Some t.path
    modifier_is : t.modifier ≡ 0x10000000 * position
    payload_is : t.payload ≡ masks_data (mask_of switch.ports position)

  abbrev steps_at : TreePorts → List Step
  steps_at x = switch_mask_steps cells sweep x.ports x.guid

  abbrev step_along : TreePorts → ℕ → List ℕ → Step
  step_along x position path = record {
    path = path;
    attribute = multicast_forwarding_table;
    modifier = 0x10000000 * position;
    payload = masks_data (mask_of x.ports position);
  }

  tree_step : (tree : List TreePorts) (t : Step) → Contains (tree_steps cells sweep tree) t → IsTreeStep tree t
  tree_step tree t there = let (x, among, in_it) = from_flat_map steps_at tree t there in by_table x among (has_table (switch_image sweep x.guid)) in_it
    where
      by_path : (x : TreePorts) → Contains tree x → (position : ℕ) → (m : Option (List ℕ)) → path_to sweep x.guid 0 ≡ m
          → option_map (step_along x position) m ≡ Some t → IsTreeStep tree t
      by_path x among position None e h = absurd (cc)
      by_path x among position (Some path) e h =
          let same = same_Some (step_along x position path) t h in
          record {
            switch = x;
            among = among;
            position = position;
            path = e ∙ ap (λ (y : Step). Some y.path) same;
            modifier_is = sym (ap (λ (y : Step). y.modifier) same);
            payload_is = sym (ap (λ (y : Step). y.payload) same);
          }

      by_table : (x : TreePorts) → Contains tree x → (b : Bool)
          → Contains (cond b (filter_map (mask_step sweep x.guid x.ports) (range_with_len 0 (position_count cells x.guid))) []) t → IsTreeStep tree t
      by_table x among false h = absurd (contains_none t h)
      by_table x among true h =
          let (position, ranged, e) = taken_from (mask_step sweep x.guid x.ports) (range_with_len 0 (position_count cells x.guid)) t h in
          by_path x among position (path_to sweep x.guid 0) refl e

  step_there : (tree : List TreePorts) (x : TreePorts) (path : List ℕ) (position : ℕ) → Contains tree x → has_table (switch_image sweep x.guid) ≡ true
      → path_to sweep x.guid 0 ≡ Some path → position < position_count cells x.guid → Contains (tree_steps cells sweep tree) (step_along x position path)
  step_there tree x path position among table e inside =
      in_flat_map steps_at tree x (step_along x position path) among
      (subst (λ (b : Bool). Contains (cond b (filter_map (mask_step sweep x.guid x.ports) (range_with_len 0 (position_count cells x.guid))) [])
      (step_along x position path)) (sym table)
      (is_taken (mask_step sweep x.guid x.ports) (range_with_len 0 (position_count cells x.guid)) position (step_along x position path)
      (in_range_from_0 (position_count cells x.guid) position inside) (ap (option_map (step_along x position)) e)))

-- a tree has each switch once
one_entry : (planning : Planning) (cells : Cells) (x y : TreePorts) → Contains (planned_tree planning cells) x → Contains (planned_tree planning cells) y
    → x.guid ≡ y.guid → x ≡ y
one_entry planning cells x y h k e = by_tree planning.multicast h k
  where
    entry : (parent : ℕ → Option ℕ) (z : TreePorts) → Contains (tree_by cells parent) z → z ≡ tree_at cells parent z.guid
    entry parent z there =
        let m = contains_map (tree_at cells parent) (switches cells) z there in
        sym m.2 ∙ ap (tree_at cells parent) (ap (λ (t : TreePorts). t.guid) m.2)

    by_tree : (b : Bool) → Contains (cond b (tree_of planning.rule cells) []) x → Contains (cond b (tree_of planning.rule cells) []) y → x ≡ y
    by_tree false i j = absurd (contains_none x i)
    by_tree true i j =
        let parent = parent_port (graph_of cells) (order_position (switches cells) (positions_by planning.rule cells)) in
        entry parent x i ∙ ap (tree_at cells parent) e ∙ sym (entry parent y j)

module _ (w : Managing) (before between after : List ManagerEvent) (run : IsWritingRun w before between after) (s : Sweep)
    (sweep_is : (at_writing w before between).manager.sweep ≡ Some s)
    (at_last : AreStepsTakenAtLast (fabric_of w.scene.fabric) w.seat (own_tree_steps (at_writing w before between).manager s) after
    (at_first_steps w before between))
    (x : TreePorts) (among : Contains (own_tree (at_writing w before between).manager) x) (reached : IsReached s x.guid 0)
    (table : has_table (switch_image s x.guid) ≡ true) (id : ℕ) (node : Node)
    (has : HasNode (fabric_of (at_end w before between after).scene.fabric) x.guid id node) (a : Agent)
    (there : agent_at (at_end w before between after).scene.fabric id ≡ Some a) (position i : ℕ)
    (inside : position < position_count (cells_of (at_writing w before between).manager.store) x.guid) (less : i < 64)
  where
    abbrev start : Simulation
    start = w.scene.fabric

    abbrev cells : Cells
    cells = cells_of (at_writing w before between).manager.store

    abbrev tree : List TreePorts
    tree = own_tree (at_writing w before between).manager

    -- the node that a path of the sweep leads to
    led_node : (g : ℕ) (path : List ℕ) → path_to s g 0 ≡ Some path → (at : NodePort) → directed_end (fabric_of start) w.seat path ≡ Some at
        → (n : Node) × HasNode (fabric_of start) g at.node n
    led_node g path e at leads =
        let to = path_led (fabric_of start) w.seat s g 0 path (held.swept w before between after run s sweep_is).led e in
        let same : to.led.end ≡ at =
        same_Some to.led.end at (sym to.led.leads ∙ sym (ap (directed_end (fabric_of start) w.seat) to.path_is) ∙ leads) in (
          to.led.node,
          record {
            there = subst (λ (q : NodePort). IsNodeAt (fabric_of start) q.node to.led.node) same to.led.has.there;
            named = to.led.has.named ∙ to.guid_is;
          },
        )

    was_there : IsNodeAt (fabric_of start) id node
    was_there = nodes_stay start (at_end w before between after).scene.fabric (held.at_end_along w before between after run s sweep_is) id node has.there

    agreed : (t : Step) → Contains (own_tree_steps (at_writing w before between).manager s) t → (at : NodePort) (packet : List ℕ)
        → IsSetOf (fabric_of start) w.seat t at packet → at.node ≡ id → position_in (number_in attribute_modifier packet) ≡ position
        → bytes_in attribute_data packet ≡ masks_data (mask_of x.ports position)
    agreed t h at packet is same position_is =
        let k = tree_step cells s tree t h in
        let n = led_node k.switch.guid t.path k.path at is.leads in
        let node_is : n.0 ≡ node = same_Some n.0 node (sym n.1.there ∙ ap (slice_get (fabric_of start).nodes) same ∙ was_there) in
        let guid : k.switch.guid ≡ x.guid = sym n.1.named ∙ ap (λ (y : Node). y.guid) node_is ∙ has.named in
        let entry : k.switch ≡ x = one_entry (at_writing w before between).manager.planning cells k.switch x k.among among guid in
        let modifier : number_in attribute_modifier packet ≡ 0x10000000 * k.position = is.modifier ∙ k.modifier_is in
        let at_position : k.position ≡ position = omega (arith, modifier, position_is) in
        is.payload ∙ k.payload_is ∙ (λ j. masks_data (mask_of (entry j).ports (at_position j)))

    by_path : (o : Option (List ℕ)) → path_to s x.guid 0 ≡ o → IsSome o
        → slice_index a.masks (64 * position + i) ≡ slice_index (masks_data (mask_of x.ports position)) i
    by_path None e h = absurd (cc)
    by_path (Some path) e h =
        let w3 = at_writing w before between in
        let p = plan_at w3 in
        let ends : (at : NodePort) → directed_end (fabric_of start) w.seat path ≡ Some at → at.node ≡ id =
        λ at leads. let n = led_node x.guid path e at leads in
        run.starts.distinct at.node id n.0 node n.1.there was_there (n.1.named ∙ sym has.named) in
        let position_is : position_in (0x10000000 * position) ≡ position = omega arith in
        taken_at_last start w.seat p w3.manager.counter (held.phases w before between after run s sweep_is)
        (held.good w before between after run s sweep_is) (held.ground w before between after run) (own_sets w w3)
        (held.owns w before between after run s sweep_is) id position (masks_data (mask_of x.ports position)) (own_tree_steps w3.manager s) agreed
        (step_along cells s x position path) ends refl position_is refl
        (step_there cells s tree x path position among table e inside) after (at_first_steps w before between)
        (held.begins w before between after run s sweep_is) run.keep run.after_can at_last a there i less

    block_held : slice_index a.masks (64 * position + i) ≡ slice_index (masks_data (mask_of x.ports position)) i
    block_held = by_path (path_to s x.guid 0) refl reached

pub taken_trees_are_held : TakenTreesAreHeld
taken_trees_are_held w before between after run s sweep_is at_last x among reached table id node has a there position i inside less =
    block_held w before between after run s sweep_is at_last x among reached table id node has a there position i inside less
