-- Once the agents have taken the masks of a manager's tree, and no others since, they hold these masks.
-- InfiniBand Architecture Specification, Volume 1: subnet management, MulticastForwardingTable.
use Rattle.std.specs.Prelude.{◌≡◌, ◌<◌, ◌⊎◌, ◌+◌, ◌*◌, ℕ, true, List, [], ◌∷◌, Contains, Some, slice_index}
use Rattle.fabric_model.specs.declared.cable.NodePort.{NodePort}
use Rattle.fabric_model.specs.DirectedWalk.{directed_end}
use Rattle.fabric_model.specs.Fabric as fabric
use Rattle.fabric_model.specs.Fabric.{Fabric}
use Rattle.smp_bytes.specs.Header.{multicast_forwarding_table}
use Rattle.smp_bytes.specs.Field.{bytes_in, number_in}
use Rattle.smp_bytes.specs.Packet.{attribute_data, attribute_id, attribute_modifier}
use Rattle.fact_store.specs.View.{cells_of}
use Rattle.subnet_view.specs.Reading.{Cells}
use Rattle.sweep.specs.Sweep.{IsReached, Sweep, switch_image}
use Rattle.multicast_tree.specs.Tree.{TreePorts}
use Rattle.plan_steps.specs.MaskSteps.{has_table, mask_of, masks_data, position_count}
use Rattle.plan_steps.specs.MaskSteps.{tree_steps}
use Rattle.plan_steps.specs.PlannedTree.{planned_tree}
use Rattle.plan_steps.specs.declared.step.Step.{Step}
use Rattle.node_agents.specs.Agent.{Agent}
use Rattle.fabric_sim.specs.Simulation.{Simulation, agent_at, fabric_of}
use Rattle.sm_manager.specs.Manager.{Manager}
use Rattle.manager_laws.specs.Managing.{AllAlong, Around, Managing, ManagerEvent, after_manager_event}
use Rattle.manager_laws.specs.Scene.{Deliver, Event}
use Rattle.manager_laws.specs.Sets.{TakesSet}
use Rattle.manager_laws.specs.Truth.{HasNode}
use Rattle.manager_laws.specs.Written.{IsWritingRun, at_end, at_first_steps, at_writing}

-- the tree of the manager's facts, by its planning
abbrev pub own_tree : Manager → List TreePorts
own_tree m = planned_tree m.planning (cells_of m.store)

-- the steps by which the manager sets the masks of its tree, along the paths of the sweep `s`
abbrev pub own_tree_steps : Manager → Sweep → List Step
own_tree_steps m s = tree_steps (cells_of m.store) s (own_tree m)

-- the packet has the attribute, the modifier and the data of the step `t`; the path of `t` leads in `f` from `seat` to
-- the port `at`
pub record IsSetOf (f : Fabric) (seat : NodePort) (t : Step) (at : NodePort) (packet : List ℕ) : Type 0 where
  pub leads : directed_end f seat t.path ≡ Some at
  pub attribute : number_in attribute_id packet ≡ t.attribute
  pub modifier : number_in attribute_modifier packet ≡ t.modifier
  pub payload : bytes_in attribute_data packet ≡ t.payload

-- each Set of multicast masks that an agent takes by the event on the fabric is that of one of `steps`
abbrev pub SetsMasksBy : Fabric → NodePort → List Step → Simulation → Event → Type 0
SetsMasksBy f seat steps s (Deliver serial) =
    (at : NodePort) (a : Agent) (packet : List ℕ) → TakesSet s serial at a packet
    → number_in attribute_id packet ≡ multicast_forwarding_table
    → (t : Step) × Contains steps t × IsSetOf f seat t at packet
SetsMasksBy f seat steps s event = Unit {0}

-- each Set of multicast masks that an agent takes by the event is that of one of `steps`
abbrev pub SetsOnly : Fabric → NodePort → List Step → Managing → ManagerEvent → Type 0
SetsOnly f seat steps w (Around event) = SetsMasksBy f seat steps w.scene.fabric event
SetsOnly f seat steps w event = Unit {0}

-- an agent takes the Set of the step `t` by the event on the fabric
abbrev pub TakesSetOf : Fabric → NodePort → Step → Simulation → Event → Type 0
TakesSetOf f seat t s (Deliver serial) =
    (at : NodePort) × (a : Agent) × (packet : List ℕ) × TakesSet s serial at a packet × IsSetOf f seat t at packet
TakesSetOf f seat t s event = ⊥

-- an agent takes the Set of the step `t` by the event
abbrev pub TakesStep : Fabric → NodePort → Step → Managing → ManagerEvent → Type 0
TakesStep f seat t w (Around event) = TakesSetOf f seat t w.scene.fabric event
TakesStep f seat t w event = ⊥

-- an agent takes the Set of the step `t` by one of the events
abbrev pub IsStepTaken : Fabric → NodePort → Step → List ManagerEvent → Managing → Type 0
IsStepTaken f seat t [] w = ⊥
IsStepTaken f seat t (event ∷ events) w =
    TakesStep f seat t w event ⊎ IsStepTaken f seat t events (after_manager_event w event)

-- in these events, agents take the Set of each of `steps`, and no other Sets of multicast masks
pub record AreStepsTaken (f : Fabric) (seat : NodePort) (steps : List Step) (events : List ManagerEvent)
    (w : Managing) : Type 0 where
  pub only : AllAlong (SetsOnly f seat steps) events w
  pub each : (t : Step) → Contains steps t → IsStepTaken f seat t events w

-- from some moment on in these events, agents take the Set of each of `steps`, and no other Sets of multicast masks.
-- Before, they may take any
abbrev pub AreStepsTakenAtLast : Fabric → NodePort → List Step → List ManagerEvent → Managing → Type 0
AreStepsTakenAtLast f seat steps [] w = AreStepsTaken f seat steps [] w
AreStepsTakenAtLast f seat steps (event ∷ events) w =
    AreStepsTaken f seat steps (event ∷ events) w
    ⊎ AreStepsTakenAtLast f seat steps events (after_manager_event w event)

-- the agent of each switch of the tree that the sweep reached, and that has a multicast table by what the sweep read,
-- has at each position the block that is written for the switch's ports in the tree
abbrev pub IsTreeHeldWhere : Cells → List TreePorts → Sweep → Simulation → Type 0
IsTreeHeldWhere cells tree s now =
    (x : TreePorts) → Contains tree x → IsReached s x.guid 0 → has_table (switch_image s x.guid) ≡ true
    → (id : ℕ) (node : fabric.Node) → HasNode (fabric_of now) x.guid id node
    → (a : Agent) → agent_at now id ≡ Some a
    → (position i : ℕ) → position < position_count cells x.guid → i < 64
    → slice_index a.masks (64 * position + i) ≡ slice_index (masks_data (mask_of x.ports position)) i

-- suppose that from some moment on after the writing began, agents take the Set of each step of the manager's tree, and
-- no other Sets of multicast masks. Then at the end each switch of the tree that the last sweep before the writing
-- reached holds the masks of the tree
abbrev pub TakenTreesAreHeld : Type 0
TakenTreesAreHeld =
    (w : Managing) (before between after : List ManagerEvent) → IsWritingRun w before between after
    → (s : Sweep) → (at_writing w before between).manager.sweep ≡ Some s
    → AreStepsTakenAtLast (fabric_of w.scene.fabric) w.seat
    (own_tree_steps (at_writing w before between).manager s) after (at_first_steps w before between)
    → IsTreeHeldWhere (cells_of (at_writing w before between).manager.store)
    (own_tree (at_writing w before between).manager) s (at_end w before between after).scene.fabric
