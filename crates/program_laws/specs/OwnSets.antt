-- A manager's own Sets of a plan's blocks.
use Rattle.std.specs.Prelude.{◌≡◌, ℕ, true, List, [], ◌∷◌, All, Contains, Some}
use Rattle.fabric_model.specs.declared.cable.NodePort.{NodePort}
use Rattle.fabric_model.specs.Fabric.{Fabric, Node}
use Rattle.fabric_model.specs.DirectedWalk.{directed_end}
use Rattle.fabric_sim.specs.Simulation.{fabric_of}
use Rattle.plan_tables.specs.Plan.{PlanValue}
use Rattle.sweep.specs.Sweep.{Sweep, path_to}
use Rattle.plan_steps.specs.declared.step.Step.{Step}
use Rattle.plan_steps.specs.BlockSteps.{block_steps}
use Rattle.plan_steps.specs.Phase.{Phase}
use Rattle.manager_laws.specs.Scene.{CanHappen, Event, IsQuiet, Scene, after_event, after_events}
use Rattle.manager_laws.specs.Sets.{IsOwnSet, KeepsPlan, OwnSets}
use Rattle.manager_laws.specs.Truth.{HasNode}
use Rattle.program_laws.specs.LiveStep.{AllSetsCarry}

-- each path of the sweep to a switch leads from `seat` to that switch
abbrev pub LeadsToSwitches : Fabric → NodePort → Sweep → Type 0
LeadsToSwitches f seat sweep =
    (guid : ℕ) (path : List ℕ) → path_to sweep guid 0 ≡ Some path
    → (end : NodePort) × (node : Node) × (directed_end f seat path ≡ Some end) × HasNode f guid end.node node

-- each of `steps` sets a block of the plan over the sweep's path to the block's switch: they may be all such steps, or
-- only those whose blocks differ from what is held
abbrev pub AreBlocksOf : Sweep → PlanValue → List Step → Type 0
AreBlocksOf sweep plan steps = (s : Step) → Contains steps s → Contains (block_steps sweep plan) s

-- a phase of these steps
abbrev pub phase_of : List Step → Phase
phase_of steps = record { counts = true; steps = steps }

-- the Sets of these steps, sent from `seat`
abbrev pub sets_of : Scene → NodePort → List Step → OwnSets
sets_of quiet seat steps = IsOwnSet (fabric_of quiet.fabric) seat (phase_of steps ∷ [])

-- each Set that an agent takes in the course of `events`, from `s` on, is one of `own` or carries the plan's values
abbrev pub AllAreOwnOrCarry : PlanValue → OwnSets → List Event → Scene → Type 0
AllAreOwnOrCarry plan own [] s = Unit {0}
AllAreOwnOrCarry plan own (event ∷ events) s =
    KeepsPlan plan own s.fabric event × AllAreOwnOrCarry plan own events (after_event s event)

-- suppose the paths of a sweep lead to their switches. If each Set that an agent takes is a manager's own Set of a
-- block of the plan, or carries the plan's values, each of these Sets carries the plan's values
abbrev pub OwnSetsCarry : Type 0
OwnSetsCarry =
    (quiet : Scene) (earlier events : List Event) (seat : NodePort) (sweep : Sweep) (plan : PlanValue)
    (steps : List Step) → IsQuiet quiet → All CanHappen earlier → All CanHappen events
    → LeadsToSwitches (fabric_of quiet.fabric) seat sweep → AreBlocksOf sweep plan steps
    → AllAreOwnOrCarry plan (sets_of quiet seat steps) events (after_events earlier quiet)
    → AllSetsCarry plan events (after_events earlier quiet)
