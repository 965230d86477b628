-- A manager takes over a subnet that holds a plan: if the manager sweeps while no LID changes, its plan is the plan
-- that the subnet holds.
use Rattle.std.specs.Prelude.{◌≡◌, ◌≤◌, true, List, [], ◌∷◌}
use Rattle.fabric_model.specs.Fabric.{Fabric}
use Rattle.fabric_model.specs.FabricWalks.{IsJoinedTo}
use Rattle.fact_store.specs.View.{Facts, cells_of}
use Rattle.fabric_sim.specs.Simulation.{fabric_of}
use Rattle.subnet_view.specs.FabricAgreement.{AgreesOn}
use Rattle.lid_assign.specs.Lids.{IsNoRoom}
use Rattle.lft_blocks.specs.Plan.{PlanValue, plan_of}
use Rattle.lft_blocks.specs.InForce.{HoldsPlan}
use Rattle.lft_blocks.specs.Planning.{Planning}
use Rattle.sm_manager.specs.Writing.{is_written}
use Rattle.manager_laws.specs.Pings.{EachPingArrives}
use Rattle.fabric_model.specs.declared.cable.NodePort.{NodePort}
use Rattle.fabric_sim.specs.Simulation.{Simulation}
use Rattle.lft_blocks.specs.Rule.{RuleValue}
use Rattle.manager_laws.specs.Sets.{KeepsPlan, OwnSets}
use Rattle.manager_laws.specs.Managing.{Managing, ManagerEvent, AllAlong, Around, Begin, after_manager_event, after_manager_events}
use Rattle.manager_laws.specs.WritingPings.{NewManagersRun, WritesWholeSweep}
use Rattle.manager_laws.specs.Written.{at_writing, at_first_steps, at_end, plan_at}
use Rattle.manager_laws.specs.Claims.{HasLidsOf}

-- after each of `events`, each port has the LID that it has in the fabric `f`
abbrev pub LidsStayAround : Fabric → List ManagerEvent → Managing → Type 0
LidsStayAround f = AllAlong (λ w event. HasLidsOf f (after_manager_event w event).scene)

-- the rule and the LMC by which the manager plans when its writing begins
abbrev pub planning_at : Managing → List ManagerEvent → List ManagerEvent → Planning
planning_at w before between = (at_writing w before between).manager.planning

-- the plan of facts by the rule and the LMC of `planning`
abbrev pub plan_by_it : Planning → Facts → PlanValue
plan_by_it planning facts = plan_of planning.rule planning.lmc (cells_of facts)

-- a manager writes the plan of one sweep with every answer (`WritesWholeSweep`). Until the writing no port gets another
-- LID
pub record SweepsAlone (w : Managing) (before between after : List ManagerEvent) : Type 0 where
  pub planned : WritesWholeSweep w before between after
  -- until the writing no port gets another LID
  pub lids_before : LidsStayAround (fabric_of w.scene.fabric) before w
  pub lids_between : LidsStayAround (fabric_of w.scene.fabric) between
      (after_manager_event (after_manager_events before w) Begin)

-- the manager sweeps alone; the facts `held` have room, and describe exactly the part that is joined to the manager's
-- seat; and this part holds the plan of these facts, by the manager's rule and LMC
pub record TakesOver (held : Facts) (w : Managing) (before between after : List ManagerEvent) : Type 0 where
  pub sweeps : SweepsAlone w before between after
  -- the facts `held` have room, and describe exactly the part that is joined to the seat; the part holds the plan of
  -- these facts, by the manager's rule and LMC
  pub has_room : ¬ (IsNoRoom (planning_at w before between).lmc (cells_of held))
  pub agrees : AgreesOn (IsJoinedTo (fabric_of w.scene.fabric) w.seat) (cells_of held) (fabric_of w.scene.fabric)
  pub holds : HoldsPlan (IsJoinedTo (fabric_of w.scene.fabric) w.seat) (plan_by_it (planning_at w before between) held)
      (fabric_of w.scene.fabric)

-- the plan that the manager is about to write is that of the facts `held`, with the same LIDs and blocks. Pings
-- arrived before the run, and arrive at the end of the run if the plan counts as written
pub record ChangesNothing (held : Facts) (w : Managing) (before between after : List ManagerEvent) : Type 0 where
  pub same_plan : plan_at (at_writing w before between) ≡ plan_by_it (planning_at w before between) held
  pub arrived : EachPingArrives (planning_at w before between).rule (cells_of held)
      (plan_by_it (planning_at w before between) held) w.scene.fabric w.seat
  pub arrives : is_written (at_end w before between after).manager ≡ true
      → EachPingArrives (planning_at w before between).rule (cells_of (at_writing w before between).manager.store)
      (plan_by_it (planning_at w before between) held)
      (at_end w before between after).scene.fabric w.seat

-- if a manager takes over a subnet that holds a plan, the manager changes nothing (`ChangesNothing`)
abbrev pub TakeoverChangesNothing : Type 0
TakeoverChangesNothing =
    (held : Facts) (w : Managing) (before between after : List ManagerEvent) → TakesOver held w before between after
    → ChangesNothing held w before between after

-- during the writing, too --------------------------------------------------------------------------------

-- no Sets: those of a writing that has none
abbrev pub no_sets : OwnSets
no_sets at packet = ⊥

-- if the event is on the fabric, each Set that an agent takes by it carries the plan's values
abbrev pub Carrying : PlanValue → Managing → ManagerEvent → Type 0
Carrying plan w (Around event) = KeepsPlan plan no_sets w.scene.fabric event
Carrying plan w event = Unit {0}

-- each Set that an agent takes in the course of `events`, from `w` on, carries the plan's values
abbrev pub AllCarry : PlanValue → List ManagerEvent → Managing → Type 0
AllCarry plan = AllAlong (Carrying plan)

-- the part that is joined to `seat` holds the plan of `facts`, and each ping there, for each LID of the plan, arrives
pub record IsInUse (rule : RuleValue) (facts : Facts) (plan : PlanValue) (s : Simulation) (seat : NodePort) : Type 0
  where
    pub holds : HoldsPlan (IsJoinedTo (fabric_of s) seat) plan (fabric_of s)
    pub arrive : EachPingArrives rule (cells_of facts) plan s seat

-- the plan is in use before and after each of `events`
abbrev pub InUseAlong : RuleValue → Facts → PlanValue → NodePort → List ManagerEvent → Managing → Type 0
InUseAlong rule facts plan seat [] w = IsInUse rule facts plan w.scene.fabric seat
InUseAlong rule facts plan seat (event ∷ events) w =
    IsInUse rule facts plan w.scene.fabric seat × InUseAlong rule facts plan seat events (after_manager_event w event)

-- a takeover in which each Set that an agent takes until the writing begins carries the values of the held plan; from
-- then on the run itself (`IsWritingRun`) requires that of Sets other than the writing's own
pub record TakesOverQuietly (held : Facts) (w : Managing) (before between after : List ManagerEvent) : Type 0 where
  pub takes : TakesOver held w before between after
  pub carry_before : AllCarry (plan_by_it (planning_at w before between) held) before w
  pub carry_between : AllCarry (plan_by_it (planning_at w before between) held) between
      (after_manager_event (after_manager_events before w) Begin)

-- the held plan is in use at each moment: before the sweep, until the writing, and between the writing's Sets
pub record IsInUseThroughout (held : Facts) (w : Managing) (before between after : List ManagerEvent) : Type 0 where
  pub until_sweep : InUseAlong (planning_at w before between).rule held (plan_by_it (planning_at w before between) held)
      w.seat before w
  pub until_writing : InUseAlong (planning_at w before between).rule held
      (plan_by_it (planning_at w before between) held) w.seat between
      (after_manager_event (after_manager_events before w) Begin)
  pub while_writing : InUseAlong (planning_at w before between).rule held
      (plan_by_it (planning_at w before between) held) w.seat after (at_first_steps w before between)

-- if each Set until the writing carries the values of the held plan (`TakesOverQuietly`), this plan stays in use at
-- each moment of the takeover
abbrev pub PingsArriveThroughout : Type 0
PingsArriveThroughout =
    (held : Facts) (w : Managing) (before between after : List ManagerEvent)
    → TakesOverQuietly held w before between after
    → IsInUseThroughout held w before between after

-- an example: a new manager takes over a subnet. Each Set until its writing carries the values of the held plan, and
-- another manager is there that does not answer
pub record SomeManagerTakesOver : Type 0 where
  pub run : NewManagersRun
  pub held : Facts
  pub takes : TakesOverQuietly held run.managing run.before run.between run.after
  pub silent : 1 ≤ takes.takes.sweeps.planned.sweep.silent_managers
