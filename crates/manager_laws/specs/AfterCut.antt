-- After a cut: which facts a floor forgets, which LIDs stay, and what holds once a manager has taken over the rest.
use Rattle.std.specs.Prelude.{◌≡◌, ◌<◌, ℕ, true, max, List, [], Contains, Some}
use Rattle.fabric_model.specs.declared.cable.NodePort.{NodePort}
use Rattle.fabric_model.specs.Fabric as fabric
use Rattle.fabric_model.specs.Fabric.{range_at}
use Rattle.fabric_model.specs.FabricWalks.{IsJoinedTo}
use Rattle.fact_store.specs.View.{Facts, cells_of, raised}
use Rattle.fabric_sim.specs.Simulation.{fabric_of}
use Rattle.subnet_view.specs.declared.end_port.EndPort.{EndPort}
use Rattle.reply_facts.specs.Known.{claim_of}
use Rattle.subnet_view.specs.Reading.{Cells}
use Rattle.subnet_view.specs.EndPort.{end_ports}
use Rattle.subnet_view.specs.FabricAgreement.{IsEndPortIn, TellsEndPort}
use Rattle.lid_assign.specs.Lids.{IsNoRoom, lids, lid_of, range_of, top_of}
use Rattle.lid_assign.specs.Claims.{room}
use Rattle.sm_manager.specs.Manager.{newest_held, next_generation}
use Rattle.sm_manager.specs.Writing.{is_written}
use Rattle.manager_laws.specs.Managing.{Managing, ManagerEvent, Raise, after_manager_event}
use Rattle.manager_laws.specs.WritingPings.{NewManagersRun, PlannedPingsArrive}
use Rattle.manager_laws.specs.Written.{at_end, at_writing, plan_at}
use Rattle.manager_laws.specs.Takeover.{SweepsAlone, planning_at, plan_by_it}

-- floors -------------------------------------------------------------------------------------------------

-- a floor above 1 and above each generation of the facts forgets all facts
abbrev pub FloorsForget : Type 0
FloorsForget = (facts : Facts) (floor : ℕ) → 1 < floor → newest_held facts < floor → cells_of (raised facts floor) ≡ []

-- if `floor` is above 1 and above each generation that a manager holds, a manager that is called to raise its floor
-- to `floor` then has no facts, and the generation of its next sweep is the greater of the manager's old floor and
-- `floor`
abbrev pub RaisedManagersKnowNothing : Type 0
RaisedManagersKnowNothing = (w : Managing) (floor : ℕ) → 1 < floor → newest_held w.manager.store < floor
    → (cells_of (after_manager_event w (Raise floor)).manager.store ≡ [])
    × (next_generation (after_manager_event w (Raise floor)).manager.store ≡ max w.manager.store.floor floor)

-- LIDs ---------------------------------------------------------------------------------------------------

-- `y` is what is left of `x`. The end ports of `y` are end ports of `x`, and claim the LIDs that they have in the plan
-- of `x`. `y` has room for all LIDs of that plan
pub record IsRestOf (lmc : ℕ) (x y : Cells) : Type 0 where
  pub had : (e : EndPort) → Contains (end_ports y) e → Contains (end_ports x) e
  pub claimed : (e : EndPort) (lid : ℕ) → Contains (end_ports y) e → lid_of (lids lmc x) e ≡ Some lid
      → claim_of y e.node e.port ≡ Some lid
  pub in_room : (top : ℕ) → top_of (lids lmc x) ≡ Some top → top < room y

-- if both views have room, end ports of what is left (`IsRestOf`) keep the LIDs of the earlier plan, whichever others
-- are gone
abbrev pub LidsOutlast : Type 0
LidsOutlast = (lmc : ℕ) (x y : Facts) → ¬ (IsNoRoom lmc (cells_of x)) → ¬ (IsNoRoom lmc (cells_of y))
    → IsRestOf lmc (cells_of x) (cells_of y)
    → (e : EndPort) → Contains (end_ports (cells_of y)) e → lid_of (lids lmc (cells_of y)) e
    ≡ lid_of (lids lmc (cells_of x)) e

-- a takeover of the rest ---------------------------------------------------------------------------------

-- the manager sweeps alone. The facts `held` have room, and have each end port that is joined to the manager's seat;
-- each of these end ports has the LID and the LMC of the plan of these facts. The facts may have other end ports,
-- which are gone
pub record TakesRest (held : Facts) (w : Managing) (before between after : List ManagerEvent) : Type 0 where
  pub sweeps : SweepsAlone w before between after
  pub has_room : ¬ (IsNoRoom (planning_at w before between).lmc (cells_of held))
  pub tells : (port : NodePort) (node : fabric.Node)
      → IsEndPortIn (IsJoinedTo (fabric_of w.scene.fabric) w.seat) (fabric_of w.scene.fabric) port node
      → TellsEndPort (cells_of held) node port.port
  pub holds : (port : NodePort) (node : fabric.Node)
      → IsEndPortIn (IsJoinedTo (fabric_of w.scene.fabric) w.seat) (fabric_of w.scene.fabric) port node
      → range_of (plan_by_it (planning_at w before between) held).given (record { node = node.guid; port = port.port })
      ≡ Some (range_at (fabric_of w.scene.fabric) port)

-- the plan that is written gives each end port that is left the LID of the earlier plan; once it is written, pings
-- among these end ports arrive
pub record IsServed (held : Facts) (w : Managing) (before between after : List ManagerEvent) : Type 0 where
  pub lids_stay : (e : EndPort) → Contains (end_ports (cells_of (at_writing w before between).manager.store)) e
      → lid_of (plan_at (at_writing w before between)).given e
      ≡ lid_of (plan_by_it (planning_at w before between) held).given e
  pub arrives : is_written (at_end w before between after).manager ≡ true
      → PlannedPingsArrive (at_writing w before between) (at_end w before between after).scene.fabric w.seat

-- if a manager takes the rest of a subnet over, whatever is gone, the rest is served (`IsServed`)
abbrev pub RestIsServed : Type 0
RestIsServed =
    (held : Facts) (w : Managing) (before between after : List ManagerEvent) → TakesRest held w before between after
    → IsServed held w before between after

-- an example: a new manager that takes over the rest of a subnet
pub record SomeManagerServesTheRest : Type 0 where
  pub run : NewManagersRun
  pub held : Facts
  pub takes : TakesRest held run.managing run.before run.between run.after
