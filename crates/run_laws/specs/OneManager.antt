-- A run with one manager, which sweeps and then writes its plan, and what pings print after it.
use Rattle.std.specs.Prelude.{◌≡◌, ◌<◌, ℕ, zero, suc, true, List, [], ◌∷◌, slice_get, Option, Some, None}
use Rattle.std.specs.Option.{option_map_or}
use Rattle.topo_file.specs.declared.node.Node.{Node}
use Rattle.schedule_file.specs.Resolve.{SeatCommand}
use Rattle.schedule_file.specs.declared.command.Ask.TheVariants as ask
use Rattle.schedule_file.specs.declared.command.Command.TheVariants as command
use Rattle.schedule_file.specs.declared.command.Fate.TheVariants as fate
use Rattle.schedule_file.specs.declared.command.Shown.TheVariants.{Written}
use Rattle.fabric_sim.specs.Simulation.{IsSimulation, Simulation, fabric_of, is_seat_at}
use Rattle.fact_store.specs.View.{cells_of}
use Rattle.lft_blocks.specs.Plan.{PlanValue, plan_of}
use Rattle.sweep.specs.Sweep.{Sweep}
use Rattle.lft_blocks.specs.Planning.{Planning}
use Rattle.sm_state.specs.declared.conduct.Conduct.{Conduct}
use Rattle.sm_manager.specs.Manager.{Manager, new_manager}
use Rattle.sm_manager.specs.PlanFaults.{writing_fault}
use Rattle.sm_manager.specs.Writing.{phases_by}
use Rattle.manager_laws.specs.Scene as around
use Rattle.manager_laws.specs.Truth.{AreGuidsDistinct}
use Rattle.manager_laws.specs.Complete.{IsWhole}
use Rattle.manager_laws.specs.Sets.{IsOwnSet, KeepsPlan, OwnSets}
use Rattle.schedule_lines.specs.Lines.{written_line}
use Rattle.schedule_run.specs.Commands.{after_command, after_commands, shown_of}
use Rattle.schedule_run.specs.Delivery.{after_step}
use Rattle.schedule_run.specs.NamedPackets.{serial_of}
use Rattle.schedule_run.specs.World.{SeatedValue, WorldValue}
use Rattle.run_laws.specs.Reached.{EachPingSaysReached}

-- the line begins no sweep and no writing, moves no cable, sends no trap, seats no manager, gives no manager facts or a
-- floor, and lets no time pass
abbrev pub IsLine : SeatCommand → Type 0
IsLine (command.Manager seat) = ⊥
IsLine (command.Decider index) = ⊥
IsLine (command.Ask seat ask.Sweep) = ⊥
IsLine (command.Ask seat ask.Write) = ⊥
IsLine (command.Merge seat other) = ⊥
IsLine (command.Floor seat floor) = ⊥
IsLine (command.Cut p) = ⊥
IsLine (command.Plug p q) = ⊥
IsLine (command.Pause index) = ⊥
IsLine (command.Resume index) = ⊥
IsLine (command.Wait wait most) = ⊥
IsLine command.Traps = ⊥
IsLine command.Resend = ⊥
IsLine command = Unit {0}

-- none of the lines begins a sweep or a writing, moves a cable, sends a trap, seats a manager, gives a manager facts or
-- a floor, or lets time pass
abbrev pub AreLines : List SeatCommand → Type 0
AreLines [] = Unit {0}
AreLines (command ∷ later) = IsLine command × AreLines later

-- what agents take -------------------------------------------------------------------------------------

-- the serial number of the first packet in flight; None if none is in flight
abbrev pub first_serial : WorldValue → Option ℕ
first_serial w = option_map_or (λ flight. Some flight.serial) (slice_get w.fabric.flights 0) None

-- the world once the packet with the least serial number has taken one step; unchanged if none is in flight
abbrev pub after_first : WorldValue → WorldValue
after_first w = option_map_or (λ flight. (after_step w flight.serial).now) (slice_get w.fabric.flights 0) w

module _ (plan : PlanValue) (own : OwnSets) where
  -- a Set that an agent takes by the delivery of a packet, if one is named (not None), is one of the writing's own or
  -- carries the plan's values
  abbrev pub KeepsStep : Simulation → Option ℕ → Type 0
  KeepsStep fabric None = Unit {0}
  KeepsStep fabric (Some serial) = KeepsPlan plan own fabric (around.Deliver serial)

  -- each Set that an agent takes in the next `most` steps of a drain is one of the writing's own or carries the plan's
  -- values
  abbrev pub KeepsSteps : WorldValue → ℕ → Type 0
  KeepsSteps w zero = Unit {0}
  KeepsSteps w (suc most) = KeepsStep w.fabric (first_serial w) × KeepsSteps (after_first w) most

  -- each Set that an agent takes by the line, in the world `w`, is one of the writing's own or carries the plan's
  -- values
  abbrev pub KeepsLine : WorldValue → SeatCommand → Type 0
  KeepsLine w (command.Packet which fate.Deliver) = KeepsStep w.fabric (serial_of w.fabric.flights which)
  KeepsLine w (command.Drain most) = KeepsSteps w most
  KeepsLine w command = Unit {0}

  -- each Set that an agent takes by the lines, which start in the world `w`, is one of the writing's own or carries
  -- the plan's values
  abbrev pub KeepsLines : List Node → WorldValue → List SeatCommand → Type 0
  KeepsLines nodes w [] = Unit {0}
  KeepsLines nodes w (command ∷ later) =
      KeepsLine w command × KeepsLines nodes (after_command nodes w command).now later

-- runs -------------------------------------------------------------------------------------------------

-- in a run of one manager, the world before the writing: after a sweep began, and then the lines `between`
abbrev pub at_writing : List Node → WorldValue → List SeatCommand → WorldValue
at_writing nodes w between = (after_commands nodes (after_command nodes w (command.Ask 0 ask.Sweep)).now between).now

-- in a run of one manager, the world once the writing has begun: after a sweep began, then the lines `between`, and
-- then the writing began
abbrev pub at_first_steps : List Node → WorldValue → List SeatCommand → WorldValue
at_first_steps nodes w between = (after_command nodes (at_writing nodes w between) (command.Ask 0 ask.Write)).now

-- in a run of one manager, the world at its end: after a sweep began, then the lines `between`, then a writing began,
-- and then the lines `after`
abbrev pub at_end : List Node → WorldValue → List SeatCommand → List SeatCommand → WorldValue
at_end nodes w between after = (after_commands nodes (at_first_steps nodes w between) after).now

-- the only manager of the world is `manager`, in the seat of `s`
abbrev pub IsOnly : WorldValue → SeatedValue → Manager → Type 0
IsOnly w s manager = w.managers ≡ record s { manager = manager } ∷ []

-- one new manager sits on a fabric whose nodes have different GUIDs, and where no packet is on its way. The manager is
-- called to sweep and later, when the sweep has every answer, to write. In the end its plan counts as written
pub record BringsUpAlone (nodes : List Node) (w : WorldValue) (s : SeatedValue) (between after : List SeatCommand) :
    Type 0 where
  pub port_guid : ℕ
  pub priority : ℕ
  pub conduct : Conduct
  -- an LMC of at most 7
  pub planning : Planning
  pub few : planning.lmc < 8
  pub only : IsOnly w s (new_manager port_guid s.at.port priority conduct planning)
  -- no manager decides by itself
  pub none_decides : w.deciders ≡ []
  pub fabric : IsSimulation w.fabric
  pub no_packets : w.fabric.flights ≡ []
  pub distinct : AreGuidsDistinct (fabric_of w.fabric)
  pub seat : is_seat_at w.fabric s.at ≡ true
  pub between_lines : AreLines between
  pub after_lines : AreLines after
  -- the sweep has every answer when the writing begins, and the writing is not refused
  pub swept : Manager
  pub only_then : IsOnly (at_writing nodes w between) s swept
  pub sweep : Sweep
  pub is_last : swept.sweep ≡ Some sweep
  pub whole : IsWhole sweep
  pub begins : writing_fault swept ≡ None
  -- each Set that an agent takes from then on is one of the writing's own or carries the plan's values
  pub keeps : KeepsLines (plan_of swept.planning.rule swept.planning.lmc (cells_of swept.store))
      (IsOwnSet (fabric_of w.fabric) s.at (phases_by swept swept.sweep)) nodes
      (at_first_steps nodes w between) after
  -- the line `written` prints in the end that the plan is written
  pub writer : Manager
  pub only_at_end : IsOnly (at_end nodes w between after) s writer
  pub written : shown_of (at_end nodes w between after) 0 Written ≡ written_line (Some s.name) true

-- after a run in which one manager brings its subnet up, each `ping` from an end port that is joined to the manager's
-- port, for each LID of the plan, prints that it reached the LID's owner
abbrev pub RunsOfOneAreReached : Type 0
RunsOfOneAreReached = (nodes : List Node) (w : WorldValue) (s : SeatedValue) (between after : List SeatCommand)
    → (b : BringsUpAlone nodes w s between after)
    → EachPingSaysReached (plan_of b.swept.planning.rule b.swept.planning.lmc (cells_of b.swept.store))
    (at_end nodes w between after) s.at

-- an example: a run of one manager that brings its subnet up, with its fabric, its manager and its lines
pub record SomeRunOfOne : Type 0 where
  pub nodes : List Node
  pub world : WorldValue
  pub seated : SeatedValue
  pub between : List SeatCommand
  pub after : List SeatCommand
  pub brings_up : BringsUpAlone nodes world seated between after
