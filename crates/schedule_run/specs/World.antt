-- A world: a simulated fabric and the managers that sit in it, what calls on them leave, and the lines that the calls
-- print.
use Rattle.std.specs.Prelude.{◌≡◌, ℕ, Bool, List, [], ◌∷◌, length, map, slice_get, slice_set, Option, None, Some}
use Rattle.std.specs.Prelude.{Result, Ok, Err, OnOk}
use Rattle.std.specs.Option.{option_map_or}
use Rattle.fabric_model.specs.declared.cable.NodePort.{NodePort}
use Rattle.fabric_sim.specs.declared.fabric_fault.FabricFault.{FabricFault}
use Rattle.fabric_sim.specs.FabricFault.{fabric_fault_name}
use Rattle.fabric_sim.specs.Changes.{after_inject}
use Rattle.fabric_sim.specs.Called.{Called}
use Rattle.fabric_sim.specs.Simulation.{Simulation}
use Rattle.sm_manager.specs.declared.fault.ManagerFault.{ManagerFault}
use Rattle.sm_manager.specs.declared.outgoing.Outgoing.{Outgoing}
use Rattle.sm_manager.specs.Manager.{Manager, emptied}
use Rattle.schedule_lines.specs.Refusals.{manager_line, refusal_line}
use Rattle.schedule_lines.specs.Outcome.{Outcome, and_then, quiet, shows}
use Rattle.schedule_lines.specs.Prints.{PrintsUnless}
use Rattle.schedule_lines.specs.declared.run_fault.RunFault.{RunFault}
use Rattle.schedule_run.specs.NamedPackets.{packet_out}
use Rattle.serve_run.specs.Acting.{Acting}
use Rattle.serve_run.specs.Acting.{value_of as acting_value}
use Rattle.schedule_run.specs.declared.world.Decider.{Decider}
use Rattle.schedule_run.specs.declared.world.Seated.{Seated}
use Rattle.schedule_run.specs.declared.world.World.{World}

-- a manager with its name and its seat
pub record SeatedValue : Type 0 where
  pub name : List ℕ
  pub at : NodePort
  pub manager : Manager

-- a manager that decides by itself, with its name and its seat. It is awake if it is told what happens; it is not
-- before its own line, nor while it is paused
pub record DeciderValue : Type 0 where
  pub name : List ℕ
  pub at : NodePort
  pub acting : Acting
  pub is_awake : Bool

-- the fabric, the managers that are asked and those that decide by themselves, each in the order of their seats, and the
-- time, in milliseconds
pub record WorldValue : Type 0 where
  pub fabric : Simulation
  pub managers : List SeatedValue
  pub deciders : List DeciderValue
  pub time : ℕ

-- a manager of the code's world, with its name and its seat, as a value
abbrev pub seated_value : Seated → SeatedValue
seated_value s = record { name = s.seat.now.name; at = s.seat.now.at; manager = s.manager }

-- a manager that decides by itself, with its name and its seat, as a value
abbrev pub decider_value : Decider → DeciderValue
decider_value d =
    record { name = d.seat.now.name; at = d.seat.now.at; acting = acting_value d.acting; is_awake = d.is_awake }

-- the code's world as a value
abbrev pub value_of : World → WorldValue
value_of w =
    record {
      fabric = w.fabric;
      managers = map seated_value w.managers.items;
      deciders = map decider_value w.deciders.items;
      time = w.time;
    }

-- the fabric ---------------------------------------------------------------------------------------

-- the line of a refusal by the fabric; empty if the fabric does not refuse the call
abbrev pub fabric_line : {R : Type 0} → Result R FabricFault → List ℕ
fabric_line (Ok value) = []
fabric_line (Err fault) = refusal_line (fabric_fault_name fault)

-- the fabric that a call leaves, and the line of the call's refusal, if it is refused
abbrev pub after_fabric : {R : Type 0} → Called R → Outcome Simulation
after_fabric called = record { now = called.fabric; text = fabric_line called.result }

-- the world `w` with the fabric that `outcome` leaves, and the text of `outcome`
abbrev pub in_fabric : WorldValue → Outcome Simulation → Outcome WorldValue
in_fabric w outcome = record { now = record w { fabric = outcome.now }; text = outcome.text }

-- the world `w` with the fabric that a call leaves, and the line of the call's refusal, if it is refused
abbrev pub after_fabric_call : {R : Type 0} → WorldValue → Called R → Outcome WorldValue
after_fabric_call w called = in_fabric w (after_fabric called)

-- the outcome of sending the packets of the list from the port `at`, one after the other. For each packet that the
-- fabric refuses, the line of the refusal is printed
abbrev pub after_inject_all : Simulation → NodePort → List Outgoing → Outcome Simulation
after_inject_all fabric at [] = quiet fabric
after_inject_all fabric at (out ∷ later) =
    and_then (after_fabric (after_inject fabric at (packet_out out))) (λ now. after_inject_all now at later)

-- the managers -------------------------------------------------------------------------------------

-- the outcome of `run` for the manager at the index `seat`; if there is no such manager, `w` is left and nothing is
-- printed
abbrev pub at_seat : WorldValue → ℕ → (SeatedValue → Outcome WorldValue) → Outcome WorldValue
at_seat w seat run = option_map_or run (slice_get w.managers seat) (quiet w)

-- the world `w` with `manager` at the index `seat`, under the name and at the port of `s`
abbrev pub with_manager : WorldValue → ℕ → SeatedValue → Manager → WorldValue
with_manager w seat s manager = record w { managers = slice_set w.managers seat (record s { manager = manager }) }

-- what a call on the manager of a seat leaves and prints. If the given fault refuses the call, this is the world `w`
-- and the line of the fault. Otherwise it is what `next` leaves and prints, from the world with `manager` at the seat
abbrev pub after_manager_call : (WorldValue → Outcome WorldValue) → WorldValue → ℕ → SeatedValue → Option ManagerFault
    → Manager → Outcome WorldValue
after_manager_call next w seat s None manager = next (with_manager w seat s manager)
after_manager_call next w seat s (Some fault) manager = shows (manager_line fault) w

-- what a call on the manager of a seat leaves and prints. If `fault` gives a fault, the call is refused. Otherwise it
-- leaves the manager that `after` gives, and `next` follows
abbrev pub after_ask : (WorldValue → Outcome WorldValue) → WorldValue → ℕ → (Manager → Option ManagerFault)
    → (Manager → Manager) → Outcome WorldValue
after_ask next w seat fault after =
    at_seat w seat (λ s. after_manager_call next w seat s (fault s.manager) (after s.manager))

-- the world after all packets that the manager of the seat `s` has queued were sent, and a line for each packet that
-- the fabric refused
abbrev pub after_send_by : WorldValue → ℕ → SeatedValue → Outcome WorldValue
after_send_by w seat s =
    in_fabric (with_manager w seat s (emptied s.manager)) (after_inject_all w.fabric s.at s.manager.outgoing)

-- the world after all packets that the manager at the index `seat` has queued were sent, and a line for each packet
-- that the fabric refused; unchanged if there is no such manager
unfoldable pub after_send : WorldValue → ℕ → Outcome WorldValue
after_send w seat = at_seat w seat (after_send_by w seat)

-- calls --------------------------------------------------------------------------------------------

-- a call on a world does what `outcome` says: it leaves the world of `outcome`, with as many managers as before, and
-- prints the text of `outcome`. If the call fails, it may leave any world with as many managers; a prefix of the text
-- was printed, or the output has failed
pub record Does {W : Type 0} (written : W → Option (List ℕ)) (has_failed : W → Bool) (old new : World)
    (result : Result (Unit {0}) RunFault) (sink sink' : W) (outcome : Outcome WorldValue) : Type 0 where
  pub managers : length new.managers.items ≡ length old.managers.items
  pub leaves : OnOk result (value_of new ≡ outcome.now)
  pub prints : PrintsUnless written has_failed result sink sink' outcome.text
