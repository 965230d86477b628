-- What the managers of a world that are asked take in while a schedule runs: what each learns and, if it merges the
-- facts of another manager, all that the other took in.
use Rattle.std.specs.Prelude.{◌≡◌, ℕ, zero, suc, max, List, [], ◌∷◌, ◌++◌, slice_get, ◌==◌, if◌then◌else◌, Some, Result, Ok, Err}
use Rattle.std.specs.Option.{option_map_or}
use Rattle.fabric_model.specs.declared.cable.NodePort.{NodePort}
use Rattle.topo_file.specs.Topology.{Layout}
use Rattle.topo_file.specs.declared.node.Node.{Node}
use Rattle.schedule_file.specs.Schedule.{Script}
use Rattle.schedule_file.specs.Resolve.{SeatCommand}
use Rattle.schedule_file.specs.declared.command.Command.TheVariants as command
use Rattle.schedule_file.specs.declared.command.Fate.TheVariants as fate
use Rattle.schedule_file.specs.declared.command.Which.{Which}
use Rattle.fabric_sim.specs.Delivery.{after_deliver}
use Rattle.fabric_sim.specs.declared.delivered.Delivered.{Delivered}
use Rattle.fabric_sim.specs.declared.delivered.Delivered.TheVariants as delivered_is
use Rattle.fabric_sim.specs.declared.fabric_fault.FabricFault.{FabricFault}
use Rattle.fabric_sim.specs.declared.packet.Packet.{Packet}
use Rattle.reply_facts.specs.Report.{Sightings}
use Rattle.fact_store.specs.View.{view_at}
use Rattle.lft_blocks.specs.Planning.{Planning}
use Rattle.sm_manager.specs.CallLists as calls
use Rattle.sm_manager.specs.CallLists.{sightings_of_call}
use Rattle.schedule_run.specs.Commands.{after_command, after_commands, world_of}
use Rattle.schedule_run.specs.Delivery.{seat_at, after_step}
use Rattle.schedule_run.specs.NamedPackets.{serial_of}
use Rattle.schedule_run.specs.Waiting.{after_turn, next_turn}
use Rattle.schedule_run.specs.declared.waiting.WaitTurn.{WaitTurn}
use Rattle.schedule_run.specs.declared.waiting.WaitTurn.TheVariants.{Deliver, Wake}
use Rattle.sm_policy.specs.Policy.{later_by}
use Rattle.schedule_run.specs.World.{SeatedValue, WorldValue, after_fabric_call}

-- the account of a manager: the sightings that it took in, and the greatest floor that it was given, or 1
pub record Account : Type 0 where
  pub told : Sightings
  pub floor : ℕ

-- an account for the seat of each manager that is asked
abbrev pub Accounts : Type 0
Accounts = ℕ → Account

-- the accounts when a run begins: no sightings, and the floor 1
abbrev pub opened : Accounts
opened seat = record { told = []; floor = 1 }

-- the account `before` and then `more`, at the greater floor
abbrev pub joined : Account → Account → Account
joined before more = record { told = before.told ++ more.told; floor = max before.floor more.floor }

-- the accounts once the manager in `seat` has taken in `more`
abbrev pub with_more : Accounts → ℕ → Account → Accounts
with_more accounts seat more other = if other == seat then joined (accounts other) more else accounts other

-- packets ----------------------------------------------------------------------------------------

-- the accounts once the manager in `seat` has taken in a packet: the sightings of a report that it accepts, and nothing
-- else; unchanged if there is no such manager
abbrev pub told_by_packet : WorldValue → Accounts → Packet → ℕ → Accounts
told_by_packet w accounts packet seat =
    option_map_or (λ s. with_more accounts seat (record {
      told =
          sightings_of_call s.manager (calls.Packet packet.bytes (Some packet.slid));
      floor = 1;
    }))
    (slice_get w.managers seat) accounts

-- the accounts once a packet has reached the port `p`, where the manager that is asked takes it in; unchanged if none sits
-- there
abbrev pub told_at : WorldValue → Accounts → NodePort → Packet → Accounts
told_at w accounts p packet = option_map_or (told_by_packet w accounts packet) (seat_at w p) accounts

-- the accounts once a delivery has handed a packet up; unchanged if the delivery has handed none up
abbrev pub told_by_delivery : WorldValue → Accounts → Result Delivered FabricFault → Accounts
told_by_delivery w accounts (Ok (delivered_is.ToManager p packet)) = told_at w accounts p packet
told_by_delivery w accounts (Ok (delivered_is.Moved serial)) = accounts
told_by_delivery w accounts (Ok (delivered_is.Answered serial)) = accounts
told_by_delivery w accounts (Ok (delivered_is.Discarded reason)) = accounts
told_by_delivery w accounts (Err fault) = accounts

-- the accounts once the packet with the number `serial` has taken one step
abbrev pub told_by_step : WorldValue → Accounts → ℕ → Accounts
told_by_step w accounts serial = let called =
    after_deliver w.fabric serial in told_by_delivery (after_fabric_call w called).now accounts called.result

-- the accounts once the packet that `which` names has taken one step; unchanged if `which` names no packet
abbrev pub told_by_deliver : WorldValue → Accounts → Which → Accounts
told_by_deliver w accounts which = option_map_or (told_by_step w accounts) (serial_of w.fabric.flights which) accounts

-- the accounts once, at most `most` times, the packet with the least serial number has taken one step
abbrev pub told_by_drain : WorldValue → Accounts → ℕ → Accounts
told_by_drain w accounts zero = accounts
told_by_drain w accounts (suc most) =
    option_map_or (λ flight. told_by_drain (after_step w flight.serial).now (told_by_step w accounts flight.serial)
    most) (slice_get w.fabric.flights 0) accounts

-- the accounts once a turn of a wait was taken: the managers that are asked take in nothing as it gets later
abbrev pub told_by_turn : WorldValue → Accounts → WaitTurn → Accounts
told_by_turn w accounts (Deliver serial) = told_by_step w accounts serial
told_by_turn w accounts (Wake time) = accounts

-- the accounts after up to `most` turns of a wait until `until`
abbrev pub told_by_turns : WorldValue → Accounts → ℕ → ℕ → Accounts
told_by_turns w accounts until zero = accounts
told_by_turns w accounts until (suc most) =
    option_map_or (λ turn. told_by_turns (after_turn w turn).now (told_by_turn w accounts turn) until most)
    (next_turn w until) accounts

-- managers ---------------------------------------------------------------------------------------

-- the accounts once the manager in `seat` has taken in all that the manager in `other` took in; unchanged if there is
-- no manager in `other`
abbrev pub told_by_merge : WorldValue → Accounts → ℕ → ℕ → Accounts
told_by_merge w accounts seat other =
    option_map_or (λ o. with_more accounts seat (accounts other)) (slice_get w.managers other) accounts

-- lines -------------------------------------------------------------------------------------------

-- the accounts after a line of a schedule that runs in the world `w`
abbrev pub told_by_command : WorldValue → Accounts → SeatCommand → Accounts
told_by_command w accounts (command.Merge seat other) = told_by_merge w accounts seat other
told_by_command w accounts (command.Floor seat floor) = with_more accounts seat (record { told = []; floor = floor })
told_by_command w accounts (command.Packet which fate.Deliver) = told_by_deliver w accounts which
told_by_command w accounts (command.Drain most) = told_by_drain w accounts most
told_by_command w accounts (command.Wait wait most) = told_by_turns w accounts (later_by wait w.time) most
told_by_command w accounts command = accounts

-- the accounts after lines of a schedule that run in turn, starting in the world `w`
abbrev pub told_by_commands : List Node → WorldValue → Accounts → List SeatCommand → Accounts
told_by_commands nodes w accounts [] = accounts
told_by_commands nodes w accounts (command ∷ later) =
    told_by_commands nodes (after_command nodes w command).now (told_by_command w accounts command) later

-- runs -------------------------------------------------------------------------------------------

-- the world after a schedule has run
abbrev pub world_after : Planning → Layout → Script → WorldValue
world_after planning topology script =
    (after_commands topology.nodes (world_of planning topology script.seats script.deciders) script.commands).now

-- the account of the manager that is asked in a seat, after a schedule has run
abbrev pub account_after : Planning → Layout → Script → ℕ → Account
account_after planning topology script =
    told_by_commands topology.nodes (world_of planning topology script.seats script.deciders) opened script.commands

-- the store of each manager that is asked is the view of what the manager took in according to its account, at the
-- account's floor
abbrev pub KnowWhatTheyTookIn : WorldValue → Accounts → Type 0
KnowWhatTheyTookIn w accounts =
    (seat : ℕ) (s : SeatedValue) → slice_get w.managers seat ≡ Some s → s.manager.store
    ≡ view_at (accounts seat).floor (accounts seat).told

-- after every run, the store of each manager that is asked is the view of what the manager took in, at the greatest
-- floor that it was given, or 1
abbrev pub RunsAreAccountedFor : Type 0
RunsAreAccountedFor = (planning : Planning) (topology : Layout) (script : Script)
    → KnowWhatTheyTookIn (world_after planning topology script) (account_after planning topology script)
