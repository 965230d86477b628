-- What a text of a schedule says: its managers and commands, or its first fault.
use Rattle.std.specs.Prelude.{◌≡◌, ◌<◌, ℕ, ◌+◌, true, All, List, [], ◌∷◌, ◌++◌, Option, None, Some, Result, Ok, Err}
use Rattle.std.specs.Prelude.{length, if◌then◌else◌}
use Rattle.fabric_model.specs.declared.cable.NodePort.{NodePort}
use Rattle.text_words.specs.Text.{lines}
use Rattle.topo_file.specs.declared.node.Node.{Node}
use Rattle.schedule_file.specs.declared.command.Command.TheVariants as command
use Rattle.schedule_file.specs.declared.schedule_fault.ScheduleFault.{ScheduleFault}
use Rattle.schedule_file.specs.declared.schedule_fault.ScheduleFault.TheVariants as fault
use Rattle.schedule_file.specs.declared.line.ScheduleLine.{ScheduleLine}
use Rattle.schedule_file.specs.declared.line.ScheduleLine.TheVariants as line
use Rattle.schedule_file.specs.declared.line.NewManager.{NewManager}
use Rattle.schedule_file.specs.declared.schedule.Seat.{Seat}
use Rattle.schedule_file.specs.Command.{line_of}
use Rattle.schedule_file.specs.Manner.{newest_of}
use Rattle.schedule_file.specs.Resolve.{Managers, SeatCommand, is_free, is_named, is_seat, port_of, resolved}

-- a schedule: the managers that are asked and those that decide by themselves, with their seats, and its commands, in
-- the order of their lines
pub record Script : Type 0 where
  pub seats : List Seat
  pub deciders : List Seat
  pub commands : List SeatCommand

-- `next` applied to the value, or the fault
infixl 10 ◌>>=◌
abbrev pub ◌>>=◌ : {A B : Type 0} → Result A ScheduleFault → (A → Result B ScheduleFault) → Result B ScheduleFault
(Ok value) >>= next = next value
(Err fault) >>= next = Err fault

-- the schedule `before` with `command` appended
abbrev pub with_command : Script → SeatCommand → Script
with_command before command = record before { commands = before.commands ++ command ∷ [] }

-- the seat of the new manager `new` at a port, or the fault of the line `number`: the port is None, since its node is
-- unknown, is taken, or is not a port of an adapter
abbrev pub seat_at : List Node → Managers → ℕ → NewManager → Option NodePort → Result Seat ScheduleFault
seat_at nodes known number new (Some p) =
    if is_free nodes known p then Ok (record { name = new.name; at = p; priority = new.priority; manner = new.manner })
    else Err (fault.Seat number)
seat_at nodes known number new None = Err (fault.Name number)

-- the seat of the new manager `new`, or the fault of the line `number`: its name is used, the node of its port is
-- unknown, or the port is taken or not a port of an adapter
abbrev pub new_seat : List Node → Managers → ℕ → NewManager → Result Seat ScheduleFault
new_seat nodes known number new =
    if is_named known new.name then Err (fault.Name number)
    else seat_at nodes known number new (port_of nodes new.at)

-- the managers `known` with the manager `seat`, which is asked if the given newest generation is None
abbrev pub known_with : Managers → Seat → Option ℕ → Managers
known_with known seat None = record known { seats = known.seats ++ seat ∷ [] }
known_with known seat (Some newest) = record known { deciders = known.deciders ++ seat ∷ [] }

-- the command that adds the manager that comes next after `known`, which is asked if the given newest generation is
-- None
abbrev pub adding : Managers → Option ℕ → SeatCommand
adding known None = command.Manager (length known.seats)
adding known (Some newest) = command.Decider (length known.deciders)

-- the managers of a schedule
abbrev pub managers_of : Script → Managers
managers_of script = record { seats = script.seats; deciders = script.deciders }

-- the schedule with these managers, and the commands `commands` followed by `command`
abbrev pub script_with : Managers → List SeatCommand → SeatCommand → Script
script_with known commands command =
    record { seats = known.seats; deciders = known.deciders; commands = commands ++ command ∷ [] }

-- the schedule `before` with the manager `seat` and the command that adds it
abbrev pub with_seat : Script → Seat → Script
with_seat before seat =
    let newest = newest_of seat.manner in
    let known = managers_of before in
    script_with (known_with known seat newest) before.commands (adding known newest)

-- `before`, the schedule so far, with the manager or the command that the line `number` adds, or the fault of this
-- line
abbrev pub with_line : List Node → ℕ → Script → Option ScheduleLine → Result Script ScheduleFault
with_line nodes number before None = Err (fault.Syntax number)
with_line nodes number before (Some line.Empty) = Ok before
with_line nodes number before (Some (line.Manager new)) =
    new_seat nodes (managers_of before) number new >>= λ seat. Ok (with_seat before seat)
with_line nodes number before (Some (line.Command named)) =
    resolved nodes (managers_of before) number named >>= λ command. Ok (with_command before command)

-- `before`, the schedule so far, with the managers and commands that the given lines add, or the first fault; the
-- first of these lines has the number `number`
abbrev pub with_lines : List Node → ℕ → Script → List (List ℕ) → Result Script ScheduleFault
with_lines nodes number before [] = Ok before
with_lines nodes number before (line ∷ later) =
    with_line nodes number before (line_of line) >>= λ now. with_lines nodes (number + 1) now later

-- a schedule without managers or commands
abbrev pub empty : Script
empty = record { seats = []; deciders = []; commands = [] }

-- the schedule that the lines give, for a fabric with `nodes`, or their first fault
abbrev pub schedule_of_lines : List Node → List (List ℕ) → Result Script ScheduleFault
schedule_of_lines nodes lines = with_lines nodes 1 empty lines

-- the schedule that a text gives, for a fabric with `nodes`, or its first fault
unfoldable pub schedule_of : List Node → List ℕ → Result Script ScheduleFault
schedule_of nodes text = schedule_of_lines nodes (lines text)

-- what each schedule satisfies ---------------------------------------------------------------

-- the managers that are asked by the command, or shown, have indices below `count`
abbrev pub NamesManagers : ℕ → SeatCommand → Type 0
NamesManagers count (command.Manager seat) = seat < count
NamesManagers count (command.Ask seat what) = seat < count
NamesManagers count (command.Timeout seat) = seat < count
NamesManagers count (command.Floor seat floor) = seat < count
NamesManagers count (command.Merge seat other) = (seat < count) × (other < count)
NamesManagers count (command.Show seat what) = seat < count
NamesManagers count _ = Unit {0}

-- the managers of `script` sit at ports of adapters of `nodes`, and its commands ask no other managers
pub record IsScript (nodes : List Node) (script : Script) : Type 0 where
  pub seats : All (λ seat. is_seat nodes seat.at ≡ true) script.seats
  pub deciders : All (λ seat. is_seat nodes seat.at ≡ true) script.deciders
  pub commands : All (NamesManagers (length script.seats)) script.commands
