-- The text of a schedule, which is read back as that schedule.
use Rattle.std.specs.Prelude.{◌≡◌, ℕ, List, [], ◌∷◌, Ok, codes, decimal, map, slice_get, None, Some}
use Rattle.std.specs.Option.{option_map_or}
use Rattle.fabric_model.specs.declared.cable.NodePort.{NodePort}
use Rattle.text_words.specs.Printed.{lines_text, named_text}
use Rattle.topo_file.specs.declared.node.Node.{Node}
use Rattle.topo_file.specs.Printed.{name_at}
use Rattle.schedule_file.specs.declared.command.Command.TheVariants as command
use Rattle.schedule_file.specs.declared.named_command.PortName.{PortName}
use Rattle.schedule_file.specs.declared.schedule.Seat.{Seat}
use Rattle.schedule_file.specs.Command.{NamedCommand}
use Rattle.schedule_file.specs.Schedule.{Script, managers_of, schedule_of}
use Rattle.schedule_file.specs.Resolve.{Managers, SeatCommand}
use Rattle.schedule_file.specs.declared.command.Ask.{Ask}
use Rattle.schedule_file.specs.declared.command.Ask.TheVariants.{Sweep, Write, Handover, Yield, Rediscover, Poll}
use Rattle.schedule_file.specs.declared.command.Fate.{Fate}
use Rattle.schedule_file.specs.declared.command.Fate.TheVariants.{Deliver, Lose, Repeat}
use Rattle.schedule_file.specs.declared.command.Shown.{Shown}
use Rattle.schedule_file.specs.declared.command.Shown.TheVariants.{Facts, Plan, Progress, Silent, State, Written}
use Rattle.schedule_file.specs.declared.manner.Manner.{Manner}
use Rattle.schedule_file.specs.declared.manner.Manner.TheVariants.{Plain, Live, Decides}
use Rattle.schedule_file.specs.declared.command.Which.{Which}
use Rattle.schedule_file.specs.declared.command.Which.TheVariants.{Last, Serial}

-- the word for a port: the name of its node in quotes, and its number in brackets
abbrev pub port_word : PortName → List ℕ
port_word p = named_text p.node p.port

-- the word for a packet in flight
abbrev pub which_word : Which → List ℕ
which_word Last = codes "last"
which_word (Serial serial) = decimal serial

-- the word for what becomes of a packet
abbrev pub fate_word : Fate → List ℕ
fate_word Deliver = codes "deliver"
fate_word Lose = codes "lose"
fate_word Repeat = codes "repeat"

-- the word for what is shown of a manager
abbrev pub shown_word : Shown → List ℕ
shown_word Facts = codes "facts"
shown_word Plan = codes "plan"
shown_word Progress = codes "progress"
shown_word Silent = codes "silent"
shown_word Written = codes "written"
shown_word State = codes "state"

-- the words of the line that asks the manager `name` for something; for `poll`, with the LID if one is given
abbrev pub ask_words : Ask → List ℕ → List (List ℕ)
ask_words Sweep name = codes "sweep" ∷ name ∷ []
ask_words Write name = codes "write" ∷ name ∷ []
ask_words Handover name = codes "handover" ∷ name ∷ []
ask_words Yield name = codes "yield" ∷ name ∷ []
ask_words Rediscover name = codes "rediscover" ∷ name ∷ []
ask_words (Poll None) name = codes "poll" ∷ name ∷ []
ask_words (Poll (Some lid)) name = codes "poll" ∷ name ∷ decimal lid ∷ []

-- the words after the priority of a new manager
abbrev pub manner_words : Manner → List (List ℕ)
manner_words Plain = []
manner_words (Live key) = codes "live" ∷ decimal key ∷ []
manner_words (Decides newest) = codes "decides" ∷ decimal newest ∷ []

-- the words of a command; none for a new manager, whose line has more words than the command says
abbrev pub named_words : NamedCommand → List (List ℕ)
named_words (command.Manager name) = []
named_words (command.Decider name) = []
named_words (command.Ask name what) = ask_words what name
named_words (command.Timeout name) = codes "timeout" ∷ name ∷ []
named_words (command.Floor name floor) = codes "floor" ∷ name ∷ decimal floor ∷ []
named_words (command.Merge one other) = codes "merge" ∷ one ∷ other ∷ []
named_words (command.Show name what) = shown_word what ∷ name ∷ []
named_words (command.ShowDecider name what) = shown_word what ∷ name ∷ []
named_words (command.Pause name) = codes "pause" ∷ name ∷ []
named_words (command.Resume name) = codes "resume" ∷ name ∷ []
named_words (command.Wait time most) = codes "wait" ∷ decimal time ∷ decimal most ∷ []
named_words (command.Packet which fate) = fate_word fate ∷ which_word which ∷ []
named_words (command.Drain most) = codes "drain" ∷ decimal most ∷ []
named_words (command.Cut p) = codes "cut" ∷ port_word p ∷ []
named_words (command.Plug p q) = codes "plug" ∷ port_word p ∷ port_word q ∷ []
named_words (command.Ping p lid) = codes "ping" ∷ port_word p ∷ decimal lid ∷ []
named_words command.Traps = codes "traps" ∷ []
named_words command.Resend = codes "resend" ∷ []
named_words command.Tables = codes "tables" ∷ []
named_words command.Flight = codes "flight" ∷ []

-- the name of the manager at the index `seat`; empty if there is no such manager
abbrev pub manager_at : List Seat → ℕ → List ℕ
manager_at seats seat = option_map_or (λ s. s.name) (slice_get seats seat) []

-- in a schedule, the port `p`, with its node given by its name in `nodes` instead of its index
abbrev pub port_at : List Node → NodePort → PortName
port_at nodes p = record { node = name_at nodes p.node; port = p.port }

-- the words of a new manager's line
abbrev pub seat_words : List Node → Seat → List (List ℕ)
seat_words nodes s = codes "manager" ∷ s.name ∷ port_word (port_at nodes s.at) ∷ decimal s.priority ∷ manner_words s.manner

-- the words of the line of a command, with the names of its managers and nodes; none if the command adds a manager
-- that is not in `known`
abbrev pub command_words : List Node → Managers → SeatCommand → List (List ℕ)
command_words nodes known (command.Manager seat) = option_map_or (seat_words nodes) (slice_get known.seats seat) []
command_words nodes known (command.Decider seat) = option_map_or (seat_words nodes) (slice_get known.deciders seat) []
command_words nodes known (command.Ask seat what) = named_words (command.Ask (manager_at known.seats seat) what)
command_words nodes known (command.Timeout seat) = named_words (command.Timeout (manager_at known.seats seat))
command_words nodes known (command.Floor seat floor) = named_words (command.Floor (manager_at known.seats seat) floor)
command_words nodes known (command.Merge seat other) =
    named_words (command.Merge (manager_at known.seats seat) (manager_at known.seats other))
command_words nodes known (command.Show seat what) = named_words (command.Show (manager_at known.seats seat) what)
command_words nodes known (command.ShowDecider seat what) =
    named_words (command.ShowDecider (manager_at known.deciders seat) what)
command_words nodes known (command.Pause seat) = named_words (command.Pause (manager_at known.deciders seat))
command_words nodes known (command.Resume seat) = named_words (command.Resume (manager_at known.deciders seat))
command_words nodes known (command.Wait time most) = named_words (command.Wait time most)
command_words nodes known (command.Packet which fate) = named_words (command.Packet which fate)
command_words nodes known (command.Drain most) = named_words (command.Drain most)
command_words nodes known (command.Cut p) = named_words (command.Cut (port_at nodes p))
command_words nodes known (command.Plug p q) = named_words (command.Plug (port_at nodes p) (port_at nodes q))
command_words nodes known (command.Ping p lid) = named_words (command.Ping (port_at nodes p) lid)
command_words nodes known command.Traps = named_words command.Traps
command_words nodes known command.Resend = named_words command.Resend
command_words nodes known command.Tables = named_words command.Tables
command_words nodes known command.Flight = named_words command.Flight

-- the text of a schedule: a line for each command
abbrev pub schedule_text : List Node → Script → List ℕ
schedule_text nodes script = lines_text (map (command_words nodes (managers_of script)) script.commands)

-- if a schedule was read from a text, the text of this schedule (`schedule_text`) is read back as this schedule, for
-- the same nodes
abbrev pub PrintedSchedulesAreRead : Type 0
PrintedSchedulesAreRead =
    (nodes : List Node) (text : List ℕ) (script : Script) → schedule_of nodes text ≡ Ok script
    → schedule_of nodes (schedule_text nodes script) ≡ Ok script
