-- What a line of a schedule says: nothing, a new manager, or a command with its names.
use Rattle.std.specs.Prelude.{ℕ, ◌-◌, ◌^◌, List, [], ◌∷◌, Option, None, Some, option_map, option_and_then, codes}
use Rattle.std.specs.Prelude.{if◌then◌else◌}
use Rattle.std.specs.Option.{option_map_or}
use Rattle.std.specs.Str.{bytes_eq}
use Rattle.text_words.specs.Text.{words}
use Rattle.text_words.specs.NodeName.{name_in}
use Rattle.text_words.specs.Quoted.{enclosed, alone}
use Rattle.schedule_file.specs.declared.command.Ask.{Ask}
use Rattle.schedule_file.specs.declared.command.Ask.TheVariants.{Poll}
use Rattle.schedule_file.specs.declared.command.Command.{Command}
use Rattle.schedule_file.specs.declared.command.Command.TheVariants as command
use Rattle.schedule_file.specs.declared.command.Fate.{Fate}
use Rattle.schedule_file.specs.declared.command.Fate.TheVariants.{Deliver, Lose, Repeat}
use Rattle.schedule_file.specs.declared.command.Shown.{Shown}
use Rattle.schedule_file.specs.declared.command.Which.{Which}
use Rattle.schedule_file.specs.declared.command.Which.TheVariants.{Last, Serial}
use Rattle.schedule_file.specs.declared.line.ScheduleLine.{ScheduleLine}
use Rattle.schedule_file.specs.declared.line.ScheduleLine.TheVariants as line
use Rattle.schedule_file.specs.declared.line.NewManager.{NewManager}
use Rattle.schedule_file.specs.declared.named_command.PortName.{PortName}
use Rattle.schedule_file.specs.ManagerName.{manager_name_in}
use Rattle.schedule_file.specs.ManagerWords.{asked_by, generation_of, shown_by}
use Rattle.schedule_file.specs.Manner.{manner_in}
use Rattle.text_words.specs.Numbers.{lid_of, number_up_to}

-- a command, as given by its line, with managers and nodes given by their names
abbrev pub NamedCommand : Type 0
NamedCommand = Command (List ℕ) PortName

-- a packet in flight: the packet sent last, or the packet with a serial number; None if the word names no packet
abbrev pub which_of : List ℕ → Option Which
which_of word = if bytes_eq word (codes "last") then Some Last else option_map Serial (number_up_to (2 ^ 64 - 1) word)

-- the number of a port, up to 255, in brackets; None for any other word
abbrev pub bracketed_number : List ℕ → Option ℕ
bracketed_number word = option_and_then (number_up_to 255) (option_and_then alone (enclosed 91 93 word))

-- a node's name in quotes, directly followed by the number of a port in brackets; None for any other word
abbrev pub port_name : List ℕ → Option PortName
port_name word =
    option_and_then (λ x. option_and_then
    (λ name. option_map (λ port. record { node = name; port = port }) (bracketed_number x.1)) (name_in x.0))
    (enclosed 34 34 word)

-- a new manager: its name, its port, its priority and its manner; None for other words
abbrev pub new_manager : List (List ℕ) → Option NewManager
new_manager (name ∷ at ∷ priority ∷ more) =
    option_and_then (λ n. option_and_then (λ p. option_and_then
    (λ q. option_map (λ k. record { name = n; at = p; priority = q; manner = k }) (manner_in more))
    (number_up_to 15 priority)) (port_name at)) (manager_name_in name)
new_manager _ = None

-- commands of one word -----------------------------------------------------------------------

-- the command that has the one word `word`; None if `word` is not a command
abbrev pub bare_of : List ℕ → Option NamedCommand
bare_of word =
    if bytes_eq word (codes "tables") then Some command.Tables
    else if bytes_eq word (codes "flight") then Some command.Flight
    else if bytes_eq word (codes "traps") then Some command.Traps
    else if bytes_eq word (codes "resend") then Some command.Resend
    else None

-- commands of two words --------------------------------------------------------------------------

-- the command that asks the manager `name` for `what`; None if `name` is not a name of a manager
abbrev pub ask : Ask → List ℕ → Option NamedCommand
ask what name = option_map (λ manager. command.Ask manager what) (manager_name_in name)

-- the command that shows `what` of the manager `name`; None if `name` is not a name of a manager
abbrev pub show : Shown → List ℕ → Option NamedCommand
show what name = option_map (λ manager. command.Show manager what) (manager_name_in name)

-- the command with the first word `word`, which asks for nothing, about the manager `name`; None if there is no such
-- command, or if `name` is not a name of a manager
abbrev pub of_manager : List ℕ → List ℕ → Option NamedCommand
of_manager word name =
    if bytes_eq word (codes "timeout") then option_map command.Timeout (manager_name_in name)
    else if bytes_eq word (codes "pause") then option_map command.Pause (manager_name_in name)
    else if bytes_eq word (codes "resume") then option_map command.Resume (manager_name_in name)
    else option_and_then (λ what. show what name) (shown_by word)

-- the command with the first word `word` about the manager `name`; None if there is no such command, or if `name` is
-- not a name of a manager
abbrev pub to_manager : List ℕ → List ℕ → Option NamedCommand
to_manager word name = option_map_or (λ what. ask what name) (asked_by word) (of_manager word name)

-- the command that delivers, loses or repeats the packet in flight that a word names; None if the word names no
-- packet
abbrev pub packet : Fate → List ℕ → Option NamedCommand
packet fate which = option_map (λ w. command.Packet w fate) (which_of which)

-- any command of the two words `word` and `arg`; None if they are not a command
abbrev pub of_one : List ℕ → List ℕ → Option NamedCommand
of_one word arg =
    if bytes_eq word (codes "deliver") then packet Deliver arg
    else if bytes_eq word (codes "lose") then packet Lose arg
    else if bytes_eq word (codes "repeat") then packet Repeat arg
    else if bytes_eq word (codes "drain") then option_map command.Drain (number_up_to 1000000 arg)
    else if bytes_eq word (codes "cut") then option_map command.Cut (port_name arg)
    else to_manager word arg

-- commands of three words ------------------------------------------------------------------------

-- the command `merge` of two managers; None if one of the words is not a name of a manager
abbrev pub merge : List ℕ → List ℕ → Option NamedCommand
merge one other = option_and_then (λ m. option_map (command.Merge m) (manager_name_in other)) (manager_name_in one)

-- `poll` with a manager and a LID; None if `name` is not a name of a manager, or `lid` is not a LID
abbrev pub poll : List ℕ → List ℕ → Option NamedCommand
poll name lid =
    option_and_then (λ m. option_map (λ n. command.Ask m (Poll (Some n))) (lid_of lid)) (manager_name_in name)

-- `floor` with a manager and a generation; None if `name` is not a name of a manager, or `generation` is not a
-- generation
abbrev pub floor : List ℕ → List ℕ → Option NamedCommand
floor name generation =
    option_and_then (λ m. option_map (command.Floor m) (generation_of generation)) (manager_name_in name)

-- `plug` with two ports; None if `one` or `other` names no port
abbrev pub plug : List ℕ → List ℕ → Option NamedCommand
plug one other = option_and_then (λ p. option_map (command.Plug p) (port_name other)) (port_name one)

-- `ping` with a port and a LID; None if `port` names no port, or `lid` is not a LID
abbrev pub ping : List ℕ → List ℕ → Option NamedCommand
ping port lid = option_and_then (λ p. option_map (command.Ping p) (lid_of lid)) (port_name port)

-- `wait` with a number of milliseconds, below 2^32, and a number of turns, at most 10,000; None for other words
abbrev pub wait : List ℕ → List ℕ → Option NamedCommand
wait time most =
    option_and_then (λ t. option_map (command.Wait t) (number_up_to 10000 most)) (number_up_to 0xFFFFFFFF time)

-- any command of three words; None if they are not a command
abbrev pub of_two : List ℕ → List ℕ → List ℕ → Option NamedCommand
of_two word one other =
    if bytes_eq word (codes "merge") then merge one other
    else if bytes_eq word (codes "poll") then poll one other
    else if bytes_eq word (codes "floor") then floor one other
    else if bytes_eq word (codes "plug") then plug one other
    else if bytes_eq word (codes "ping") then ping one other
    else if bytes_eq word (codes "wait") then wait one other
    else None

-- lines ----------------------------------------------------------------------------------------

-- the command that has the word `word` and the words after it; None if they are not a command
abbrev pub command_in : List ℕ → List (List ℕ) → Option NamedCommand
command_in word [] = bare_of word
command_in word (arg ∷ []) = of_one word arg
command_in word (one ∷ other ∷ []) = of_two word one other
command_in word _ = None

-- what a line with these words says; None if the grammar has no such line
abbrev pub line_in : List (List ℕ) → Option ScheduleLine
line_in [] = Some line.Empty
line_in (word ∷ args) =
    if bytes_eq word (codes "manager") then option_map line.Manager (new_manager args)
    else option_map line.Command (command_in word args)

-- what a line says; None if the grammar has no such line
unfoldable pub line_of : List ℕ → Option ScheduleLine
line_of line = line_in (words line)
