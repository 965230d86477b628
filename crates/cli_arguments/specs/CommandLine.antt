-- The command line: its subcommands and their arguments, what words are read as, and when they are refused.
use Rattle.std.specs.Prelude.{◌≡◌, ◌⊎◌, ℕ, Bool, true, false, List, [], ◌∷◌, ◌++◌, map, Some, codes, pos, Result, Ok, Err}
use Rattle.std.specs.Borrow.{Bor}
use Rattle.clap.specs.Lexer.{usize_max}
use Rattle.clap.specs.Kinds.{IsAmong}
use Rattle.clap.specs.Faults.{fault_of}
use Rattle.clap.specs.Simple.{App, Shape, app_of, new_rule, new_shape, shape_of, subcommand_of, subcommand_rows_of}
use Rattle.clap.specs.Values.{kind_of}
use Rattle.clap.specs.Walk.{Rule, Text}
use Rattle.clap.specs.declared.builder.action.ArgAction.TheVariants.{Append, Set, SetTrue}
use Rattle.clap.specs.declared.builder.command.Command.{Command}
use Rattle.clap.specs.declared.builder.command.Command.TheViews.{out-Command as fields_of}
use Rattle.clap.specs.declared.builder.value_parser.ValueParser.TheVariants.{Names, Signed}
use Rattle.clap.specs.declared.error.Error.{Error}
use Rattle.clap.specs.declared.error.kind.ErrorKind.TheVariants.{ArgumentConflict, OutOfMemory}
use Rattle.clap.specs.declared.parser.matches.ArgMatches.{ArgMatches}
use Rattle.cli_arguments.specs.Words.{has_conflict_behind}

-- arguments ----------------------------------------------------------------------------------------------

-- the required argument `name`, of one word
abbrev pub text_rule : Text → Rule
text_rule name = record (new_rule name) { required = true; action = Some Set }

-- the required argument for files, one or more
abbrev pub files_rule : Rule
files_rule = record (new_rule (codes "FILE")) {
  required = true;
  range = Some (record { start_inclusive = 1; end_inclusive = usize_max });
  action = Some Append;
}

-- the option `name`, with one word
abbrev pub option_rule : Text → Rule
option_rule name = record (new_rule name) { long = Some name; value_names = 1; action = Some Set }

-- the option `name`, with no word after it
abbrev pub flag_rule : Text → Rule
flag_rule name = record (new_rule name) { long = Some name; action = Some SetTrue }

-- the option `name` for a number from `least` to `most`
abbrev pub number_rule : Text → ℕ → ℕ → Rule
number_rule name least most = record (option_rule name) { parser = Some (Signed (pos least) (pos most)) }

-- the option for a floor, from 1 to 2^32 - 1
abbrev pub floor_rule : Rule
floor_rule = number_rule (codes "floor") 1 4294967295

-- the option `--all`, with no word after it: all items are listed
abbrev pub all_rule : Rule
all_rule = flag_rule (codes "all")

-- the option of a step: the file with the order of the last step
abbrev pub of_step : List Rule
of_step = option_rule (codes "last-order") ∷ []

-- the option for the greatest load that passes, from 0 to 2^32 - 1
abbrev pub max_load_rule : Rule
max_load_rule = number_rule (codes "max-load") 0 4294967295

-- the option `--loads`, with no word after it: the load of each channel is printed
abbrev pub loads_rule : Rule
loads_rule = flag_rule (codes "loads")

-- the options of an audit: how much the audit prints, the load that it lets pass, what it also prints, and the file of
-- lanes
abbrev pub of_report : List Rule
of_report =
    all_rule ∷ max_load_rule ∷ loads_rule ∷ option_rule (codes "way") ∷ option_rule (codes "lanes") ∷ []

-- the option for an LMC, from 0 to 7
abbrev pub lmc_rule : Rule
lmc_rule = number_rule (codes "lmc") 0 7

-- the option for a rule of routing, one of `words`
abbrev pub routing_rule : Bor (List (Bor Text)) → Rule
routing_rule words = record (option_rule (codes "routing")) { parser = Some (Names words) }

-- the arguments for files and the option for a floor
abbrev pub of_files : List Rule
of_files = files_rule ∷ floor_rule ∷ []

-- the argument for the number of a port, from 1 to 254
abbrev pub port_rule : Rule
port_rule = record (text_rule (codes "PORT")) { parser = Some (Signed (pos 1) (pos 254)) }

-- the argument for the priority of a manager, from 0 to 15
abbrev pub priority_rule : Rule
priority_rule = record (text_rule (codes "PRIORITY")) { parser = Some (Signed (pos 0) (pos 15)) }

-- the option `--multicast`, with no word after it: the multicast tree is written too
abbrev pub multicast_rule : Rule
multicast_rule = flag_rule (codes "multicast")

-- the arguments of a manager at a port, and the options for its SM_Key and for the multicast tree
abbrev pub of_seat : List Rule
of_seat = text_rule (codes "GUID") ∷ port_rule ∷ priority_rule ∷ option_rule (codes "sm-key") ∷ multicast_rule ∷ []

-- the option for the time from the end of a master's sweep to its next one, from 1000 to 3600000 milliseconds
abbrev pub every_rule : Rule
every_rule = number_rule (codes "every") 1000 3600000

-- the option for the time from one poll of a standby to its next one, from 1 to 600000 milliseconds
abbrev pub poll_rule : Rule
poll_rule = number_rule (codes "poll") 1 600000

-- the option `--strict`, with no word after it: nothing is planned while a request of sweeps has no answer
abbrev pub strict_rule : Rule
strict_rule = flag_rule (codes "strict")

-- the option for the time that an answer is waited for, from 1 to 600000 milliseconds
abbrev pub timeout_rule : Rule
timeout_rule = number_rule (codes "timeout") 1 600000

-- the option for how often a request is sent, from 1 to 101
abbrev pub tries_rule : Rule
tries_rule = number_rule (codes "tries") 1 101

-- the option for the number of requests that are out at a time, from 1 to 64
abbrev pub outstanding_rule : Rule
outstanding_rule = number_rule (codes "outstanding") 1 64

-- the option for the newest generation that is known, from 0 to 2^32 - 2, so that there is one above it
abbrev pub newest_rule : Rule
newest_rule = number_rule (codes "newest") 0 4294967294

-- the options for when a manager that decides by itself does what
abbrev pub of_timing : List Rule
of_timing = every_rule ∷ poll_rule ∷ strict_rule ∷ []

-- the options for the requests of a manager that decides by itself
abbrev pub of_limits : List Rule
of_limits = timeout_rule ∷ tries_rule ∷ outstanding_rule ∷ []

-- the options of a manager that decides by itself, besides those of its plans
abbrev pub of_pace : List Rule
of_pace = of_timing ++ of_limits ++ newest_rule ∷ []

-- the options for the order of switches: a file of roots, or a file of an order
abbrev pub of_order : List Rule
of_order = option_rule (codes "roots") ∷ option_rule (codes "order") ∷ []

-- the options for a rule of routing, and for its roots or its order
abbrev pub of_routing : Bor (List (Bor Text)) → List Rule
of_routing words = routing_rule words ∷ of_order

-- the options of a plan: its LMC, its rule of routing, and the rule's roots or order
abbrev pub of_planning : Bor (List (Bor Text)) → List Rule
of_planning words = lmc_rule ∷ of_routing words

-- subcommands --------------------------------------------------------------------------------------------

-- the subcommand `name` with the arguments `rules`
abbrev pub subcommand_shape : Text → List Rule → Shape
subcommand_shape name rules = record (new_shape name) { rules = rules }

-- the subcommand that prints facts as text
abbrev pub facts_shape : Shape
facts_shape = subcommand_shape (codes "facts") of_files

-- the subcommand that joins files to a store file
abbrev pub join_shape : Shape
join_shape = subcommand_shape (codes "join") of_files

-- the subcommand that prints a plan
abbrev pub plan_shape : Bor (List (Bor Text)) → Shape
plan_shape words = subcommand_shape (codes "plan") (of_files ++ of_planning words)

-- the subcommand that prints the order of a rule, or that held tables follow
abbrev pub order_shape : Bor (List (Bor Text)) → Shape
order_shape words =
    subcommand_shape (codes "order") (files_rule ∷ of_routing words ++ option_rule (codes "held") ∷ [])

-- the subcommand that audits tables
abbrev pub audit_shape : Shape
audit_shape = subcommand_shape (codes "audit") (text_rule (codes "TABLES") ∷ files_rule ∷ of_report)

-- the subcommand that prints the tables to write next
abbrev pub next_shape : Bor (List (Bor Text)) → Shape
next_shape words =
    subcommand_shape (codes "next") (text_rule (codes "TABLES") ∷ files_rule ∷ of_planning words ++ of_step)

-- the subcommand that runs a schedule
abbrev pub run_shape : Bor (List (Bor Text)) → Shape
run_shape words =
    subcommand_shape (codes "run") (text_rule (codes "TOPOLOGY") ∷ text_rule (codes "SCHEDULE") ∷ of_planning words)

-- the subcommand `name` of a manager at a port, with the options of its plans
abbrev pub seated_shape : Text → Bor (List (Bor Text)) → Shape
seated_shape name words = subcommand_shape name (of_seat ++ of_planning words)

-- the subcommand that serves a manager
abbrev pub serve_shape : Bor (List (Bor Text)) → Shape
serve_shape words = seated_shape (codes "serve") words

-- the subcommand that runs a manager that decides by itself
abbrev pub manage_shape : Bor (List (Bor Text)) → Shape
manage_shape words = subcommand_shape (codes "manage") (of_seat ++ of_planning words ++ of_pace)

-- the program without its subcommands; a subcommand is required
abbrev pub program_app : App
program_app =
    record { top = record (new_shape (codes "ibsm")) { has_version = true; subcommand_required = true }; subs = [] }

-- the program with its subcommands; `words` are the words for rules of routing
abbrev pub command_line : Bor (List (Bor Text)) → App
command_line words = record {
  top = record program_app.top { is_leaf = false };
  subs =
      facts_shape ∷ join_shape ∷ plan_shape words ∷ order_shape words ∷ audit_shape ∷ next_shape words ∷ run_shape words
      ∷ serve_shape words ∷ manage_shape words ∷ [];
}

-- `words` are the words for the three rules of routing
abbrev pub AreRoutings : Bor (List (Bor Text)) → Type 0
AreRoutings words =
    map (λ word. word.now) words.now ≡ codes "updown" ∷ codes "spread" ∷ codes "balance" ∷ []

-- commands -----------------------------------------------------------------------------------------------

-- the command `c` has the shape `shape`, and none of its arguments also applies to its subcommands
abbrev pub IsOf : Shape → Command → Type 0
IsOf shape c = (shape_of c ≡ shape) × ((fields_of c).has_globals ≡ false)

-- the command `c` has the subcommands and arguments of `app`, and none of its arguments also applies to its subcommands
abbrev pub IsApp : App → Command → Type 0
IsApp app c = (app_of c ≡ app) × ((fields_of c).has_globals ≡ false)

-- `new` is the command `old` with `rules` added after its own arguments
abbrev pub AddsRules : List Rule → Command → Command → Type 0
AddsRules rules old new =
    (shape_of new ≡ record (shape_of old) { rules = (shape_of old).rules ++ rules })
    × ((fields_of new).has_globals ≡ (fields_of old).has_globals)

-- words --------------------------------------------------------------------------------------------------

-- the subcommand that `words` name has options that contradict each other or a wrong word (`has_conflict`); false if
-- `words` name no subcommand
abbrev pub conflict_of : App → List Text → Bool
conflict_of app words = has_conflict_behind (subcommand_of app words)

-- what the words of a command line, the program's name first, are read as: the subcommand with its arguments. The
-- words are refused if they have a fault or a conflict, and otherwise only for lack of memory
abbrev pub IsReadAs : App → List Text → Result ArgMatches Error → Type 0
IsReadAs app words (Ok matches) =
    (subcommand_rows_of matches ≡ subcommand_of app words) × (fault_of app words ≡ []) × (conflict_of app words ≡ false)
IsReadAs app words (Err error) =
    (kind_of error ≡ OutOfMemory) ⊎ IsAmong (kind_of error) (fault_of app words)
    ⊎ (fault_of app words ≡ []) × (conflict_of app words ≡ true) × (kind_of error ≡ ArgumentConflict)
