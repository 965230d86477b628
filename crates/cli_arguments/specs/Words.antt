-- The words of the command line by the names of their arguments, and which of them contradict each other.
use Rattle.std.specs.Prelude.{ℕ, Bool, true, false, List, Option, None, Some, codes, find, is_some, length, nat_le, not, option_and_then, option_map, slice_get}
use Rattle.std.specs.Prelude.{◌&&◌, ◌||◌, if◌then◌else◌}
use Rattle.std.specs.Char.{is_ascii_hexdigit}
use Rattle.std.specs.List.{list_all}
use Rattle.std.specs.Str.{bytes_eq}
use Rattle.clap.specs.Simple.{subcommand_rows_of}
use Rattle.clap.specs.Walk.{Row}
use Rattle.clap.specs.declared.parser.matches.ArgMatches.{ArgMatches}
use Rattle.cli_arguments.specs.WayWord.{is_way}

-- the values of the argument `name` among `rows`; None if no row has this name
abbrev pub values_in : List ℕ → List Row → Option (List (List ℕ))
values_in name rows = option_map (λ r. r.values) (find (λ r. bytes_eq r.id name) rows)

-- the names of files after the subcommand; None if there is no subcommand, or the subcommand has no such argument
abbrev pub files_named : ArgMatches → Option (List (List ℕ))
files_named matches = option_and_then (λ s. values_in (codes "FILE") s.1) (subcommand_rows_of matches)

-- the first word of the argument `name` of a subcommand; None if there is no subcommand, or no such word
abbrev pub word_behind : Option (List ℕ × List Row) → List ℕ → Option (List ℕ)
word_behind subcommand name =
    option_and_then (λ s. option_and_then (λ values. slice_get values 0) (values_in name s.1)) subcommand

-- the first word of the argument `name` of the subcommand that was parsed; None if there is no subcommand, or no such
-- word
abbrev pub word_named : ArgMatches → List ℕ → Option (List ℕ)
word_named matches = word_behind (subcommand_rows_of matches)

-- roots are named without the rule that takes them, or an order is named without a rule that takes it
abbrev pub lacks_rule : Option (List ℕ) → Bool → Bool → Bool
lacks_rule None rooted ordered = rooted || ordered
lacks_rule (Some word) rooted ordered =
    if bytes_eq word (codes "spread") then false
    else (if bytes_eq word (codes "balance") then rooted else rooted || ordered)

-- options contradict each other: roots and an order are both named, or one of them is named without a rule that takes
-- it
abbrev pub has_conflict_of : Option (List ℕ) → Bool → Bool → Bool
has_conflict_of routing rooted ordered = (rooted && ordered) || lacks_rule routing rooted ordered

-- the rule of the subcommand `order`: `spread` if no word names a rule
abbrev pub order_rule : Option (List ℕ) → Option (List ℕ)
order_rule None = Some (codes "spread")
order_rule (Some word) = Some word

-- `word` is 1 to 16 hex digits
abbrev pub is_guid_word : List ℕ → Bool
is_guid_word word = nat_le 1 (length word) && nat_le (length word) 16 && list_all is_ascii_hexdigit word

-- there is a word, and it is 1 to 16 hex digits
abbrev pub is_guid : Option (List ℕ) → Bool
is_guid None = false
is_guid (Some word) = is_guid_word word

-- an SM_Key, if a word names one, is 1 to 16 hex digits
abbrev pub is_key : Option (List ℕ) → Bool
is_key None = true
is_key (Some word) = is_guid_word word

-- the GUID of a manager's port is not 1 to 16 hex digits, or its SM_Key is named and is not 1 to 16 hex digits
abbrev pub is_wrong_seat : (List ℕ → Option (List ℕ)) → Bool
is_wrong_seat word = not (is_guid (word (codes "GUID"))) || not (is_key (word (codes "sm-key")))

-- the options of a plan or an order contradict each other in the subcommand `name`; the subcommand `order` needs no
-- word for its rule
abbrev pub planning_conflict : List ℕ → (List ℕ → Option (List ℕ)) → Bool
planning_conflict name word =
    has_conflict_of (if bytes_eq name (codes "order") then order_rule (word (codes "routing")) else word (codes "routing"))
    (is_some (word (codes "roots"))) (is_some (word (codes "order")))

-- a flag is set: its word is `true`, which the parser of words sets
abbrev pub is_set : Option (List ℕ) → Bool
is_set None = false
is_set (Some word) = bytes_eq word (codes "true")

-- the order of held tables is asked for, and a rule, roots or an order are named, too
abbrev pub is_held_and_named : (List ℕ → Option (List ℕ)) → Bool
is_held_and_named word =
    is_some (word (codes "held")) && (is_some (word (codes "routing")) || is_some (word (codes "roots"))
    || is_some (word (codes "order")))

-- the subcommand `name` runs a manager at a port
abbrev pub is_seated : List ℕ → Bool
is_seated name = bytes_eq name (codes "serve") || bytes_eq name (codes "manage")

-- options contradict each other in the subcommand `name`, or it runs a manager at a port and its GUID or SM_Key is not 1
-- to 16 hex digits, or it is `audit` and does not name a packet as it has to be named
abbrev pub has_conflict : List ℕ → (List ℕ → Option (List ℕ)) → Bool
has_conflict name word =
    if is_seated name then planning_conflict name word || is_wrong_seat word
    else (if bytes_eq name (codes "audit") then not (is_way (word (codes "way")))
    else planning_conflict name word || is_held_and_named word)

-- the subcommand has options that contradict each other or a wrong word (`has_conflict`); false if no subcommand was
-- named
abbrev pub has_conflict_behind : Option (List ℕ × List Row) → Bool
has_conflict_behind None = false
has_conflict_behind (Some s) = has_conflict s.0 (word_behind (Some s))
