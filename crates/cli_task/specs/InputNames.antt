-- The names of the inputs that a task reads, in the order in which they are read.
use Rattle.std.specs.Prelude.{ℕ, Bool, true, false, List, [], ◌∷◌, ◌++◌, Option, Some, codes, option_map}
use Rattle.std.specs.Prelude.{option_and_then, if◌then◌else◌}
use Rattle.clap.specs.declared.parser.matches.ArgMatches.{ArgMatches}
use Rattle.cli_arguments.specs.Words.{files_named, word_named}
use Rattle.sm_cli.specs.Asked.{rule_for}
use Rattle.sm_cli.specs.declared.asked.RuleAsked.{RuleAsked}
use Rattle.sm_cli.specs.declared.asked.RuleAsked.TheVariants.{UpDown, Spread, SpreadFromRoots, SpreadInOrder, Balance}
use Rattle.sm_cli.specs.declared.asked.RuleAsked.TheVariants.{BalanceInOrder}
use Rattle.cli_task.specs.declared.task.Task.{Task}
use Rattle.cli_task.specs.declared.task.Task.TheVariants.{Answer, OrderOfTables, Audit, Next, Run, Serve, Manage}
use Rattle.cli_task.specs.Task.{task_asked}

-- the names of the texts that a rule takes, from the words for roots and order; None if the name of such a text is
-- missing
abbrev pub texts_of_rule : (List ℕ → Option (List ℕ)) → RuleAsked → Option (List (List ℕ))
texts_of_rule word UpDown = Some []
texts_of_rule word Spread = Some []
texts_of_rule word SpreadFromRoots = option_map (λ roots. roots ∷ []) (word (codes "roots"))
texts_of_rule word SpreadInOrder = option_map (λ order. order ∷ []) (word (codes "order"))
texts_of_rule word Balance = Some []
texts_of_rule word BalanceInOrder = option_map (λ order. order ∷ []) (word (codes "order"))

-- the rule that a task plans by; a rule that takes no text if the task does not plan
abbrev pub rule_of_task : Task → RuleAsked
rule_of_task (Answer request) = rule_for request.output
rule_of_task OrderOfTables = UpDown
rule_of_task (Audit asked) = UpDown
rule_of_task (Next asked) = asked.rule
rule_of_task (Run lmc rule) = rule
rule_of_task (Serve asked) = asked.rule
rule_of_task (Manage asked) = asked.serving.rule

-- the names `first` and then `later`; None if one of the lists is None
abbrev pub followed_by : Option (List (List ℕ)) → Option (List (List ℕ)) → Option (List (List ℕ))
followed_by first later = option_and_then (λ names. option_map (λ others. names ++ others) later) first

-- the name of a text if one is asked for (true), or None if the name is missing; empty if no text is asked for (false)
abbrev pub text_if : Bool → Option (List ℕ) → Option (List (List ℕ))
text_if false name = Some []
text_if true name = option_map (λ text. text ∷ []) name

-- the names of the text of the option `name`, if it is asked for, and of the text of tables; None if one is missing
abbrev pub texts_before_files : (List ℕ → Option (List ℕ)) → Bool → List ℕ → Option (List (List ℕ))
texts_before_files word is_asked name =
    followed_by (text_if is_asked (word name)) (option_map (λ tables. tables ∷ []) (word (codes "TABLES")))

-- the names of the texts that a task takes after the text of its rule; for `serve` and `manage`, standard input. None if
-- a name is missing, or if `serve` or `manage` has no word for the GUID
abbrev pub texts_asked : (List ℕ → Option (List ℕ)) → Task → Option (List (List ℕ))
texts_asked word (Answer request) = Some []
texts_asked word OrderOfTables = option_map (λ tables. tables ∷ []) (word (codes "held"))
texts_asked word (Audit asked) = texts_before_files word asked.lanes (codes "lanes")
texts_asked word (Next asked) = texts_before_files word asked.has_last (codes "last-order")
texts_asked word (Run lmc rule) =
    option_and_then (λ topology. option_map (λ schedule. topology ∷ schedule ∷ []) (word (codes "SCHEDULE")))
    (word (codes "TOPOLOGY"))
texts_asked word (Serve asked) = option_map (λ guid. codes "/dev/stdin" ∷ []) (word (codes "GUID"))
texts_asked word (Manage asked) = option_map (λ guid. codes "/dev/stdin" ∷ []) (word (codes "GUID"))

-- a task takes files
abbrev pub takes_files : Task → Bool
takes_files (Answer request) = true
takes_files OrderOfTables = true
takes_files (Audit asked) = true
takes_files (Next asked) = true
takes_files (Run lmc rule) = false
takes_files (Serve asked) = false
takes_files (Manage asked) = false

-- the names of the files that a task takes, or None if they are missing; empty if the task takes no files
abbrev pub files_asked : Option (List (List ℕ)) → Task → Option (List (List ℕ))
files_asked files task = if takes_files task then files else Some []

-- the names of the inputs of a task, in the order in which they are read: the rule's text, other texts, and files; None
-- if one is missing
abbrev pub names_in : (List ℕ → Option (List ℕ)) → Option (List (List ℕ)) → Task → Option (List (List ℕ))
names_in word files task =
    followed_by (texts_of_rule word (rule_of_task task)) (followed_by (texts_asked word task) (files_asked files task))

-- the names of the inputs of a task, according to the words after the subcommand; None if a name is missing
abbrev pub names_asked : ArgMatches → Task → Option (List (List ℕ))
names_asked matches task = names_in (word_named matches) (files_named matches) task

-- the names of the inputs of the task that is asked for; None if no task is asked for, or a name is missing
abbrev pub inputs_asked : ArgMatches → Option (List (List ℕ))
inputs_asked matches = option_and_then (names_asked matches) (task_asked matches)
