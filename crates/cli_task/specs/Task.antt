-- The task that the words of a command line ask for.
use Rattle.std.specs.Prelude.{ℕ, Bool, List, Option, None, Some, codes, is_some, option_map}
use Rattle.std.specs.Prelude.{option_and_then, if◌then◌else◌}
use Rattle.std.specs.Str.{bytes_eq}
use Rattle.clap.specs.Matches.{subcommand_name_of}
use Rattle.clap.specs.declared.parser.matches.ArgMatches.{ArgMatches}
use Rattle.cli_arguments.specs.Words.{is_set, word_named}
use Rattle.sm_cli.specs.declared.asked.Output.{Output}
use Rattle.sm_cli.specs.declared.asked.Output.TheVariants.{Facts, Join, Plan, Order}
use Rattle.sm_cli.specs.declared.asked.RuleAsked.{RuleAsked}
use Rattle.sm_cli.specs.declared.audit_asked.AuditAsked.{AuditAsked}
use Rattle.sm_cli.specs.declared.serving.Serving.{Serving}
use Rattle.sm_cli.specs.declared.step_asked.StepAsked.{StepAsked}
use Rattle.cli_task.specs.declared.managing.Managing.{Managing}
use Rattle.cli_task.specs.declared.task.Task.{Task}
use Rattle.cli_task.specs.declared.task.Task.TheVariants.{Answer, OrderOfTables, Audit, Next, Run, Serve, Manage}
use Rattle.cli_task.specs.OptionValues.{floor_asked, planning_asked, order_asked, max_load_asked, guid_asked}
use Rattle.cli_task.specs.OptionValues.{limits_asked, newest_asked, port_asked, priority_asked, sm_key_asked}
use Rattle.cli_task.specs.OptionValues.{timing_asked, way_asked}

-- the audit that the words ask for, by lane if a file of lanes is named; None if one of them is wrong
abbrev pub audit_asked : (List ℕ → Option (List ℕ)) → Option AuditAsked
audit_asked word = option_and_then (λ max_load. option_map (λ way. record {
  lanes = is_some (word (codes "lanes"));
  all = is_set (word (codes "all"));
  max_load = max_load;
  loads = is_set (word (codes "loads"));
  way = way;
}) (way_asked (word (codes "way")))) (max_load_asked (word (codes "max-load")))

-- the step that the words ask for; None if one of them is wrong
abbrev pub step_asked : (List ℕ → Option (List ℕ)) → Option StepAsked
step_asked word =
    option_map (λ by. record { lmc = by.0; rule = by.1; has_last = is_some (word (codes "last-order")) })
    (planning_asked word)

-- the manager with this GUID, port, priority and SM_Key, which plans by the LMC and the rule of `by`, and writes the
-- multicast tree if `multicast`; None if one of the four is None
abbrev pub serving_by : Bool → ℕ × RuleAsked → Option ℕ → Option ℕ → Option ℕ → Option ℕ → Option Serving
serving_by multicast by guid port priority sm_key =
    option_and_then (λ g. option_and_then (λ p. option_and_then (λ q. option_map
    (λ k. record { guid = g; port = p; priority = q; sm_key = k; lmc = by.0; rule = by.1; multicast = multicast }) sm_key)
    priority) port) guid

-- the manager that is to be served; None if one of the words is missing or wrong
abbrev pub serving_asked : (List ℕ → Option (List ℕ)) → Option Serving
serving_asked word = option_and_then (λ by. serving_by (is_set (word (codes "multicast"))) by (guid_asked (word (codes "GUID")))
    (port_asked (word (codes "PORT"))) (priority_asked (word (codes "PRIORITY"))) (sm_key_asked (word (codes "sm-key"))))
    (planning_asked word)

-- the manager that is to decide by itself; None if one of the words is missing or wrong
abbrev pub managing_asked : (List ℕ → Option (List ℕ)) → Option Managing
managing_asked word =
    option_and_then (λ serving. option_and_then (λ timing. option_and_then (λ limits. option_map
    (λ newest. record { serving = serving; timing = timing; limits = limits; newest = newest }) (newest_asked word))
    (limits_asked word)) (timing_asked word)) (serving_asked word)

-- the output that the subcommand `command` writes from facts; None if `command` is another subcommand, or if a word is
-- wrong
abbrev pub output_asked : (List ℕ → Option (List ℕ)) → List ℕ → Option Output
output_asked word command =
    if bytes_eq command (codes "facts") then Some Facts
    else (if bytes_eq command (codes "join") then Some Join
    else (if bytes_eq command (codes "plan") then option_map (λ by. Plan by.0 by.1) (planning_asked word) else None))

-- the task of the subcommand `order` with the words of its arguments: the order of held tables if these are named,
-- otherwise that of a rule, from files at their own floors; None if one of the words is wrong
abbrev pub order_task : (List ℕ → Option (List ℕ)) → Option Task
order_task word =
    if is_some (word (codes "held")) then Some OrderOfTables
    else option_map (λ rule. Answer (record { output = Order rule; floor = 1 })) (order_asked word)

-- the task of the subcommand `command`, which is `facts`, `join` or `plan`, with the words of its arguments; None for
-- another subcommand, or if one of the words is wrong
abbrev pub answer_task : (List ℕ → Option (List ℕ)) → List ℕ → Option Task
answer_task word command =
    option_and_then (λ output. option_map (λ floor. Answer (record { output = output; floor = floor }))
    (floor_asked (word (codes "floor")))) (output_asked word command)

-- the task of the subcommand `command` with the words of its arguments; None if one of the words is wrong, or there is
-- no such subcommand
abbrev pub task_behind : (List ℕ → Option (List ℕ)) → List ℕ → Option Task
task_behind word command =
    if bytes_eq command (codes "order") then order_task word
    else (if bytes_eq command (codes "audit") then option_map Audit (audit_asked word)
    else (if bytes_eq command (codes "next") then option_map Next (step_asked word)
    else (if bytes_eq command (codes "run") then option_map (λ by. Run by.0 by.1) (planning_asked word)
    else (if bytes_eq command (codes "serve") then option_map Serve (serving_asked word)
    else (if bytes_eq command (codes "manage") then option_map Manage (managing_asked word)
    else answer_task word command)))))

-- the task that the words of the command line ask for; None if the words name no subcommand, or one of the words is
-- wrong
abbrev pub task_asked : ArgMatches → Option Task
task_asked matches = option_and_then (task_behind (word_named matches)) (subcommand_name_of matches)
