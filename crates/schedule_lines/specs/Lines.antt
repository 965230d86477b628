-- The lines that commands print.
use Rattle.std.specs.Prelude.{ℕ, Bool, true, false, List, [], ◌++◌, codes, decimal, Option, None, Some, option_map}
use Rattle.std.specs.Borrow.{Bor}
use Rattle.fabric_model.specs.declared.cable.NodePort.{NodePort}
use Rattle.text_words.specs.Printed.{bracketed_text, quoted_text}
use Rattle.topo_file.specs.declared.node.Node.{Node}
use Rattle.topo_file.specs.Printed.{name_at}
use Rattle.fabric_sim.specs.declared.ping.Ping.{Ping}
use Rattle.fabric_sim.specs.declared.ping.Ping.TheVariants.{Reached, Lost}
use Rattle.sm_state.specs.declared.state.SmState.{SmState}
use Rattle.sm_state.specs.State.{state_word}
use Rattle.sm_manager.specs.declared.progress.Progress.{Progress}
use Rattle.sm_manager.specs.declared.progress.Progress.TheVariants.{Never, Running, Done}
use Rattle.sm_manager.specs.declared.traps.Trap.{Trap}

-- the words, and then the number
abbrev pub count_text : List ℕ → ℕ → List ℕ
count_text words count = words ++ decimal count

-- the number of requests that were not answered, and the number of ports through which the sweep did not go on
-- because the path would have been too long
unfoldable pub counts_text : ℕ → ℕ → List ℕ
counts_text unanswered too_far = count_text (codes " unanswered ") unanswered ++ count_text (codes " toofar ") too_far

-- how far a sweep has come and, if it has begun, the counts of requests that were not answered and of ports that lead
-- too far
abbrev pub stage_text : Progress → List ℕ
stage_text Never = codes " never"
stage_text (Running unanswered too_far) = codes " running" ++ counts_text unanswered too_far
stage_text (Done unanswered too_far) = codes " done" ++ counts_text unanswered too_far

-- the borrowed name of a manager, as a value; None if there is no name
abbrev pub name_of : Option (Bor (List ℕ)) → Option (List ℕ)
name_of name = option_map (λ n. n.now) name

-- a word, and then a manager's name if there is one
abbrev pub head_text : List ℕ → Option (List ℕ) → List ℕ
head_text word None = word
head_text word (Some manager) = word ++ codes " " ++ manager

-- a word at the end of a line
abbrev pub end_word : List ℕ → List ℕ
end_word word = codes " " ++ word ++ codes "\n"

-- the line of the progress of a manager's sweep
abbrev pub progress_line : Option (List ℕ) → Progress → List ℕ
progress_line manager progress = head_text (codes "progress") manager ++ stage_text progress ++ codes "\n"

-- how many managers did not answer a sweep; for None, the word that says that no sweep has begun
abbrev pub silent_text : Option ℕ → List ℕ
silent_text None = codes " never"
silent_text (Some silent) = count_text (codes " ") silent

-- the line that says how many managers did not answer the last sweep of `manager`
abbrev pub silent_line : Option (List ℕ) → Option ℕ → List ℕ
silent_line manager silent = head_text (codes "silent") manager ++ silent_text silent ++ codes "\n"

-- `yes` or `no`
abbrev pub answer_word : Bool → List ℕ
answer_word true = codes "yes"
answer_word false = codes "no"

-- the line that says whether the plan of `manager` is written
abbrev pub written_line : Option (List ℕ) → Bool → List ℕ
written_line manager written = head_text (codes "written") manager ++ end_word (answer_word written)

-- the line of a manager's state
abbrev pub state_line : Option (List ℕ) → SmState → List ℕ
state_line manager state = head_text (codes "state") manager ++ end_word (state_word state)

-- the line of a trap that `manager` repressed; `issuer` is the LID of the port that issued the trap
abbrev pub trap_line : Option (List ℕ) → ℕ → List ℕ
trap_line manager issuer = head_text (codes "trap") manager ++ count_text (codes " ") issuer ++ codes "\n"

-- if a trap is given, the line that says that `manager` repressed it; otherwise empty
abbrev pub trap_text : Option (List ℕ) → Option Trap → List ℕ
trap_text manager None = []
trap_text manager (Some trap) = trap_line manager trap.issuer

-- a port: the name of its node in quotes, and its number in brackets
abbrev pub port_text : List Node → NodePort → List ℕ
port_text nodes p = quoted_text (name_at nodes p.node) ++ bracketed_text p.port

-- the beginning of a ping's line: the port that the packet is sent from, and the LID that it is sent to
unfoldable pub start_text : List Node → NodePort → ℕ → List ℕ
start_text nodes source lid = codes "ping " ++ port_text nodes source ++ codes " " ++ decimal lid

-- the end of a ping's line: the port that the packet reaches and the number of wires that it takes, or the node where
-- it is lost
unfoldable pub end_text : List Node → Ping → List ℕ
end_text nodes (Reached p hops) = codes " reached " ++ port_text nodes p ++ codes " hops " ++ decimal hops
end_text nodes (Lost number) = codes " lost " ++ quoted_text (name_at nodes number)

-- the line of a ping: the port that the packet is sent from, the LID that it is sent to, and where it ends
abbrev pub ping_line : List Node → NodePort → ℕ → Ping → List ℕ
ping_line nodes source lid ping = start_text nodes source lid ++ end_text nodes ping ++ codes "\n"

-- the line of a packet in flight: its serial number, and the node where it waits
abbrev pub flight_line : List Node → ℕ → ℕ → List ℕ
flight_line nodes serial number =
    codes "packet " ++ decimal serial ++ codes " " ++ quoted_text (name_at nodes number) ++ codes "\n"
