-- A manager that decides by itself and is told lines: what each line does, and what is printed.
use Rattle.std.specs.Prelude.{ℕ, Bool, true, false, List, [], ◌∷◌, ◌++◌, length, Option, None, Some, codes, decimal}
use Rattle.std.specs.List.{flat_map, range_with_len}
use Rattle.std.specs.Option.{option_map_or}
use Rattle.hex.specs.Hex.{encode_lower}
use Rattle.schedule_lines.specs.Lines.{answer_word}
use Rattle.schedule_lines.specs.ManagerAsks.{text_of}
use Rattle.schedule_lines.specs.Outcome.{Outcome, and_then, quiet, shows}
use Rattle.serve_lines.specs.declared.manage_line.ManageLine.{ManageLine}
use Rattle.serve_lines.specs.declared.manage_line.ManageLine.TheVariants.{Told, Empty, Wrong}
use Rattle.serve_lines.specs.declared.manage_line.ManageWord.{ManageWord}
use Rattle.serve_lines.specs.declared.manage_line.ManageWord.TheVariants.{Time, Packet, Sa, Look, Light, LightAnswer, Leave, Show, Managers}
use Rattle.sweep.specs.Sweep as swept
use Rattle.sm_state.specs.State.{state_word}
use Rattle.sm_policy.specs.declared.act.Act.{Act}
use Rattle.sm_policy.specs.declared.act.Act.TheVariants.{Wait, Poll, Announce, Sweep, Rediscover, HandOver, Yield, Judge, Write, Settle}
use Rattle.sm_policy.specs.declared.write_cause.WriteCause.{WriteCause}
use Rattle.sm_policy.specs.declared.write_cause.WriteCause.TheVariants.{New, Again, For}
use Rattle.sm_policy.specs.declared.ports.Ports.{Ports}
use Rattle.acting_manager.specs.Acting.{Acting}
use Rattle.acting_manager.specs.Administration.{administered, standing_sweep}
use Rattle.light_sweep.specs.LightSweep.{is_same, light_request}
use Rattle.acting_manager.specs.Working as working
use Rattle.acting_manager.specs.Working.{after_told, given_away, wake_of}
use Rattle.acting_manager.specs.declared.note.Note.{Note}
use Rattle.acting_manager.specs.declared.note.Note.TheVariants.{State, Paused, GivenUp, Swept, Wrote, Settled, Writes, Did, Refused}
use Rattle.serve_run.specs.Served.{end_line, seen_line, send_line}

-- texts ------------------------------------------------------------------------------------------

-- the word for what a manager does
abbrev pub act_word : Act → List ℕ
act_word Wait = codes "wait"
act_word Poll = codes "poll"
act_word Announce = codes "announce"
act_word Sweep = codes "sweep"
act_word Rediscover = codes "rediscover"
act_word HandOver = codes "handover"
act_word Yield = codes "yield"
act_word Judge = codes "judge"
act_word Write = codes "write"
act_word Settle = codes "settle"

-- the request has no answer, or one that is refused
abbrev pub unanswered_text : List ℕ → List ℕ
unanswered_text request = codes "unanswered " ++ encode_lower request

-- how many ports are not Active, and how many name another master
abbrev pub ports_text : Ports → List ℕ
ports_text ports = codes "inactive " ++ decimal ports.inactive ++ codes " foreign " ++ decimal ports.foreign

-- nothing is left to write, but for what these ports need
abbrev pub settled_text : Ports → List ℕ
settled_text ports = codes "settled " ++ ports_text ports

-- a writing began, for these ports
abbrev pub for_ports_text : Ports → List ℕ
for_ports_text ports = codes "write " ++ ports_text ports

-- a writing began, for this cause
abbrev pub cause_text : WriteCause → List ℕ
cause_text New = codes "write new"
cause_text Again = codes "write again"
cause_text (For ports) = for_ports_text ports

-- what a note says
abbrev pub note_text : Note → List ℕ
note_text (State state) = codes "state " ++ state_word state
note_text Paused = codes "paused"
note_text (GivenUp request) = unanswered_text request
note_text (Swept whole) = codes "swept " ++ answer_word whole
note_text (Wrote whole) = codes "written " ++ answer_word whole
note_text (Settled ports) = settled_text ports
note_text (Writes cause) = cause_text cause
note_text (Did act) = act_word act
note_text (Refused act) = codes "refused " ++ act_word act

-- how the line of a note begins, with a manager's name if there is one
abbrev pub note_front : Option (List ℕ) → List ℕ
note_front None = codes "note "
note_front (Some manager) = codes "note " ++ manager ++ codes " "

-- the line of a note, with the manager's name if there is one
unfoldable pub note_line : Option (List ℕ) → Note → List ℕ
note_line manager note = note_front manager ++ note_text note ++ codes "\n"

-- when the manager is to be told the time next, in decimal; `never` if it waits for packets alone, or has left
abbrev pub wake_text : Option ℕ → List ℕ
wake_text None = codes "never"
wake_text (Some time) = decimal time

-- the line that says when the manager is to be told the time next
unfoldable pub wake_line : Option ℕ → List ℕ
wake_line wake = codes "wake " ++ wake_text wake ++ codes "\n"

-- the line of an answer of subnet administration, which is sent to the LID `to`; empty if there is none
unfoldable pub sa_line : ℕ → Option (List ℕ) → List ℕ
sa_line to None = []
sa_line to (Some packet) = codes "sa " ++ encode_lower packet ++ codes " to " ++ decimal to ++ codes "\n"

-- the line of a request of a light sweep; empty if there is none
unfoldable pub light_line : Option (List ℕ) → List ℕ
light_line None = []
light_line (Some packet) = codes "light " ++ encode_lower packet ++ codes "\n"

-- the lines of the requests of a light sweep after the sweep `s`, in the order of the vertices that it reached
abbrev pub light_lines : swept.Sweep → List ℕ
light_lines s = flat_map (λ i. light_line (light_request s i)) (range_with_len 0 (length s.reached))

-- the lines of the requests of a light sweep; none if a sweep is needed
abbrev pub light_text : Acting → List ℕ
light_text a = option_map_or light_lines (standing_sweep a) []

-- the line that says whether a switch is as the last sweep read it
abbrev pub same_line : Bool → List ℕ
same_line true = codes "light same\n"
same_line false = codes "light changed\n"

-- the line that says whether a switch is as the last sweep read it, by the bytes `packet`; it is not if a sweep is needed
abbrev pub answered_line : Acting → List ℕ → List ℕ
answered_line a packet = same_line (option_map_or (λ s. is_same s packet) (standing_sweep a) false)

-- lines ------------------------------------------------------------------------------------------

-- the outcome of a line that has the time `time`, before what the manager has to give out. What a line shows changes
-- nothing, and the time is then not told
abbrev pub after_word : Acting → ℕ → ManageWord → Outcome Acting
after_word a time Time = quiet (after_told time working.Time a)
after_word a time (Packet bytes from) = quiet (after_told time (working.Packet bytes (Some from)) a)
after_word a time (Sa bytes from) = shows (sa_line from (administered a bytes)) a
after_word a time Look = quiet (after_told time working.Look a)
after_word a time Light = shows (light_text a) a
after_word a time (LightAnswer bytes) = shows (answered_line a bytes) a
after_word a time Leave = quiet (after_told time working.Leave a)
after_word a time (Show what) = shows (text_of what None a.manager) a
after_word a time Managers = shows (flat_map seen_line a.manager.seen) a

-- the outcome of a line, before what the manager has to give out
abbrev pub after_manage : Acting → ManageLine → Outcome Acting
after_manage a (Told time what) = after_word a time what
after_manage a Empty = quiet a
after_manage a Wrong = shows (codes "syntax\n") a

-- what the manager has to give out: its notes, the oldest one first, and then the packets that are ready to be sent
abbrev pub given_out : Acting → Outcome Acting
given_out a = shows (flat_map (note_line None) a.notes ++ flat_map send_line a.ready) (given_away a)

-- the whole outcome of a line: what it does, what the manager has then to give out, when the manager is to be told the
-- time next, and the line that ends the answer
unfoldable pub decided : Acting → ManageLine → Outcome Acting
decided a line =
    and_then (and_then (after_manage a line) given_out) (λ now. shows (wake_line (wake_of now) ++ end_line) now)

-- the outcome of each of the lines in turn
abbrev pub decided_all : Acting → List ManageLine → Outcome Acting
decided_all a [] = quiet a
decided_all a (line ∷ later) = and_then (decided a line) (λ now. decided_all now later)
