-- A manager that is controlled by lines: what each line does, and what is printed.
use Rattle.std.specs.Prelude.{ℕ, List, [], ◌∷◌, ◌++◌, Option, None, Some, codes, decimal}
use Rattle.std.specs.List.{flat_map}
use Rattle.std.specs.Option.{option_map_or}
use Rattle.hex.specs.Hex.{encode_lower}
use Rattle.smp_bytes.specs.Text.{guid_text, port_text}
use Rattle.schedule_file.specs.declared.command.Ask.{Ask as Asking}
use Rattle.schedule_lines.specs.ManagerAsks.{after_asked, asked_fault, text_of}
use Rattle.schedule_lines.specs.Refusals.{manager_line}
use Rattle.schedule_lines.specs.Lines.{trap_text}
use Rattle.schedule_lines.specs.Outcome.{Outcome, and_then, quiet, shows}
use Rattle.serve_lines.specs.declared.serve_line.ServeLine.{ServeLine}
use Rattle.serve_lines.specs.declared.serve_line.ServeLine.TheVariants.{Ask, Floor, Packet, Timeout, GiveUp, Show, Managers, Empty, Wrong}
use Rattle.attr_codec.specs.declared.sm_info.SmInfo.{SmInfo}
use Rattle.sm_state.specs.State.{state_of_number, state_word}
use Rattle.sm_state.specs.declared.election.SeenManager.{SeenManager}
use Rattle.sm_manager.specs.Manager.{Manager, after_raise_floor, outstanding, emptied}
use Rattle.sm_manager.specs.Packets.{Called, after_packet, after_timeout, done, refused, noted_trap}
use Rattle.sm_manager.specs.declared.fault.ManagerFault.{ManagerFault}
use Rattle.sm_manager.specs.declared.outgoing.Outgoing.{Outgoing}
use Rattle.sm_manager.specs.declared.traps.Trap.{Trap}

-- texts ------------------------------------------------------------------------------------------

-- if there is a LID, ` to ` and this LID, which the packet is sent to; otherwise empty, since the packet goes along
-- its own path
abbrev pub to_text : Option ℕ → List ℕ
to_text None = []
to_text (Some lid) = codes " to " ++ decimal lid

-- the line of a packet that is sent
unfoldable pub send_line : Outgoing → List ℕ
send_line out = codes "send " ++ encode_lower out.packet ++ to_text out.to ++ codes "\n"

-- the line that ends an answer: a dot
abbrev pub end_line : List ℕ
end_line = codes ".\n"

-- the word of the state with the number `number`; the number in decimal if no state has this number
abbrev pub told_state : ℕ → List ℕ
told_state number = option_map_or state_word (state_of_number number) (decimal number)

-- the port at which a manager was seen, and the port GUID that it reported
abbrev pub where_text : SeenManager → List ℕ
where_text s = codes "manager " ++ port_text s.guid s.port ++ codes " guid " ++ guid_text s.info.guid

-- the priority, the SM_Key and the state that a manager reported
abbrev pub told_text : SmInfo → List ℕ
told_text info =
    codes " priority " ++ decimal info.priority ++ codes " key " ++ decimal info.sm_key ++ codes " state "
    ++ told_state info.state ++ codes "\n"

-- the line of a manager that the last sweep saw
unfoldable pub seen_line : SeenManager → List ℕ
seen_line s = where_text s ++ told_text s.info

-- the line of the given refusal if there is one, or else of the trap that was repressed; empty if there is neither
abbrev pub heard_text : Option Trap → Option ManagerFault → List ℕ
heard_text trap None = trap_text None trap
heard_text trap (Some fault) = manager_line fault

-- if a refusal is given, its line; otherwise empty
abbrev pub fault_text : Option ManagerFault → List ℕ
fault_text fault = heard_text None fault

-- lines ------------------------------------------------------------------------------------------

-- the manager that a call leaves, and the line of the refusal if the call is refused
abbrev pub after_called : Called → Outcome Manager
after_called c = record { now = c.manager; text = fault_text c.fault }

-- the manager after a packet, and the line of the refusal of the packet or of the trap that was repressed, if there
-- is one
abbrev pub after_heard : Called → Option Trap → Outcome Manager
after_heard c trap = record { now = c.manager; text = heard_text trap c.fault }

-- the outcome of a request to the manager `m`: a refusal if there is a fault, and otherwise the manager `after`
abbrev pub asked_with : Manager → Option ManagerFault → Manager → Called
asked_with m None after = done after
asked_with m (Some fault) after = refused m fault

-- the outcome of the request `what` to the manager `m`: the manager after the request, or a refusal
abbrev pub asked : Manager → Asking → Called
asked m what = asked_with m (asked_fault what m) (after_asked what m)

-- the outcome of giving up the requests of a list of TransactionIDs, in turn
abbrev pub after_giving_up : Manager → List ℕ → Outcome Manager
after_giving_up m [] = quiet m
after_giving_up m (transaction ∷ later) =
    and_then (after_called (after_timeout m transaction)) (λ now. after_giving_up now later)

-- the outcome of a line for the manager `m`, before the queued packets are printed
abbrev pub after_line : Manager → ServeLine → Outcome Manager
after_line m (Ask what) = after_called (asked m what)
after_line m (Floor floor) = quiet (after_raise_floor m floor)
after_line m (Packet bytes from) = after_heard (after_packet m bytes (Some from)) (noted_trap m bytes)
after_line m (Timeout transaction) = after_called (after_timeout m transaction)
after_line m GiveUp = after_giving_up m (outstanding m)
after_line m (Show what) = shows (text_of what None m) m
after_line m Managers = shows (flat_map seen_line m.seen) m
after_line m Empty = quiet m
after_line m Wrong = shows (codes "syntax\n") m

-- the outcome `o`, followed by the lines of all queued packets; no packet is then queued
abbrev pub given_out : Outcome Manager → Outcome Manager
given_out o = record { now = emptied o.now; text = o.text ++ flat_map send_line o.now.outgoing }

-- the whole outcome of a line: what it does, the lines of all queued packets, and the line that ends the answer
unfoldable pub served : Manager → ServeLine → Outcome Manager
served m line = and_then (given_out (after_line m line)) (shows end_line)

-- the outcome of serving each of the lines in turn
abbrev pub served_all : Manager → List ServeLine → Outcome Manager
served_all m [] = quiet m
served_all m (line ∷ later) = and_then (served m line) (λ now. served_all now later)
