-- Managers that decide by themselves in a simulated fabric: what they are told, and what they then print and send.
use Rattle.std.specs.Prelude.{ℕ, Bool, true, ◌&&◌, List, [], slice_get, slice_set, position, Option, Some}
use Rattle.std.specs.List.{flat_map}
use Rattle.std.specs.Option.{option_map_or}
use Rattle.fabric_model.specs.Cables.{is_same_port}
use Rattle.fabric_model.specs.declared.cable.NodePort.{NodePort}
use Rattle.fabric_sim.specs.Changes.{after_seat}
use Rattle.fabric_sim.specs.Simulation.{Simulation}
use Rattle.fabric_sim.specs.declared.packet.Packet.{Packet}
use Rattle.schedule_file.specs.declared.command.Shown.{Shown}
use Rattle.serve_run.specs.Acting.{Acting}
use Rattle.serve_run.specs.Working.{Told, after_told, given_away}
use Rattle.serve_run.specs.Working as told
use Rattle.serve_run.specs.Decided.{note_line}
use Rattle.schedule_lines.specs.ManagerAsks.{text_of}
use Rattle.schedule_lines.specs.Outcome.{Outcome, and_then, quiet, shows}
use Rattle.schedule_run.specs.World.{DeciderValue, WorldValue, after_fabric_call, after_inject_all, in_fabric}

-- the outcome of `run` for the decider at `index`; if there is none, `w` is left and nothing is printed
abbrev pub at_decider : WorldValue → ℕ → (DeciderValue → Outcome WorldValue) → Outcome WorldValue
at_decider w index run = option_map_or run (slice_get w.deciders index) (quiet w)

-- the world `w` with the decider `d` at `index`
abbrev pub with_decider : WorldValue → ℕ → DeciderValue → WorldValue
with_decider w index d = record w { deciders = slice_set w.deciders index d }

-- the lines of the notes of the manager `name`, the oldest one first
abbrev pub notes_text : List ℕ → Acting → List ℕ
notes_text name a = flat_map (note_line (Some name)) a.notes

-- the outcome of what the manager `name` at the port `at` has to give out: its notes are printed, the oldest one first,
-- and then the packets that are ready are sent. For each packet that the fabric refuses, the line of the refusal is
-- printed
abbrev pub after_giving : Simulation → List ℕ → NodePort → Acting → Outcome Simulation
after_giving fabric name at a = and_then (shows (notes_text name a) fabric) (λ now. after_inject_all now at a.ready)

-- the world once the decider `d`, whose manager is then `a`, has given out what it has to
abbrev pub after_deciding : WorldValue → ℕ → DeciderValue → Acting → Outcome WorldValue
after_deciding w index d a =
    in_fabric (with_decider w index (record d { acting = given_away a })) (after_giving w.fabric d.name d.at a)

-- the decider at `index` is told `what`, at the world's time, and gives out what it then has to. Nothing happens if there
-- is no such decider
unfoldable pub after_telling : WorldValue → ℕ → Told → Outcome WorldValue
after_telling w index what = at_decider w index (λ d. after_deciding w index d (after_told w.time what d.acting))

-- whether the decider is awake and sits at the port `p`
abbrev pub is_awake_at : NodePort → DeciderValue → Bool
is_awake_at p d = d.is_awake && is_same_port d.at p

-- the index of the decider that is awake and sits at the port `p`; None if there is none
abbrev pub decider_at : WorldValue → NodePort → Option ℕ
decider_at w p = position (is_awake_at p) w.deciders

-- a packet that is handed up at the port `p` is told to the decider there; if none is there, or it is not awake, the
-- packet is dropped
unfoldable pub after_hearing : WorldValue → NodePort → Packet → Outcome WorldValue
after_hearing w p packet =
    option_map_or (λ index. after_telling w index (told.Packet packet.bytes (Some packet.slid))) (decider_at w p) (quiet w)

-- `manager M "n"[p] P decides K`: the decider at `index` is seated at its port, and is awake from then on; if the fabric
-- refuses the call, the line of the fault is printed. Nothing happens if there is no such decider
unfoldable pub after_decider_line : WorldValue → ℕ → Outcome WorldValue
after_decider_line w index =
    at_decider w index
    (λ d. after_fabric_call (with_decider w index (record d { is_awake = true })) (after_seat w.fabric d.at))

-- `pause M` and `resume M`: the decider at `index` is not awake any more, or is awake again. Nothing happens if there is
-- no such decider
unfoldable pub after_pause_line : WorldValue → ℕ → Bool → Outcome WorldValue
after_pause_line w index is_awake =
    at_decider w index (λ d. quiet (with_decider w index (record d { is_awake = is_awake })))

-- what `facts`, `plan`, `progress`, `silent`, `written` or `state` shows about a decider
abbrev pub decider_shown_at : Shown → DeciderValue → List ℕ
decider_shown_at what d = text_of what (Some d.name) d.acting.manager

-- what is shown about the decider at `index`; empty if there is none
unfoldable pub decider_shown : WorldValue → ℕ → Shown → List ℕ
decider_shown w index what = option_map_or (decider_shown_at what) (slice_get w.deciders index) []
