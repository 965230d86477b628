-- The parts of an answer, and what `written` prints.
use Rattle.std.specs.Prelude.{None, ◌≡◌, ◌↔◌, true, ◌++◌, codes}
use Rattle.std.specs.List.{flat_map}
use Rattle.sm_manager.specs.Manager.{Manager}
use Rattle.sm_manager.specs.Writing.{is_written}
use Rattle.serve_lines.specs.declared.serve_line.ServeLine.{ServeLine}
use Rattle.schedule_file.specs.declared.command.Shown.TheVariants.{Written}
use Rattle.schedule_lines.specs.ManagerAsks.{text_of}
use Rattle.serve_lines.specs.declared.manage_line.ManageLine.{ManageLine}
use Rattle.acting_manager.specs.Acting.{Acting}
use Rattle.acting_manager.specs.Working.{wake_of}
use Rattle.serve_run.specs.Decided.{after_manage, decided, note_line, wake_line}
use Rattle.serve_run.specs.Served.{after_line, end_line, send_line, served}
use Rattle.program_laws.specs.Told.{given_by}

-- an answer is the text that the line itself prints, then a line for each packet that is sent, in the order of
-- sending, and then the line of a dot
abbrev pub PacketsArePrinted : Type 0
PacketsArePrinted =
    (m : Manager) (line : ServeLine) → (served m line).text
    ≡ (after_line m line).text ++ flat_map send_line (given_by m line) ++ end_line

-- an answer of a manager that decides by itself is the text that the line itself prints, then a line for each note, then
-- a line for each packet that is ready to be sent, in these orders, then the line that says when the manager is to be told
-- the time next, and then the line of a dot
abbrev pub DecisionsArePrinted : Type 0
DecisionsArePrinted =
    (a : Acting) (line : ManageLine) →
    let now = (after_manage a line).now in
    (decided a line).text
    ≡ (after_manage a line).text ++ (flat_map (note_line None) now.notes ++ flat_map send_line now.ready)
    ++ (wake_line (wake_of now) ++ end_line)

-- `written` prints `yes` exactly when the manager's plan counts as written
abbrev pub WrittenSaysYes : Type 0
WrittenSaysYes = (m : Manager) → (text_of Written None m ≡ codes "written yes\n") ↔ (is_written m ≡ true)
