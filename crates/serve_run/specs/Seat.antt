-- A manager that is served, of either kind: what each line does, and what is printed.
use Rattle.std.specs.Prelude.{ℕ, List, [], ◌∷◌}
use Rattle.schedule_lines.specs.Outcome.{Outcome, and_then, quiet}
use Rattle.serve_lines.specs.ManageLine.{manage_line_of}
use Rattle.serve_lines.specs.ServeLine.{line_of, lines_ended}
use Rattle.sm_manager.specs.Manager.{Manager}
use Rattle.acting_manager.specs.Acting.{Acting, value_of}
use Rattle.serve_run.specs.Decided.{decided}
use Rattle.serve_run.specs.Served.{served}
use Rattle.serve_run.specs.declared.seated.ServedManager.{ServedManager}
use Rattle.serve_run.specs.declared.seated.ServedManager.TheVariants as code

-- a manager that is served: one that does what lines say, or one that decides by itself
pub data Seat : Type 0 where
  Obeying : (manager : Manager) → Seat
  Deciding : (acting : Acting) → Seat

-- the code's manager as a value
abbrev pub seat_of : ServedManager → Seat
seat_of (code.Obeying manager) = Obeying manager
seat_of (code.Deciding acting) = Deciding (value_of acting)

-- the outcome `o` for a manager of one kind, as an outcome for a manager of either kind
abbrev pub seated : {S : Type 0} → (S → Seat) → Outcome S → Outcome Seat
seated kind o = record { now = kind o.now; text = o.text }

-- the outcome of a line, which is given without its line feed
unfoldable pub line_served : Seat → List ℕ → Outcome Seat
line_served (Obeying m) line = seated Obeying (served m (line_of line))
line_served (Deciding a) line = seated Deciding (decided a (manage_line_of line))

-- the outcome of each of the lines in turn
abbrev pub lines_served : Seat → List (List ℕ) → Outcome Seat
lines_served seat [] = quiet seat
lines_served seat (line ∷ later) = and_then (line_served seat line) (λ now. lines_served now later)

-- what is printed if `seat` reads `bytes`
abbrev pub served_by : Seat → List ℕ → List ℕ
served_by seat bytes = (lines_served seat (lines_ended [] bytes)).text
