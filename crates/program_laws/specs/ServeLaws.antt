-- The laws of a manager that is served by lines.
use Rattle.std.specs.Prelude.{◌≡◌, ℕ, List, [], ◌++◌, map}
use Rattle.fact_store.specs.Seen.{HaveSameMembers}
use Rattle.fact_store.specs.View.{view_at}
use Rattle.sm_manager.specs.CallLists.{KnowTheSame, after_calls}
use Rattle.sm_manager.specs.Manager.{Manager}
use Rattle.serve_lines.specs.declared.serve_line.ServeLine.{ServeLine}
use Rattle.serve_lines.specs.declared.serve_line.ServeLine.TheVariants.{Show}
use Rattle.schedule_file.specs.declared.command.Shown.TheVariants.{Facts, Plan}
use Rattle.serve_lines.specs.ManageLine.{manage_line_of}
use Rattle.serve_lines.specs.ServeLine.{begun_by, line_of, lines_ended}
use Rattle.acting_manager.specs.Acting.{Acting}
use Rattle.serve_run.specs.Decided.{decided_all}
use Rattle.serve_run.specs.Seat.{Deciding, Obeying, Seat, lines_served, seated, served_by}
use Rattle.serve_run.specs.Served.{served, served_all}
use Rattle.program_laws.specs.Told.{Who, new_by}
use Rattle.program_laws.specs.Told.{calls_of, floor_by, told_by}

-- lines are handled by what they mean, in turn: whatever a manager of either kind leaves and prints for lines, it leaves
-- and prints for their meanings
pub record LinesAreServed : Type 0 where
  pub obeying : (m : Manager) (lines : List (List ℕ)) → lines_served (Obeying m) lines ≡ seated Obeying (served_all m (map line_of lines))
  pub deciding : (a : Acting) (lines : List (List ℕ)) → lines_served (Deciding a) lines ≡ seated Deciding (decided_all a (map manage_line_of lines))

-- the manager after it was given the whole lines of `bytes`
abbrev pub seat_after : Seat → List ℕ → Seat
seat_after seat bytes = (lines_served seat (lines_ended [] bytes)).now

-- bytes that are read later do not change the text that was printed. They only add to this text the answers that the
-- manager at that moment gives to their lines; the first of these lines may have begun before
abbrev pub EarlierAnswersStay : Type 0
EarlierAnswersStay =
    (seat : Seat) (before later : List ℕ) → served_by seat (before ++ later)
    ≡ served_by seat before ++ (lines_served (seat_after seat before) (lines_ended (begun_by [] before) later)).text

-- the manager that serving lines leaves is the one that the calls of these lines leave
abbrev pub ServedLives : Type 0
ServedLives = (m : Manager) (lines : List ServeLine) → (served_all m lines).now ≡ after_calls (calls_of lines m) m

-- after lines, a new process has the view of the sightings that it took in, at the greatest floor that it was given, or
-- 1
abbrev pub KnowsWhatItWasTold : Type 0
KnowsWhatItWasTold =
    (who : Who) (lines : List ServeLine) → (served_all (new_by who) lines).now.store
    ≡ view_at (floor_by who lines) (told_by who lines)

-- two managers answer `facts` and `plan` with the same text, and know the same
pub record TellTheSame (one other : Manager) : Type 0 where
  pub facts : (served one (Show Facts)).text ≡ (served other (Show Facts)).text
  pub plan : (served one (Show Plan)).text ≡ (served other (Show Plan)).text
  pub know : KnowTheSame one other

-- if two new processes plan by the same rule and LMC, took in the same sightings, in any order and each any number of
-- times, and have the same greatest floor, they answer `facts` and `plan` with the same text, and know the same
abbrev pub SameToldSameTexts : Type 0
SameToldSameTexts =
    (who who' : Who) (lines lines' : List ServeLine) → who.planning ≡ who'.planning
    → floor_by who lines ≡ floor_by who' lines' → HaveSameMembers (told_by who lines) (told_by who' lines')
    → TellTheSame (served_all (new_by who) lines).now (served_all (new_by who') lines').now
