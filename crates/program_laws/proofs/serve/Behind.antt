-- What is printed first does not hang on what comes later.
use Rattle.std.proofs.Common.{◌≡◌, ℕ, Bool, true, false, cond, List, [], ◌∷◌, ◌++◌, refl, sym, ap, ◌∙◌}
use Rattle.std.specs.Prelude.{◌==◌, map}
use Rattle.std.proofs.lemmas.List.{append_assoc}
use Rattle.sm_manager.specs.Manager.{Manager}
use Rattle.serve_lines.specs.declared.serve_line.ServeLine.{ServeLine}
use Rattle.serve_lines.specs.ManageLine.{manage_line_of}
use Rattle.serve_lines.specs.ServeLine.{begun_by, line_of, lines_ended}
use Rattle.schedule_lines.specs.Outcome.{Outcome}
use Rattle.acting_manager.specs.Acting.{Acting}
use Rattle.serve_run.specs.Decided.{decided, decided_all}
use Rattle.serve_run.specs.Seat.{Deciding, Obeying, Seat, line_served, lines_served, seated}
use Rattle.serve_run.specs.Served.{served, served_all}
use Rattle.program_laws.specs.ServeLaws.{EarlierAnswersStay, LinesAreServed}

-- bytes behind others ------------------------------------------------------------------------------------

by_test : (t : Bool) (line : List ℕ) (all ended more_all more_ended : List (List ℕ)) (rest more_rest later : List ℕ)
    → all ≡ ended ++ lines_ended rest later → more_all ≡ more_ended ++ lines_ended more_rest later
    → cond t (line ∷ all) more_all ≡ cond t (line ∷ ended) more_ended ++ lines_ended (cond t rest more_rest) later
by_test true line all ended more_all more_ended rest more_rest later here there = ap (λ lines. line ∷ lines) here
by_test false line all ended more_all more_ended rest more_rest later here there = there

ended_behind : (begun before later : List ℕ)
    → lines_ended begun (before ++ later) ≡ lines_ended begun before ++ lines_ended (begun_by begun before) later
ended_behind begun [] later = refl
ended_behind begun (b ∷ before) later =
    by_test (b == 10) begun (lines_ended [] (before ++ later)) (lines_ended [] before)
    (lines_ended (begun ++ b ∷ []) (before ++ later)) (lines_ended (begun ++ b ∷ []) before) (begun_by [] before)
    (begun_by (begun ++ b ∷ []) before) later (ended_behind [] before later) (ended_behind (begun ++ b ∷ []) before later)

-- lines behind others ------------------------------------------------------------------------------------

pub now_behind : (m : Manager) (lines later : List ServeLine)
    → (served_all m (lines ++ later)).now ≡ (served_all (served_all m lines).now later).now
now_behind m [] later = refl
now_behind m (line ∷ lines) later = now_behind (served m line).now lines later

lines_behind : (seat : Seat) (lines later : List (List ℕ))
    → (lines_served seat (lines ++ later)).text
    ≡ (lines_served seat lines).text ++ (lines_served (lines_served seat lines).now later).text
lines_behind seat [] later = refl
lines_behind seat (line ∷ lines) later =
    let next = (line_served seat line).now in
    ap (λ text. (line_served seat line).text ++ text) (lines_behind next lines later)
    ∙ sym (append_assoc (line_served seat line).text (lines_served next lines).text
    (lines_served (lines_served next lines).now later).text)

pub earlier_answers_stay : EarlierAnswersStay
earlier_answers_stay seat before later =
    ap (λ lines. (lines_served seat lines).text) (ended_behind [] before later)
    ∙ lines_behind seat (lines_ended [] before) (lines_ended (begun_by [] before) later)

-- lines and their meanings -------------------------------------------------------------------------------

-- the outcome `o` behind the text `text`
abbrev told_behind : List ℕ → Outcome Seat → Outcome Seat
told_behind text o = record { now = o.now; text = text ++ o.text }

obeyed : (m : Manager) (lines : List (List ℕ)) → lines_served (Obeying m) lines ≡ seated Obeying (served_all m (map line_of lines))
unfolding line_served
obeyed m [] = refl
obeyed m (line ∷ lines) = let o = served m (line_of line) in ap (told_behind o.text) (obeyed o.now lines)

decided_so : (a : Acting) (lines : List (List ℕ)) → lines_served (Deciding a) lines ≡ seated Deciding (decided_all a (map manage_line_of lines))
unfolding line_served
decided_so a [] = refl
decided_so a (line ∷ lines) = let o = decided a (manage_line_of line) in ap (told_behind o.text) (decided_so o.now lines)

pub lines_are_served : LinesAreServed
lines_are_served = record { obeying = obeyed; deciding = decided_so }
