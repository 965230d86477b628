-- A manager that decides by itself, and is alone, becomes master before long, and stays master. InfiniBand Architecture
-- Specification, Volume 1: subnet management, subnet manager (states, polling).
use Rattle.std.specs.Prelude.{◌≡◌, ◌≤◌, ◌<◌, ◌+◌, ◌*◌, ℕ, List, [], ◌∷◌, ◌++◌}
use Rattle.sm_state.specs.declared.state.SmState.TheVariants.{Master}
use Rattle.sm_policy.specs.PolicyLaws.{longest_wait}
use Rattle.acting_manager.specs.Acting.{Acting}
use Rattle.acting_manager.specs.Working.{pause}
use Rattle.program_laws.specs.Alone.{IsLone}
use Rattle.program_laws.specs.Wakes.{ArePrompt, Line, after_line, after_lines, longest_turn}

-- the manager is master, and so it is after each of the lines
abbrev pub StaysMaster : List Line → Acting → Type 0
StaysMaster [] a = a.manager.standing.state ≡ Master
StaysMaster (line ∷ lines) a = (a.manager.standing.state ≡ Master) × StaysMaster lines (after_line line a)

-- at some moment in the lines the manager is master, and it is from then on
pub record Leads (lines : List Line) (a : Acting) : Type 0 where
  pub first : List Line
  pub later : List Line
  pub are : lines ≡ first ++ later
  pub master : StaysMaster later (after_lines first a)

-- a manager that is alone for so long becomes master (`Leads`), whatever it is about at first. It is told the time at most two
-- seconds late, so that it never stands still
abbrev pub LoneManagersLeadInTime : Type 0
LoneManagersLeadInTime =
    (n : ℕ) (a : Acting) (lines : List Line) (r : IsLone n a lines) (late : ℕ) → late ≤ pause → ArePrompt late lines a
    → a.time + 17 * longest_wait r.decided.timing + (20 * (n + 4)) * longest_turn late a.window.limits < (after_lines lines a).time
    → Leads lines a

-- an example: a manager that is alone for so long, with no line late
pub record SomeLoneManagerLeads : Type 0 where
  pub bound : ℕ
  pub acting : Acting
  pub lines : List Line
  pub lone : IsLone bound acting lines
  pub prompt : ArePrompt 0 lines acting
  pub long : acting.time + 17 * longest_wait lone.decided.timing + (20 * (bound + 4)) * longest_turn 0 acting.window.limits
      < (after_lines lines acting).time
