-- An answer ends at the first of its lines that begins with a dot.
use Rattle.std.specs.Prelude.{◌≡◌, ℕ, Bool, true, false, ◌&&◌, ◌||◌, List, [], ◌∷◌, ◌++◌, ◌==◌}
use Rattle.sm_manager.specs.Manager.{Manager}
use Rattle.serve_lines.specs.declared.serve_line.ServeLine.{ServeLine}
use Rattle.serve_lines.specs.declared.manage_line.ManageLine.{ManageLine}
use Rattle.acting_manager.specs.Acting.{Acting}
use Rattle.serve_run.specs.Decided.{decided}
use Rattle.serve_run.specs.Served.{end_line, served}

-- some line of the text begins with a dot; `start` says whether a line begins at the start of the text
abbrev pub has_dot : Bool → List ℕ → Bool
has_dot start [] = false
has_dot start (b ∷ text) = (start && b == 46) || has_dot (b == 10) text

-- a line begins after the text: the text ends with a line feed, or it is empty and `start` says that a line begins at
-- its start
abbrev pub is_line_end : Bool → List ℕ → Bool
is_line_end start [] = start
is_line_end start (b ∷ text) = is_line_end (b == 10) text

-- `text` is whole lines, none of which begins with a dot, and then the line of a dot
pub record EndsOnce (text : List ℕ) : Type 0 where
  pub said : List ℕ
  pub ends : text ≡ said ++ end_line
  pub no_dot : has_dot true said ≡ false
  pub whole : is_line_end true said ≡ true

-- each answer ends at its first line that begins with a dot. So a reader that reads up to this line has read one answer
-- and no more
pub record AnswersEndOnce : Type 0 where
  pub obeying : (m : Manager) (line : ServeLine) → EndsOnce (served m line).text
  pub deciding : (a : Acting) (line : ManageLine) → EndsOnce (decided a line).text
