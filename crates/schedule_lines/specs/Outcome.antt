-- What commands leave, and the lines that they print.
use Rattle.std.specs.Prelude.{ℕ, List, [], ◌++◌}

-- the fabric or the world after commands, and the lines that they printed
pub record Outcome (S : Type 0) : Type 0 where
  pub now : S
  pub text : List ℕ

-- an outcome that leaves `s` and prints nothing
abbrev pub quiet : {S : Type 0} → S → Outcome S
quiet s = record { now = s; text = [] }

-- an outcome that leaves `s` and prints `text`
abbrev pub shows : {S : Type 0} → List ℕ → S → Outcome S
shows text s = record { now = s; text = text }

-- what `outcome` does and prints, and then what `next` does and prints
abbrev pub and_then : {S : Type 0} → Outcome S → (S → Outcome S) → Outcome S
and_then outcome next = record { now = (next outcome.now).now; text = outcome.text ++ (next outcome.now).text }
