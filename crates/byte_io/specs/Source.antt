-- What a source of bytes is, and when a call of it counts as interrupted.
use Rattle.std.specs.Prelude.{ℕ, Bool, List, Option, Result, Ok, Err}
use Rattle.byte_io.specs.declared.source.ReadError.{ReadError}
use Rattle.byte_io.specs.declared.source.ReadError.TheVariants.{Failed, Interrupted}

-- the state of a source: the bytes that it has left, if they are known; whether a call of it has failed; and how many
-- of its calls were interrupted
pub record SourceState : Type 0 where
  pub left : Option (List ℕ)
  pub has_failed : Bool
  pub interruptions : ℕ

-- 1 for a call that was interrupted, otherwise 0
abbrev pub interruption : Result ℕ ReadError → ℕ
interruption (Ok n) = 0
interruption (Err Failed) = 0
interruption (Err Interrupted) = 1
