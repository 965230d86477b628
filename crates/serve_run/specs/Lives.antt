-- What a call of the server does: it leaves and prints an outcome, or fails.
use Rattle.std.specs.Prelude.{◌≡◌, ℕ, Bool, List, Option, Result, OnOk}
use Rattle.schedule_lines.specs.Outcome.{Outcome}
use Rattle.schedule_lines.specs.Prints.{PrintsUnless}
use Rattle.schedule_lines.specs.declared.run_fault.RunFault.{RunFault}

-- the call leaves `outcome.now` and prints the text of `outcome`. If the call fails, it may leave anything; a prefix
-- of the text was printed, or the output has failed
pub record Lives {S W : Type 0} (written : W → Option (List ℕ)) (has_failed : W → Bool) (new : S)
    (result : Result (Unit {0}) RunFault) (sink sink' : W) (outcome : Outcome S) : Type 0 where
  pub leaves : OnOk result (new ≡ outcome.now)
  pub prints : PrintsUnless written has_failed result sink sink' outcome.text
