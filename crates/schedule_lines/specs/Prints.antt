-- How much a run prints if it fails before the end of its schedule.
use Rattle.std.specs.Prelude.{ℕ, Bool, true, false, List, Option, Result}
use Rattle.byte_io.specs.Prints.{PrintsUpTo}
use Rattle.schedule_lines.specs.declared.run_fault.RunFault.{RunFault}
use Rattle.schedule_lines.specs.declared.run_fault.RunFault.TheVariants.{Write, Memory}

-- whether a write failed
abbrev pub is_write : RunFault → Bool
is_write Write = true
is_write Memory = false

-- what a call prints, given its result: `text` if the call succeeds, and a prefix of `text` if the call fails for
-- lack of memory. If a write failed, the output has failed, and what was printed is unspecified
abbrev pub PrintsUnless : {W T : Type 0} → (W → Option (List ℕ)) → (W → Bool) → Result T RunFault → W → W → List ℕ
    → Type 0
PrintsUnless {T = T} = PrintsUpTo {T = T} is_write
