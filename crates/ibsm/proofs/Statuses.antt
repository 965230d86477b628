-- No fault ends the program as an audit that does not pass, or as words that ask for nothing.
use Rattle.std.proofs.Common.{◌≡◌, ◌∙◌, ◌⊎◌, Bool, true, false, cond, refl, sym, inl, inr, List, ℕ}
use Rattle.std.specs.Borrow.{Bor}
use Rattle.record_file.specs.declared.file_fault.FileFault.{FileFault}
use Rattle.record_file.specs.declared.file_fault.FileFault.TheVariants.{Magic, Truncated, BadReport, BadCell, CellOrder, Read, Memory as NoMemoryForFile, TooLong, BadFloor}
use Rattle.sm_cli.specs.ExitStatus.{file_status, status_of}
use Rattle.sm_cli.specs.TextFault.{is_of_text}
use Rattle.sm_cli.specs.declared.fault.Fault.{Fault}
use Rattle.sm_cli.specs.declared.fault.Fault.TheVariants.{Open, File, Text, NoRoom, Write, Memory}
use Rattle.sm_cli.specs.declared.exit_status.ExitStatus.{ExitStatus}
use Rattle.sm_cli.specs.declared.exit_status.ExitStatus.TheVariants.{Done, Failed, Usage, Refused, InputOutput, Memory as NoMemory}
use Rattle.std.specs.Prelude.{◌≢◌}
use Rattle.ibsm.specs.Ending.{IsDone, SaysWhy, status_after}
use Rattle.cli_task.specs.declared.task.Task.{Task}

-- a status that is none of the three that faults end with
abbrev IsOther : ExitStatus → Type 0
IsOther status = (Refused ≢ status) × (InputOutput ≢ status) × (NoMemory ≢ status)

of_file : (other : ExitStatus) → IsOther other → (fault : FileFault) → file_status fault ≢ other
of_file other is Magic = is.0
of_file other is (Truncated offset) = is.0
of_file other is (BadReport index fault) = is.0
of_file other is (BadCell index) = is.0
of_file other is (CellOrder index) = is.0
of_file other is Read = is.1
of_file other is NoMemoryForFile = is.2
of_file other is TooLong = is.0
of_file other is BadFloor = is.0

of_text : (other : ExitStatus) → IsOther other → (b : Bool) → cond b Refused NoMemory ≢ other
of_text other is true = is.0
of_text other is false = is.2

of_fault : (other : ExitStatus) → IsOther other → (fault : Fault) → status_of fault ≢ other
of_fault other is (Open input) = is.1
of_fault other is (File input fault) = of_file other is fault
of_fault other is (Text input fault) = of_text other is (is_of_text fault)
of_fault other is (NoRoom why) = is.0
of_fault other is Write = is.1
of_fault other is Memory = is.2

pub never_failed : (fault : Fault) → status_of fault ≢ Failed
never_failed fault = of_fault Failed (λ e. cc, λ e. cc, λ e. cc) fault

pub never_usage : (fault : Fault) → status_of fault ≢ Usage
never_usage fault = of_fault Usage (λ e. cc, λ e. cc, λ e. cc) fault

pub never_done : (fault : Fault) → status_of fault ≢ Done
never_done fault = of_fault Done (λ e. cc, λ e. cc, λ e. cc) fault

-- whether all passes is read off the status
pub same_answer : (passed other : Bool) → status_after passed ≡ status_after other → passed ≡ other
same_answer true true e = refl
same_answer true false e = absurd (cc)
same_answer false true e = absurd (cc)
same_answer false false e = refl

-- and no fault ends so
pub never_after : (fault : Fault) (passed : Bool) → status_of fault ≡ status_after passed → ⊥
never_after fault true e = never_done fault e
never_after fault false e = never_failed fault e

done_is_other : (passed : Bool) → status_after passed ≡ Usage → ⊥
done_is_other true e = cc
done_is_other false e = cc

-- so a task that was begun does not end as words that ask for nothing
pub not_usage : (task : Task) (names : List (Bor (List ℕ))) (IsFault : Fault → Type 0) (stays : Type 0) (status : ExitStatus)
    (says : List ℕ → Type 0) → IsDone status ⊎ SaysWhy task names IsFault stays status says → status ≡ Usage → ⊥
not_usage task names IsFault stays status says (inl done) e = done_is_other done.0 (sym done.1 ∙ e)
not_usage task names IsFault stays status says (inr why) e = never_usage why.fault (sym why.ends ∙ e)
