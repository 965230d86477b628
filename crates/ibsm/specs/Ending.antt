-- How a task on files ends: what was done, or its exit status and the line on standard error that gives the reason.
use Rattle.std.specs.Prelude.{◌≡◌, ◌≢◌, ◌⊎◌, ◌≤◌, ◌+◌, Bool, true, false, List, [], ℕ, Option, Some, None, Result, map, slice_get}
use Rattle.std.specs.Borrow.{Bor}
use Rattle.byte_io.specs.Source.{SourceState}
use Rattle.clap.specs.declared.error.kind.ErrorKind.{ErrorKind}
use Rattle.clap.specs.declared.error.kind.ErrorKind.TheVariants.{DisplayHelp, DisplayVersion}
use Rattle.clap.specs.declared.parser.matches.ArgMatches.{ArgMatches}
use Rattle.sm_cli.specs.Asked.{rule_for, texts_for, texts_if}
use Rattle.sm_cli.specs.ExitStatus.{status_of}
use Rattle.sm_cli.specs.FaultLine.{fault_text, program_line}
use Rattle.sm_cli.specs.Run.{HasAnswered, IsFaultOf}
use Rattle.sm_cli.specs.declared.exit_status.ExitStatus.{ExitStatus}
use Rattle.sm_cli.specs.declared.exit_status.ExitStatus.TheVariants.{Done, Failed, InputOutput}
use Rattle.sm_cli.specs.declared.fault.Fault.{Fault}
use Rattle.sm_cli.specs.declared.fault.Fault.TheVariants.{Open, File, Text, NoRoom, Write, Memory}
use Rattle.audit_run.specs.AuditRun.{HasAudited, IsAuditFault}
use Rattle.next_run.specs.NextRun.{HasStepped, IsStepFault, texts_before}
use Rattle.next_run.specs.OrderRun.{HasPrintedOrder, IsOrderFault}
use Rattle.record_file.specs.declared.file_fault.FileFault.TheVariants.{Read}
use Rattle.schedule_run.specs.Run.{HasRun, IsRunFault}
use Rattle.serve_task.specs.RunServe.{HasServedLines, IsServeFault}
use Rattle.serve_task.specs.declared.seating.Seating.{Seating}
use Rattle.serve_task.specs.declared.seating.Seating.TheVariants.{Obeying, Deciding}
use Rattle.cli_task.specs.Task.{task_asked}
use Rattle.cli_task.specs.InputNames.{names_asked}
use Rattle.ibsm.specs.declared.opener.OpenFault.{OpenFault}
use Rattle.cli_task.specs.declared.managing.Managing.{Managing}
use Rattle.cli_task.specs.declared.task.Task.{Task}
use Rattle.cli_task.specs.declared.task.Task.TheVariants.{Answer, OrderOfTables, Audit, Next, Run, Serve, Manage}
use Rattle.ibsm.specs.Opening.{AreOpened, IsOpenFault}

-- what is done ----------------------------------------------------------------------------------

-- `count` names are enough for the texts that a task takes; for a run and for serving a manager, there is no further
-- name
abbrev pub HasEnoughNames : Task → ℕ → Type 0
HasEnoughNames (Answer request) count = texts_for (rule_for request.output) ≤ count
HasEnoughNames OrderOfTables count = 1 ≤ count
HasEnoughNames (Audit asked) count = texts_if asked.lanes + 1 ≤ count
HasEnoughNames (Next asked) count = texts_before asked + 1 ≤ count
HasEnoughNames (Run lmc rule) count = count ≡ texts_for rule + 2
HasEnoughNames (Serve asked) count = count ≡ texts_for asked.rule + 1
HasEnoughNames (Manage asked) count = count ≡ texts_for asked.serving.rule + 1

-- the manager that is asked for decides by itself, as it is paced
abbrev pub deciding : Managing → Seating
deciding asked = Deciding asked.timing asked.limits asked.newest

-- the task was done with open inputs. Its output is printed, as `prints` says, and a step (`Next`) writes to standard
-- error, as `says` says. `passed` says whether what the task judges passes, and is true if the task judges nothing
abbrev pub Does : {S : Type 0} → (S → SourceState) → Task → List S → List S → (List ℕ → Type 0)
    → (List ℕ → Type 0) → Bool → Type 0
Does state (Answer request) olds news prints says passed =
    (passed ≡ true) × HasAnswered state request olds news prints
Does state OrderOfTables olds news prints says passed =
    HasPrintedOrder state olds news prints passed
Does state (Audit asked) olds news prints says passed =
    HasAudited state asked olds news prints passed
Does state (Next asked) olds news prints says passed =
    HasStepped state asked olds news prints says passed
Does state (Run lmc rule) olds news prints says passed =
    (passed ≡ true) × HasRun state lmc rule olds news prints
Does state (Serve asked) olds news prints says passed =
    (passed ≡ true) × HasServedLines state asked Obeying olds news prints
Does state (Manage asked) olds news prints says passed =
    (passed ≡ true) × HasServedLines state asked.serving (deciding asked) olds news prints

-- unless the task is a step (`Next`), which may write to standard error, standard error is as it was before the task
abbrev pub StaysSilent : {E : Type 0} → Task → E → E → Type 0
StaysSilent (Next asked) errors errors' = Unit {0}
StaysSilent task errors errors' = errors' ≡ errors

-- the files `names` were opened, and the task was done with them (`Does`)
pub record Performs {S : Type 0} (answers : List ℕ → Result S OpenFault → Type 0) (state : S → SourceState)
    (task : Task) (names : List (Bor (List ℕ))) (prints says : List ℕ → Type 0) (passed : Bool) : Type 0 where
  pub olds : List S
  pub news : List S
  pub opened : AreOpened answers names olds
  pub does : Does state task olds news prints says passed

-- the words ask for a task and name its inputs
pub record AsksWhole (matches : ArgMatches) : Type 0 where
  pub task : Task
  pub is_asked : task_asked matches ≡ Some task
  pub names : List (Bor (List ℕ))
  pub named : names_asked matches task ≡ Some (map (λ name. name.now) names)

-- the words ask for a task and name its inputs, and the task was done with these (`Performs`)
pub record PerformsWords {S : Type 0} (answers : List ℕ → Result S OpenFault → Type 0) (state : S → SourceState)
    (matches : ArgMatches) (prints says : List ℕ → Type 0) (passed : Bool) : Type 0 where
  pub asked : AsksWhole matches
  pub performed : Performs answers state asked.task asked.names prints says passed

-- the exit status of a task that is done: `Done`, or `Failed` if what it judged does not pass
abbrev pub status_after : Bool → ExitStatus
status_after true = Done
status_after false = Failed

-- the status is that of a task that is done, whether or not it passes
abbrev pub IsDone : ExitStatus → Type 0
IsDone status = (passed : Bool) × (status ≡ status_after passed)

-- what the parser of words found is a fault of the words, and not a request for help or for the version
abbrev pub IsFaultOfWords : ErrorKind → Type 0
IsFaultOfWords kind = (kind ≢ DisplayHelp) × (kind ≢ DisplayVersion)

-- the status of a run that was asked for help or for the version: it was printed, or the output took no more
abbrev pub IsShownOrNot : ExitStatus → Type 0
IsShownOrNot status = (status ≡ Done) ⊎ (status ≡ InputOutput)

-- faults ----------------------------------------------------------------------------------------

-- a task on open inputs ends early with `fault`. If memory ran out in a run or while a manager was served, `prints`
-- says how much of the output is printed. If no more lines could be read, the answers to the lines that were read are
-- printed, as `whole` says
abbrev pub IsFaultOver : {S : Type 0} → (S → SourceState) → Task → List S → List S
    → (List ℕ → Type 0) → (List ℕ → Type 0) → Bool → Fault → Type 0
IsFaultOver state (Answer request) olds news prints whole output_failed fault =
    IsFaultOf state request olds news output_failed fault
IsFaultOver state OrderOfTables olds news prints whole output_failed fault =
    IsOrderFault state olds news output_failed fault
IsFaultOver state (Audit asked) olds news prints whole output_failed fault =
    IsAuditFault state asked.lanes olds news output_failed fault
IsFaultOver state (Next asked) olds news prints whole output_failed fault =
    IsStepFault state asked olds news output_failed fault
IsFaultOver state (Run lmc rule) olds news prints whole output_failed fault =
    IsRunFault state lmc rule olds news prints output_failed fault
IsFaultOver state (Serve asked) olds news prints whole output_failed fault =
    IsServeFault state asked Obeying olds news prints whole output_failed fault
IsFaultOver state (Manage asked) olds news prints whole output_failed fault =
    IsServeFault state asked.serving (deciding asked) olds news prints whole output_failed fault

-- the files `names` were opened, and the task on these files ends with `fault`
pub record FailsOverFiles {S : Type 0} (answers : List ℕ → Result S OpenFault → Type 0) (state : S → SourceState)
    (task : Task) (names : List (Bor (List ℕ))) (prints whole : List ℕ → Type 0) (output_failed : Bool)
    (fault : Fault) : Type 0 where
  pub olds : List S
  pub news : List S
  pub opened : AreOpened answers names olds
  pub fails : IsFaultOver state task olds news prints whole output_failed fault

-- a task ends with `fault`: a file does not open, or the task on the files ends early
abbrev pub IsTaskFault : {S : Type 0} → (List ℕ → Result S OpenFault → Type 0) → (S → SourceState) → Task
    → List (Bor (List ℕ)) → (List ℕ → Type 0) → (List ℕ → Type 0) → Bool → Fault → Type 0
IsTaskFault answers state task names prints whole output_failed fault =
    IsOpenFault answers names fault
    ⊎ FailsOverFiles answers state task names prints whole output_failed fault

-- `fault` may occur after a part of the output was printed. A run of a schedule may lack memory then; serving a manager
-- may lack memory, or fail to read more lines. Each other task prints only once it is done
abbrev pub StopsAsItGoes : Task → Fault → Type 0
StopsAsItGoes (Run lmc rule) fault = fault ≡ Memory
StopsAsItGoes (Serve asked) fault = (fault ≡ Memory) ⊎ (fault ≡ File (texts_for asked.rule) Read)
StopsAsItGoes (Manage asked) fault = (fault ≡ Memory) ⊎ (fault ≡ File (texts_for asked.serving.rule) Read)
StopsAsItGoes task fault = ⊥

-- a task that ends with `fault` leaves the output unchanged (`stays`), unless a write failed or a part was already
-- printed
abbrev pub KeepsOutput : Task → Type 0 → Fault → Type 0
KeepsOutput task stays fault = (fault ≡ Write) ⊎ (StopsAsItGoes task fault ⊎ stays)

-- the name of a file; empty for None
abbrev pub name_at : Option (Bor (List ℕ)) → List ℕ
name_at None = []
name_at (Some name) = name.now

-- if a fault concerns one of the files `names`, the name of that file; otherwise empty
abbrev pub name_of : List (Bor (List ℕ)) → Fault → List ℕ
name_of names (Open input) = name_at (slice_get names input)
name_of names (File input fault) = name_at (slice_get names input)
name_of names (Text input fault) = name_at (slice_get names input)
name_of names (NoRoom why) = []
name_of names Write = []
name_of names Memory = []

-- the line that the program writes for a fault of a run on the files `names`
abbrev pub fault_line : List (Bor (List ℕ)) → Fault → List ℕ
fault_line names fault = program_line (fault_text (name_of names fault) fault)

-- a task on the files `names` has a fault: the task ends with the fault's status, and the fault's line is written, as
-- `says` says. The output is unchanged (`stays`), unless a write failed or a part was already printed
pub record SaysWhy (task : Task) (names : List (Bor (List ℕ))) (IsFault : Fault → Type 0) (stays : Type 0)
    (status : ExitStatus) (says : List ℕ → Type 0) : Type 0 where
  pub fault : Fault
  pub why : IsFault fault
  pub kept : KeepsOutput task stays fault
  pub ends : status ≡ status_of fault
  pub said : says (fault_line names fault)

-- the words ask for a task and name its inputs, and the task on these inputs has a fault: the task ends with the
-- fault's status, and the fault's line is written, as `says` says. The output is unchanged (`stays`), unless a write
-- failed or a part was already printed
pub record SaysWhyOfWords {S : Type 0} (answers : List ℕ → Result S OpenFault → Type 0) (state : S → SourceState)
    (matches : ArgMatches) (prints whole : List ℕ → Type 0) (output_failed : Bool) (stays : Type 0)
    (status : ExitStatus) (says : List ℕ → Type 0) : Type 0 where
  pub asked : AsksWhole matches
  pub why : SaysWhy asked.task asked.names
      (IsTaskFault answers state asked.task asked.names prints whole output_failed) stays status says
