-- Serving a manager by lines. The text that the manager's rule takes is read first, and then the lines.
use Rattle.std.specs.Prelude.{◌≡◌, ◌⊎◌, ℕ, Bool, true, List, [], ◌∷◌, ◌++◌}
use Rattle.byte_io.specs.Source.{SourceState}
use Rattle.record_file.specs.declared.file_fault.FileFault.TheVariants as files
use Rattle.lft_blocks.specs.Rule.{RuleValue}
use Rattle.sm_cli.specs.Asked.{texts_for}
use Rattle.sm_cli.specs.Inputs.{AreInputs, IsInputFault, Reader}
use Rattle.sm_cli.specs.declared.fault.Fault.{Fault}
use Rattle.sm_cli.specs.declared.fault.Fault.TheVariants.{File, Write, Memory}
use Rattle.sm_state.specs.declared.conduct.Conduct.TheVariants.{Live}
use Rattle.sm_manager.specs.Manager.{Manager, new_manager}
use Rattle.serve_run.specs.Seat.{Seat}
use Rattle.serve_run.specs.Server.{HasServed, StopsServing}
use Rattle.serve_run.specs.declared.serve_fault.ServeFault.{ServeFault}
use Rattle.serve_run.specs.declared.serve_fault.ServeFault.TheVariants as stop
use Rattle.sm_cli.specs.declared.serving.Serving.{Serving}
use Rattle.serve_task.specs.Seating.{seat_for}
use Rattle.serve_task.specs.declared.seating.Seating.{Seating}

-- the reader of no inputs, which says of any GUID that it is that of a usable switch
abbrev pub no_files : {S : Type 0} → Reader S (Unit {0})
no_files = record { reads = λ olds news told. news ≡ olds; refuses = λ before olds news fault. ⊥; has_switch = λ told guid. true }

-- the inputs: the text that a rule takes, if the rule takes one, and the lines
pub record Inputs {S : Type 0} (inputs : List S) : Type 0 where
  pub texts : List S
  pub lines : S
  pub are : inputs ≡ texts ++ lines ∷ []

-- the manager that is asked for, with the live conduct, before its first line
abbrev pub manager_asked : Serving → RuleValue → Manager
manager_asked asked rule =
    new_manager asked.guid asked.port asked.priority (Live asked.sm_key) (record { lmc = asked.lmc; rule = rule; multicast = asked.multicast })

-- the text that the rule takes was read, if the rule takes one. `holds` relates the source of the lines, before and
-- after, and the manager that is asked for, which is served as `seating` says
pub record WithManager {S : Type 0} (state : S → SourceState) (asked : Serving) (seating : Seating) (olds news : List S)
    (holds : S → S → Seat → Type 0) : Type 0 where
  pub were : Inputs olds
  pub are : Inputs news
  pub rule : RuleValue
  pub read : AreInputs state no_files asked.rule were.texts are.texts rule tt
  pub so : holds were.lines are.lines (seat_for seating (manager_asked asked rule))

-- the text that the rule takes was read, if the rule takes one, and the manager was served to the end of the lines;
-- the answers are printed, as `prints` says
abbrev pub HasServedLines : {S : Type 0} → (S → SourceState) → Serving → Seating → List S → List S → (List ℕ → Type 0)
    → Type 0
HasServedLines state asked seating olds news prints =
    WithManager state asked seating olds news (λ old new seat. HasServed state old new seat prints)

-- the text that the rule takes is not read, or is refused, and `fault` says why; the lines were not touched
pub record RefusesTexts {S : Type 0} (state : S → SourceState) (asked : Serving) (olds news : List S)
    (fault : Fault) : Type 0 where
  pub were : Inputs olds
  pub are : Inputs news
  pub why : IsInputFault state no_files asked.rule were.texts are.texts fault
  pub untouched : are.lines ≡ were.lines

-- the fault of serving as a fault of the program; `lines` is the input that the lines come from
abbrev pub fault_of_serving : ℕ → ServeFault → Fault
fault_of_serving lines stop.Read = File lines files.Read
fault_of_serving lines stop.Write = Write
fault_of_serving lines stop.Memory = Memory

-- serving the manager `seat` stopped with `fault`; what was printed is as `some` or `whole` says (`StopsServing`)
pub record StopsEarly {S : Type 0} (state : S → SourceState) (lines : ℕ) (old new : S) (seat : Seat)
    (some whole : List ℕ → Type 0) (sink_failed : Bool) (fault : Fault) : Type 0 where
  pub stopped : ServeFault
  pub is : fault ≡ fault_of_serving lines stopped
  pub why : StopsServing state old new seat some whole sink_failed stopped

-- serving a manager ends with `fault` before the end of its lines: the text that the manager's rule takes is not read
-- or is refused, or serving stopped
abbrev pub IsServeFault : {S : Type 0} → (S → SourceState) → Serving → Seating → List S → List S → (List ℕ → Type 0)
    → (List ℕ → Type 0) → Bool → Fault → Type 0
IsServeFault state asked seating olds news some whole sink_failed fault =
    RefusesTexts state asked olds news fault
    ⊎ WithManager state asked seating olds news
    (λ old new seat. StopsEarly state (texts_for asked.rule) old new seat some whole sink_failed fault)
