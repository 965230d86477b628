-- A run of a schedule: its inputs are the text that the rule takes, the topology and the schedule. They are read in
-- this order and then judged.
use Rattle.std.specs.Prelude.{◌≡◌, ◌⊎◌, ◌+◌, ℕ, Bool, true, List, [], ◌∷◌, Option, Some, None, Result, Ok, Err, IsTrue, if◌then◌else◌, false}
use Rattle.std.specs.Str.{is_utf8}
use Rattle.byte_io.specs.Source.{SourceState}
use Rattle.record_file.specs.Whole.{IsReadWhole, FailsToRead}
use Rattle.record_file.specs.declared.file_fault.FileFault.{FileFault}
use Rattle.topo_file.specs.FirstFault.{first_line_fault}
use Rattle.topo_file.specs.Reading.{topology_of}
use Rattle.topo_file.specs.Topology.{Layout, has_switch}
use Rattle.topo_file.specs.declared.topo_fault.TopoFault.{TopoFault}
use Rattle.topo_file.specs.declared.topo_fault.TopoFault.TheVariants as topologies
use Rattle.topo_file.specs.declared.node.Node.{Node}
use Rattle.text_words.specs.Text.{lines}
use Rattle.schedule_file.specs.FirstFault.{IsSoundOrCrowded}
use Rattle.schedule_file.specs.Schedule.{IsScript, Script, schedule_of}
use Rattle.schedule_file.specs.declared.schedule_fault.ScheduleFault.{ScheduleFault}
use Rattle.schedule_file.specs.declared.schedule_fault.ScheduleFault.TheVariants as schedules
use Rattle.lft_blocks.specs.Rule.{RuleValue}
use Rattle.sm_cli.specs.Inputs.{AreInputs, IsInputFault, Reader, WithInputs}
use Rattle.sm_cli.specs.TextFault.{is_of_text}
use Rattle.sm_cli.specs.declared.asked.RuleAsked.{RuleAsked}
use Rattle.sm_cli.specs.declared.fault.Fault.{Fault}
use Rattle.sm_cli.specs.declared.fault.Fault.TheVariants.{File, Text, Write, Memory}
use Rattle.sm_cli.specs.declared.text_fault.TextFault.TheVariants.{NotUtf8, Topology, Schedule}
use Rattle.schedule_run.specs.declared.texts.Setting.{Setting}
use Rattle.schedule_run.specs.RunText.{run_text}
use Rattle.schedule_lines.specs.declared.run_fault.RunFault.{RunFault}
use Rattle.schedule_lines.specs.declared.run_fault.RunFault.TheVariants as runs

-- judging ---------------------------------------------------------------------------------------

-- the fault of the schedule at `input`, given the result of parsing it; None if the schedule has no fault
abbrev pub fault_of_script : ℕ → Result Script ScheduleFault → Option Fault
fault_of_script input (Ok script) = None
fault_of_script input (Err fault) = Some (Text input (Schedule fault))

-- the fault of the text of the schedule at `input`, for a fabric with `nodes`; None if the text has no fault
abbrev pub schedule_fault : ℕ → List Node → List ℕ → Option Fault
schedule_fault input nodes text =
    if is_utf8 text then fault_of_script input (schedule_of nodes text) else Some (Text input NotUtf8)

-- the fault of the topology at `input`, given the result of parsing it. If the topology has no fault, it is the fault
-- of the schedule at the next input, or None if the schedule has no fault
abbrev pub fault_behind : ℕ → Result Layout TopoFault → List ℕ → Option Fault
fault_behind input (Ok layout) schedule = schedule_fault (input + 1) layout.nodes schedule
fault_behind input (Err fault) schedule = Some (Text input (Topology fault))

-- the first fault of the texts of a topology at `input` and of a schedule at the next input; None if there is none
abbrev pub input_fault : ℕ → List ℕ → List ℕ → Option Fault
input_fault input topology schedule =
    if is_utf8 topology then fault_behind input (topology_of topology) schedule else Some (Text input NotUtf8)

-- the bytes are UTF-8 and describe the topology `layout`
pub record TellsTopology (text : List ℕ) (layout : Layout) : Type 0 where
  pub utf8 : is_utf8 text ≡ true
  pub told : topology_of text ≡ Ok layout

-- the texts are refused for a fault of one of them, the input `first` or `first` + 1; unless memory ran out, the fault
-- is `found`
abbrev pub IsRefused : ℕ → Option Fault → Fault → Type 0
IsRefused first found (Text input fault) =
    ((input ≡ first) ⊎ (input ≡ first + 1)) × (is_of_text fault ≡ true → found ≡ Some (Text input fault))
IsRefused first found fault = ⊥

-- if a topology is refused for lack of memory, none of its lines has a fault, except perhaps a fault of a link's peer
-- or ports
abbrev pub HidesLinksAlone : List ℕ → Fault → Type 0
HidesLinksAlone topology (Text input (Topology topologies.Memory)) = first_line_fault topology ≡ None
HidesLinksAlone topology _ = Unit {0}

-- if a schedule is refused for lack of memory, its lines have no fault; or, up to some line, they have no fault and add
-- more than 64 managers
abbrev pub HidesBelowManagers : List Node → List ℕ → Fault → Type 0
HidesBelowManagers nodes schedule (Text input (Schedule schedules.Memory)) = IsSoundOrCrowded nodes (lines schedule)
HidesBelowManagers nodes schedule _ = Unit {0}

-- the text of a schedule, the input after the topology at `first`, is refused for `fault`: its first fault, or lack of
-- memory while it was judged
pub record RefusesScript (first : ℕ) (nodes : List Node) (text : List ℕ) (fault : Fault) : Type 0 where
  pub refused : IsRefused first (schedule_fault (first + 1) nodes text) fault
  pub hides : HidesBelowManagers nodes text fault
  pub no_topology : (topology : List ℕ) → HidesLinksAlone topology fault

-- the texts of a topology and a schedule are refused for `fault`: the first fault of the two, or lack of memory while
-- they were judged
pub record RefusesTexts (first : ℕ) (topology schedule : List ℕ) (fault : Fault) : Type 0 where
  pub refused : IsRefused first (input_fault first topology schedule) fault
  pub hides : HidesLinksAlone topology fault
  pub hides_in_schedule : (layout : Layout) → TellsTopology topology layout
      → HidesBelowManagers layout.nodes schedule fault

-- reading ---------------------------------------------------------------------------------------

-- there are two sources: that of a topology and that of a schedule
pub record AreTexts {S : Type 0} (sources : List S) : Type 0 where
  pub topology : S
  pub schedule : S
  pub are : sources ≡ topology ∷ schedule ∷ []

-- both sources were read to their ends, and `topology` and `schedule` are their bytes
pub record AreRead {S : Type 0} (state : S → SourceState) (old new : S) (old' new' : S)
    (topology schedule : List ℕ) : Type 0 where
  pub topology_read : IsReadWhole state old new topology
  pub schedule_read : IsReadWhole state old' new' schedule

-- reading the topology, the input `first`, fails with `fault`, and the schedule was not touched
pub record FailsAtTopology {S : Type 0} (state : S → SourceState) (first : ℕ) (old new old' new' : S)
    (input : ℕ) (fault : FileFault) : Type 0 where
  pub is_first : input ≡ first
  pub fails : FailsToRead state old new fault
  pub untouched : new' ≡ old'

-- the topology, the input `first`, was read, and reading the schedule, the next input, fails with `fault`
pub record FailsAtSchedule {S : Type 0} (state : S → SourceState) (first : ℕ) (old new old' new' : S)
    (input : ℕ) (fault : FileFault) : Type 0 where
  pub is_second : input ≡ first + 1
  pub topology : List ℕ
  pub read : IsReadWhole state old new topology
  pub fails : FailsToRead state old' new' fault

-- reading the topology, the input `first`, fails with the given fault of the run; or the topology was read, and
-- reading the schedule fails with this fault
abbrev pub FailsToReadThem : {S : Type 0} → (S → SourceState) → ℕ → S → S → S → S → Fault
    → Type 0
FailsToReadThem state first old new old' new' (File input fault) =
    FailsAtTopology state first old new old' new' input fault
    ⊎ FailsAtSchedule state first old new old' new' input fault
FailsToReadThem state first old new old' new' fault = ⊥

-- the texts describe the topology `layout` and the schedule `script` for it
pub record Tells (topology schedule : List ℕ) (layout : Layout) (script : Script) : Type 0 where
  pub topology_told : TellsTopology topology layout
  pub schedule_told : schedule_of layout.nodes schedule ≡ Ok script

-- both sources were read to their ends, and `setting` is what they describe
pub record DescribeSetting {S : Type 0} (state : S → SourceState) (olds news : List S) (setting : Setting) : Type 0 where
  pub were : AreTexts olds
  pub are : AreTexts news
  pub topology : List ℕ
  pub schedule : List ℕ
  pub read : AreRead state were.topology are.topology were.schedule are.schedule topology schedule
  pub tells : Tells topology schedule setting.topology setting.schedule
  pub is_script : IsScript setting.topology.nodes setting.schedule

-- both sources were read to their ends, and their texts are refused for `fault`
pub record AreRefused {S : Type 0} (state : S → SourceState) (first : ℕ) (old new old' new' : S)
    (fault : Fault) : Type 0 where
  pub topology : List ℕ
  pub schedule : List ℕ
  pub read : AreRead state old new old' new' topology schedule
  pub refuses : RefusesTexts first topology schedule fault

-- reading one of the two sources fails with `fault`, or their texts are refused for `fault`
abbrev pub IsTextsFault : {S : Type 0} → (S → SourceState) → ℕ → S → S → S → S → Fault
    → Type 0
IsTextsFault state first old new old' new' fault =
    FailsToReadThem state first old new old' new' fault
    ⊎ AreRefused state first old new old' new' fault

-- there are two sources: a topology, the input `first`, and a schedule. Reading one of them fails with `fault`, or
-- their texts are refused for `fault`
pub record AreNotTold {S : Type 0} (state : S → SourceState) (first : ℕ) (olds news : List S)
    (fault : Fault) : Type 0 where
  pub were : AreTexts olds
  pub are : AreTexts news
  pub why : IsTextsFault state first were.topology are.topology were.schedule are.schedule fault

-- running ---------------------------------------------------------------------------------------

-- the reader of a topology and a schedule, which knows the switches of the topology
abbrev pub texts_reader : {S : Type 0} → (S → SourceState) → Reader S Setting
texts_reader state = record {
  reads = DescribeSetting state;
  refuses = AreNotTold state;
  has_switch = λ setting. has_switch setting.topology.nodes;
}

-- the inputs were read: the text that the rule takes, the topology and the schedule. The text of the run of the
-- schedule, with managers that plan under `lmc` and by the rule, is printed, as `prints` says
pub record HasRun {S : Type 0} (state : S → SourceState) (lmc : ℕ) (asked : RuleAsked) (olds news : List S)
    (prints : List ℕ → Type 0) : Type 0 where
  pub rule : RuleValue
  pub setting : Setting
  pub inputs : AreInputs state (texts_reader state) asked olds news rule setting
  pub printed : prints (run_text (record { lmc = lmc; rule = rule; multicast = false }) inputs.read.others_are.topology
      inputs.read.others_are.schedule)

-- the source of the topology when the run began
abbrev pub topology_source : {S : Type 0} {state : S → SourceState} {lmc : ℕ} {asked : RuleAsked} {olds news : List S}
    {prints : List ℕ → Type 0} → HasRun state lmc asked olds news prints → S
topology_source run = run.inputs.read.others_are.were.topology

-- the source of the schedule when the run began
abbrev pub schedule_source : {S : Type 0} {state : S → SourceState} {lmc : ℕ} {asked : RuleAsked} {olds news : List S}
    {prints : List ℕ → Type 0} → HasRun state lmc asked olds news prints → S
schedule_source run = run.inputs.read.others_are.were.schedule

-- faults ----------------------------------------------------------------------------------------

-- the fault of a run as a fault of the program
abbrev pub fault_of_run : RunFault → Fault
fault_of_run runs.Write = Write
fault_of_run runs.Memory = Memory

-- the inputs were read, and a run ends early with a fault: a write failed, or memory ran out. If memory ran out,
-- `prints` says how much of the whole run's text is printed
abbrev pub StopsEarly : {S : Type 0} → (S → SourceState) → ℕ → RuleAsked → List S → List S
    → (List ℕ → Type 0) → Bool → Fault → Type 0
StopsEarly state lmc asked olds news prints sink_failed Write =
    WithInputs state (texts_reader state) asked olds news (λ rule setting. IsTrue sink_failed)
StopsEarly state lmc asked olds news prints sink_failed Memory =
    HasRun state lmc asked olds news prints
StopsEarly state lmc asked olds news prints sink_failed fault = ⊥

-- a run on open inputs ends with `fault`: the inputs are not read, or are refused, or the run ends early
abbrev pub IsRunFault : {S : Type 0} → (S → SourceState) → ℕ → RuleAsked → List S → List S
    → (List ℕ → Type 0) → Bool
    → Fault → Type 0
IsRunFault state lmc asked olds news prints sink_failed fault =
    IsInputFault state (texts_reader state) asked olds news fault
    ⊎ StopsEarly state lmc asked olds news prints sink_failed fault
