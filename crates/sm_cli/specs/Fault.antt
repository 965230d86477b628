-- The faults of the crates below, as faults of a run, and the faults of an output.
use Rattle.std.specs.Prelude.{Bool, IsTrue}
use Rattle.lid_assign.specs.declared.lid_fault.LidFault.{LidFault}
use Rattle.lid_assign.specs.declared.lid_fault.LidFault.TheVariants as lids
use Rattle.sm_cli.specs.declared.fault.Fault.{Fault}
use Rattle.sm_cli.specs.declared.fault.Fault.TheVariants.{NoRoom, Memory, Write}

-- the fault of assigning LIDs as a fault of a run
abbrev pub fault_of_lids : LidFault → Fault
fault_of_lids (lids.NoRoom why) = NoRoom why
fault_of_lids lids.Memory = Memory

-- writing an output ends with a fault: a write failed, or memory ran out
abbrev pub IsOutputFault : Bool → Fault → Type 0
IsOutputFault sink_failed Write = IsTrue sink_failed
IsOutputFault sink_failed Memory = Unit {0}
IsOutputFault sink_failed fault = ⊥
