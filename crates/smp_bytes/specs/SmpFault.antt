-- The names of a packet's faults.
use Rattle.std.specs.Prelude.{ℕ, List, codes}
use Rattle.smp_bytes.specs.declared.smp_fault.SmpFault.{SmpFault}
use Rattle.smp_bytes.specs.declared.smp_fault.SmpFault.TheVariants.{BaseVersion, Class, ClassVersion, HopCount, HopPointer, DrLid}

-- the name of a packet's fault
abbrev pub smp_fault_name : SmpFault → List ℕ
smp_fault_name BaseVersion = codes "BaseVersion"
smp_fault_name Class = codes "Class"
smp_fault_name ClassVersion = codes "ClassVersion"
smp_fault_name HopCount = codes "HopCount"
smp_fault_name HopPointer = codes "HopPointer"
smp_fault_name DrLid = codes "DrLid"
