-- The names of a manager's faults, and which of them is lack of memory.
use Rattle.std.specs.Prelude.{ℕ, Bool, true, false, List, codes}
use Rattle.sweep.specs.declared.fault.SweepFault.{SweepFault}
use Rattle.sweep.specs.declared.fault.SweepFault.TheVariants as sweep
use Rattle.sweep.specs.Fault.{sweep_fault_name}
use Rattle.sm_manager.specs.declared.fault.ManagerFault.{ManagerFault}
use Rattle.sm_manager.specs.declared.fault.ManagerFault.TheVariants as manager

-- the name of a manager's fault; for `Sweep`, the name of the sweep's fault
abbrev pub manager_fault_name : ManagerFault → List ℕ
manager_fault_name manager.GenerationsSpent = codes "GenerationsSpent"
manager_fault_name manager.SweepRunning = codes "SweepRunning"
manager_fault_name manager.NotMaster = codes "NotMaster"
manager_fault_name manager.WritingRunning = codes "WritingRunning"
manager_fault_name manager.NotStandby = codes "NotStandby"
manager_fault_name manager.Nobody = codes "Nobody"
manager_fault_name manager.SequenceSpent = codes "SequenceSpent"
manager_fault_name (manager.NoRoom why) = codes "NoRoom"
manager_fault_name (manager.Sweep fault) = sweep_fault_name fault
manager_fault_name manager.Unasked = codes "Unasked"
manager_fault_name manager.Memory = codes "Memory"

-- whether the fault is lack of memory
abbrev pub is_memory : ManagerFault → Bool
is_memory manager.Memory = true
is_memory _ = false

-- the manager's fault for a fault of its sweep: `Memory` for lack of memory, else `Sweep` with that fault
abbrev pub refusal_of : SweepFault → ManagerFault
refusal_of sweep.Memory = manager.Memory
refusal_of given = manager.Sweep given
