-- The names of a sweep's faults, and which of them is lack of memory.
use Rattle.std.specs.Prelude.{ℕ, Bool, true, false, List, codes}
use Rattle.reply_facts.specs.ReportFault.{report_fault_name}
use Rattle.sweep.specs.declared.fault.SweepFault.{SweepFault}
use Rattle.sweep.specs.declared.fault.SweepFault.TheVariants.{NotOutstanding, Bad, SequenceSpent, Memory}

-- the name of a sweep's fault; for `Bad`, the name of the fault of the report
abbrev pub sweep_fault_name : SweepFault → List ℕ
sweep_fault_name NotOutstanding = codes "NotOutstanding"
sweep_fault_name (Bad fault) = report_fault_name fault
sweep_fault_name SequenceSpent = codes "SequenceSpent"
sweep_fault_name Memory = codes "Memory"

-- whether the fault is lack of memory
abbrev pub is_memory : SweepFault → Bool
is_memory Memory = true
is_memory _ = false
