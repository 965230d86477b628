-- The names of a report's faults.
use Rattle.std.specs.Prelude.{ℕ, List, codes}
use Rattle.smp_bytes.specs.SmpFault.{smp_fault_name}
use Rattle.reply_facts.specs.declared.report_fault.ReportFault.{ReportFault}
use Rattle.reply_facts.specs.declared.report_fault.ReportFault.TheVariants.{Generation, Smp, Class, Method, Direction, Status, Attribute, Context, Modifier, NodeType, Port}

-- the name of a fault of a report; for a fault of the packet, the name of the packet's fault
abbrev pub report_fault_name : ReportFault → List ℕ
report_fault_name Generation = codes "Generation"
report_fault_name (Smp fault) = smp_fault_name fault
report_fault_name Class = codes "Class"
report_fault_name Method = codes "Method"
report_fault_name Direction = codes "Direction"
report_fault_name Status = codes "Status"
report_fault_name Attribute = codes "Attribute"
report_fault_name Context = codes "Context"
report_fault_name Modifier = codes "Modifier"
report_fault_name NodeType = codes "NodeType"
report_fault_name Port = codes "Port"
