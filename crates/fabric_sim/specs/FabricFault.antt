-- The names of faults of a simulated fabric.
use Rattle.std.specs.Prelude.{ℕ, List, codes}
use Rattle.fabric_sim.specs.declared.fabric_fault.FabricFault.{FabricFault}
use Rattle.fabric_sim.specs.declared.fabric_fault.FabricFault.TheVariants.{NoSuchPacket, NoSuchPort, PortTaken, Memory, SerialsSpent}

-- the name of the fault of a call on a simulated fabric
abbrev pub fabric_fault_name : FabricFault → List ℕ
fabric_fault_name NoSuchPacket = codes "NoSuchPacket"
fabric_fault_name NoSuchPort = codes "NoSuchPort"
fabric_fault_name PortTaken = codes "PortTaken"
fabric_fault_name Memory = codes "Memory"
fabric_fault_name SerialsSpent = codes "SerialsSpent"
