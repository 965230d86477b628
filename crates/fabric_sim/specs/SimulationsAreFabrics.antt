-- What packets see of a simulation is a fabric.
use Rattle.fabric_model.specs.Fabric.{IsFabric}
use Rattle.fabric_sim.specs.Simulation.{Simulation, IsSimulation, fabric_of}

-- what packets see of a simulation is a fabric: its nodes have 1 to 254 ports, and each cable leads back from its other
-- end
abbrev pub SimulationsAreFabrics : Type 0
SimulationsAreFabrics = (s : Simulation) → IsSimulation s → IsFabric (fabric_of s)
