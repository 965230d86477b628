-- What a call of a simulated fabric leaves and returns.
use Rattle.std.specs.Prelude.{◌≡◌, Result, Err, IsOk}
use Rattle.fabric_sim.specs.declared.fabric_fault.FabricFault.{FabricFault}
use Rattle.fabric_sim.specs.declared.fabric_fault.FabricFault.TheVariants.{Memory}
use Rattle.fabric_sim.specs.Simulation.{Simulation}

-- the fabric after a call, and the call's result
pub record Called (R : Type 0) : Type 0 where
  pub fabric : Simulation
  pub result : Result R FabricFault

-- a call on the fabric `old` left the fabric and returned the result that `called` has; or it returned `Memory` and
-- left the fabric unchanged, although the result in `called` is not a refusal
abbrev pub ComesTo : {R : Type 0} → Result R FabricFault → Simulation → Simulation → Called R → Type 0
ComesTo (Err Memory) old new called = (new ≡ old) × IsOk called.result
ComesTo result old new called = (new ≡ called.fabric) × (result ≡ called.result)

-- what a call that is refused for `fault` leaves and returns: the fabric `s` unchanged, and the fault
abbrev pub refused : {R : Type 0} → Simulation → FabricFault → Called R
refused s fault = record { fabric = s; result = Err fault }
