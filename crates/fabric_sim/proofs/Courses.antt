-- Packets on directed routes: which path they have come, and from where; and that each answer with status 0 says what
-- is true of the end of its path.
use Rattle.std.proofs.Common.{◌≡◌, ℕ, List}
use Rattle.fabric_model.specs.declared.cable.NodePort.{NodePort}
use Rattle.smp_bytes.specs.Header.{done}
use Rattle.smp_bytes.specs.Packet.{status}
use Rattle.fabric_sim.specs.declared.flight.Flight.{Flight}
use Rattle.fabric_sim.specs.Simulation.{Simulation, fabric_of}
use Rattle.fabric_sim.specs.ToldOfEnd.{SaysOf}
use Rattle.fabric_sim.proofs.Traced as traced
use Rattle.fabric_sim.proofs.TracedCalls.{AreTraced}

-- of requests nothing is known
abbrev pub AnySends : NodePort → List ℕ → Type 0
AnySends origin request = Unit {0}

-- an answer with status 0 says what is so of the port that it was made at
abbrev pub SaysSo : Simulation → NodePort → NodePort → List ℕ → Type 0
SaysSo start origin end answer = status answer ≡ done → SaysOf (fabric_of start) end answer

abbrev pub IsAnswerFor : Simulation → NodePort → List ℕ → Type 0
IsAnswerFor start at bytes = traced.IsAnswerFor AnySends (SaysSo start) start at bytes

abbrev pub IsOnCourse : Simulation → NodePort → List ℕ → Type 0
IsOnCourse start at bytes = traced.IsOnCourse AnySends (SaysSo start) start at bytes

abbrev pub IsForManager : Simulation → NodePort → List ℕ → Type 0
IsForManager start at bytes = traced.IsForManager AnySends (SaysSo start) start at bytes

abbrev pub AreOnCourse : Simulation → List Flight → Type 0
AreOnCourse start flights = AreTraced AnySends (SaysSo start) start flights
