-- Answers that come back to a manager along a directed route are true of the end of their path.
use Rattle.std.specs.Prelude.{◌≡◌, true, List, All}
use Rattle.smp_bytes.specs.Packet.{is_directed, is_returning}
use Rattle.fabric_sim.specs.Simulation.{fabric_of}
use Rattle.fabric_sim.specs.ToldOfEnd.{TellsOfEnd}
use Rattle.manager_laws.specs.Scene.{Handed, Scene, Event, CanHappen, IsQuiet, after_events}

-- the packet that was handed up is directed and on its way back
abbrev pub IsBack : Handed → Type 0
IsBack h = (is_directed h.packet.bytes ≡ true) × (is_returning h.packet.bytes ≡ true)

-- after any events that can happen, starting from a quiet scene (`IsQuiet`), each directed packet that was handed up
-- on its way back (`IsBack`) tells of the end of its path (`TellsOfEnd`)
abbrev pub AnswersTell : Type 0
AnswersTell =
    (s : Scene) (events : List Event) → IsQuiet s → All CanHappen events
    → All (λ h. IsBack h → TellsOfEnd (fabric_of s.fabric) h.at h.packet.bytes) (after_events events s).handed
