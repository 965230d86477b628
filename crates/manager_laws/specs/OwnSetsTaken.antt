-- The agents take a manager's own Sets of LIDs, masks, tops and blocks. So once each of these was answered, the plan is
-- written, and pings arrive. InfiniBand Architecture Specification, Volume 1: subnet management, PortInfo, SwitchInfo
-- and LinearForwardingTable; initialization.
use Rattle.std.specs.Prelude.{◌≡◌, ℕ, true, false, List, filter, Contains, Some}
use Rattle.std.specs.List.{list_any}
use Rattle.fabric_model.specs.declared.cable.NodePort.{NodePort}
use Rattle.smp_bytes.specs.Header.{set, done}
use Rattle.smp_bytes.specs.Field.{number_in}
use Rattle.smp_bytes.specs.Packet.{method, status}
use Rattle.node_agents.specs.Agent.{Agent}
use Rattle.node_agents.specs.Answers.{after_answer}
use Rattle.node_agents.specs.AnswerLaws.{IsPacket}
use Rattle.fabric_sim.specs.Simulation.{agent_at, fabric_of}
use Rattle.sm_manager.specs.declared.pending.Pending.{Pending}
use Rattle.sm_manager.specs.Manager.{Manager, Writing}
use Rattle.sm_manager.specs.ManagerRequests.{counts, none_counts}
use Rattle.sm_manager.specs.Writing.{is_written, phases_by}
use Rattle.manager_laws.specs.Managing.{Managing, ManagerEvent, AllAlong, TimeOut}
use Rattle.manager_laws.specs.Sets.{IsOwnSet, OwnSets}
use Rattle.manager_laws.specs.WritingPings.{PlannedPingsArrive, SomeManagerBringsUp, WritesItsSweep, WritesWholeSweep}
use Rattle.manager_laws.specs.Written.{at_end, at_first_steps, at_writing}

-- own Sets are taken ------------------------------------------------------------------------------

-- the Sets of the steps that the manager of `w` writes and that count (LIDs, masks, blocks and tops), from the seat and
-- in the fabric of `start`
abbrev pub counted_sets : Managing → Managing → OwnSets
counted_sets start w =
    IsOwnSet (fabric_of start.scene.fabric) start.seat
    (filter (λ p. p.counts) (phases_by w.manager w.manager.sweep))

-- if a manager writes the plan of one sweep (`WritesItsSweep`), the agent at the end of the path of each step that
-- counts takes the step's Set, whenever after the writing began the Set arrives there: the answer has status 0
abbrev pub OwnSetsAreTaken : Type 0
OwnSetsAreTaken =
    (w : Managing) (before between after : List ManagerEvent) (at : NodePort) (a : Agent) (packet : List ℕ)
    → WritesItsSweep w before between after
    → agent_at (at_end w before between after).scene.fabric at.node ≡ Some a
    → IsPacket packet
    → number_in method packet ≡ set
    → counted_sets w (at_writing w before between) at packet
    → status (after_answer a packet at.port).packet ≡ done

-- once each was answered --------------------------------------------------------------------------

-- the event is no timeout of a step that counts
abbrev pub GivesUpNone : Managing → ManagerEvent → Type 0
GivesUpNone w (TimeOut transaction) =
    (p : Pending) → Contains w.manager.pending p → p.number ≡ transaction → counts p ≡ false
GivesUpNone w event = Unit {0}

-- none of the events is a timeout of a step that counts
abbrev pub GiveUpNone : List ManagerEvent → Managing → Type 0
GiveUpNone = AllAlong GivesUpNone

-- no step that counts is outstanding, and none is still to be sent
pub record AreCountedOver (m : Manager) : Type 0 where
  pub none_waits : none_counts m.pending ≡ true
  pub none_to_come : (writing : Writing) → m.writing ≡ Some writing → list_any (λ p. p.counts) writing.later ≡ false

-- each Set of the writing that counts was answered, whatever the answer says: in the end none is outstanding or still
-- to be sent, and none timed out
pub record AreAnswered (w : Managing) (before between after : List ManagerEvent) : Type 0 where
  pub none_given_up : GiveUpNone after (at_first_steps w before between)
  pub over : AreCountedOver (at_end w before between after).manager

-- if a manager writes the plan of one sweep (`WritesItsSweep`), and each Set that counts was answered, the plan counts
-- as written
abbrev pub AnsweredPlansAreWritten : Type 0
AnsweredPlansAreWritten =
    (w : Managing) (before between after : List ManagerEvent) → WritesItsSweep w before between after
    → AreAnswered w before between after → is_written (at_end w before between after).manager ≡ true

-- a manager writes the plan of one sweep with every answer (`WritesWholeSweep`), and each Set that counts is answered
pub record IsAnswered (w : Managing) (before between after : List ManagerEvent) : Type 0 where
  pub planned : WritesWholeSweep w before between after
  -- each Set that counts was answered
  pub answered : AreAnswered w before between after

-- if the sweep of a manager and its Sets were answered (`IsAnswered`), each ping from an end port that the seat is
-- joined to, for each LID of the plan, reaches the LID's owner
abbrev pub PingsArriveOnceAnswered : Type 0
PingsArriveOnceAnswered =
    (w : Managing) (before between after : List ManagerEvent) → IsAnswered w before between after
    → PlannedPingsArrive (at_writing w before between) (at_end w before between after).scene.fabric w.seat

-- an example: a new manager that brings a subnet up, and whose Sets that count are answered
pub record SomeSetsAreAnswered : Type 0 where
  pub some : SomeManagerBringsUp
  pub answered : IsAnswered some.run.managing some.run.before some.run.between some.run.after
