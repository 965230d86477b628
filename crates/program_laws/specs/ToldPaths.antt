-- The path that a manager that decides by itself tells a host at its seat: packets along it arrive there, and back.
-- InfiniBand Architecture Specification, Volume 1: subnet administration, PathRecord; switches, unicast forwarding by the
-- linear forwarding table.
use Rattle.std.specs.Prelude.{◌≡◌, ℕ, true, List, Some}
use Rattle.fabric_sim.specs.Simulation.{fabric_of}
use Rattle.subnet_view.specs.declared.end_port.EndPort.{EndPort}
use Rattle.sweep.specs.Sweep.{Sweep}
use Rattle.sa_bytes.specs.declared.path_record.PathRecord.{PathRecord}
use Rattle.sa_answers.specs.AnsweredRequests.{AsksForPath, IsAnswered}
use Rattle.sa_answers.specs.PathLaws.{PathHeld}
use Rattle.sa_answers.specs.Reply.{reply_to}
use Rattle.sa_answers.specs.Told.{Told}
use Rattle.sa_answers.specs.declared.reply.Reply.TheVariants.{Path}
use Rattle.acting_manager.specs.Administration.{told_of}
use Rattle.manager_laws.specs.Complete.{IsWhole}
use Rattle.program_laws.specs.AnsweredPings.{WritesManaged}
use Rattle.program_laws.specs.Deciding.{Deciding, DecidingEvent}
use Rattle.program_laws.specs.ManagedPings.{managed_at_end, managed_at_writing}

-- a new manager that decides by itself, and is strict, begins its last writing by the event `begins`. In the end it tells
-- hosts of `told`: so it is master, its plan is written and stands, and no sweep runs. Its last sweep, perhaps a later one
-- than that before the writing, has every answer
pub record TellsManaged (d : Deciding) (before : List DecidingEvent) (begins : DecidingEvent) (after : List DecidingEvent)
    (told : Told) : Type 0 where
  pub writes : WritesManaged d before begins after
  pub strict : (managed_at_writing d before begins).acting.policy.timing.is_strict ≡ true
  pub tells : told_of (managed_at_end d before begins after).acting ≡ Some told
  pub sweep : Sweep
  pub is_last : (managed_at_end d before begins after).acting.manager.sweep ≡ Some sweep
  pub whole : IsWhole sweep

-- then the fabric holds each path that the manager tells (`PathHeld`): packets arrive there and back
abbrev pub ToldPathsArrive : Type 0
ToldPathsArrive =
    (d : Deciding) (before : List DecidingEvent) (begins : DecidingEvent) (after : List DecidingEvent) (told : Told)
    → TellsManaged d before begins after told
    → (request : List ℕ) (path : PathRecord) → reply_to told request ≡ Path path
    → PathHeld told (fabric_of (managed_at_end d before begins after).scene.fabric) path

-- and each request for the path between two end ports of the plan is answered with that path, if it suits the request
abbrev pub PathsAreToldAtSeats : Type 0
PathsAreToldAtSeats =
    (d : Deciding) (before : List DecidingEvent) (begins : DecidingEvent) (after : List DecidingEvent) (told : Told)
    → TellsManaged d before begins after told
    → (request : List ℕ) (source target : EndPort) (slid dlid : ℕ) → AsksForPath told request source slid target dlid
    → IsAnswered told (fabric_of (managed_at_end d before begins after).scene.fabric) request source slid target dlid

-- an example: a manager that tells a host a path, in answer to a request
pub record SomePathIsToldAtASeat : Type 0 where
  pub deciding : Deciding
  pub before : List DecidingEvent
  pub begins : DecidingEvent
  pub after : List DecidingEvent
  pub told : Told
  pub tells : TellsManaged deciding before begins after told
  pub request : List ℕ
  pub path : PathRecord
  pub replies : reply_to told request ≡ Path path
