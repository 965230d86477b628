-- Writing a plan: its steps are sent phase by phase, each phase once no step of the previous phase is outstanding.
-- InfiniBand Architecture Specification, Volume 1: subnet initialization; linear forwarding tables; port states.
use Rattle.std.specs.Prelude.{ℕ, suc, ◌+◌, ◌^◌, Bool, false, ◌&&◌, ◌||◌, not, List, [], ◌∷◌, ◌++◌}
use Rattle.std.specs.Prelude.{length, drop, nat_lt, ◌==◌, if◌then◌else◌, Option, Some, None}
use Rattle.std.specs.List.{list_any}
use Rattle.fact_store.specs.View.{cells_of}
use Rattle.plan_steps.specs.Plan.{plan_of}
use Rattle.smp_bytes.specs.Header.{done}
use Rattle.plan_steps.specs.declared.step.Step.{Step}
use Rattle.plan_steps.specs.Phase.{Phase, phases_of}
use Rattle.plan_steps.specs.Step.{set_packet}
use Rattle.plan_steps.specs.PlannedTree.{planned_tree}
use Rattle.sweep.specs.Sweep.{Sweep, is_done}
use Rattle.sm_manager.specs.declared.fault.ManagerFault.{ManagerFault}
use Rattle.sm_manager.specs.declared.fault.ManagerFault.TheVariants.{NotMaster, SweepRunning, WritingRunning}
use Rattle.sm_manager.specs.declared.outgoing.Outgoing.{Outgoing}
use Rattle.sm_manager.specs.declared.pending.Pending.{Pending}
use Rattle.sm_manager.specs.declared.pending.Purpose.TheVariants.{Step as IsStep}
use Rattle.sm_manager.specs.Manager.{Manager, Writing}
use Rattle.sm_state.specs.declared.state.SmState.TheVariants.{Master}
use Rattle.sm_state.specs.Standing.{is_in}
use Rattle.sm_manager.specs.ManagerRequests.{counts, how_many, is_step, no_step_waits, none_counts, without_number}

-- sending a phase --------------------------------------------------------------------------------

-- the step `s` as an outstanding request with the number `number`
abbrev pub pending_step : ℕ → Bool → Step → Pending
pending_step number counts s =
    record {
      number = number;
      purpose = IsStep counts;
      attribute = s.attribute;
      modifier = s.modifier;
      path =
          Some s.path;
    }

-- the steps of a phase as outstanding requests, numbered upwards from `number`
abbrev pub numbered : Bool → ℕ → List Step → List Pending
numbered counts number [] = []
numbered counts number (s ∷ steps) = pending_step number counts s ∷ numbered counts (suc number) steps

-- the packets of `steps`, to be sent along the paths of the steps, and numbered upwards from `number`
abbrev pub steps_out : ℕ → List Step → List Outgoing
steps_out number [] = []
steps_out number (s ∷ steps) = record { packet = set_packet number s; to = None } ∷ steps_out (suc number) steps

-- the phases without the empty ones at the front
abbrev pub without_empty_phases : List Phase → List Phase
without_empty_phases [] = []
without_empty_phases (p ∷ phases) = if length p.steps == 0 then without_empty_phases phases else p ∷ phases

-- the first of the phases; a phase without steps if there are no phases
abbrev pub next_phase : List Phase → Phase
next_phase [] = record { counts = false; steps = [] }
next_phase (p ∷ phases) = p

-- the steps of the next phase as outstanding requests, numbered upwards from `number`
abbrev pub next_pending : ℕ → List Phase → List Pending
next_pending number phases = numbered (next_phase phases).counts number (next_phase phases).steps

-- the manager after all steps of the next phase of its writing `w` were queued, which are now outstanding
abbrev pub phase_sent : Manager → Writing → Manager
phase_sent m w =
    record m {
      writing = Some (record w { later = without_empty_phases (drop 1 w.later) });
      counter = m.counter + length (next_phase w.later).steps;
      pending = m.pending ++ next_pending m.counter w.later;
      outgoing = m.outgoing ++ steps_out m.counter (next_phase w.later).steps;
    }

-- the manager after the next phase of the given writing was queued; unchanged if the writing is None, or if a step is
-- outstanding
abbrev pub went_on_with : Manager → Option Writing → Manager
went_on_with m None = m
went_on_with m (Some w) = if no_step_waits m.pending then phase_sent m w else m

-- the manager after the next phase of its writing was queued; unchanged if the manager has no writing, or if a step
-- is outstanding
abbrev pub went_on : Manager → Manager
went_on m = went_on_with m m.writing

-- whether `counter` is above 2^32, so that a number that does not fit in 32 bits was used
abbrev pub is_spent : Manager → Bool
is_spent m = nat_lt (2 ^ 32) m.counter

-- beginning a writing -----------------------------------------------------------------------------

-- why the manager does not write, given its last sweep: there is no sweep or the manager is not master, the sweep
-- runs, or a step of a writing is outstanding; None if the manager may write
abbrev pub write_fault_with : Manager → Option Sweep → Option ManagerFault
write_fault_with m None = Some NotMaster
write_fault_with m (Some s) =
    if not (is_in Master m.standing) then Some NotMaster
    else if not (is_done s) then Some SweepRunning
    else if not (no_step_waits m.pending) then Some WritingRunning
    else None

-- why the manager does not write: it is not master or has begun no sweep, its last sweep runs, or a step of a writing
-- is outstanding; None if the manager may write
abbrev pub write_fault : Manager → Option ManagerFault
write_fault m = write_fault_with m m.sweep

-- the phases of the plan of the manager's facts, and of the multicast tree if the manager writes one, along the paths of
-- the given sweep; none if there is no sweep
abbrev pub phases_by : Manager → Option Sweep → List Phase
phases_by m None = []
phases_by m (Some s) =
    phases_of (plan_of m.planning.rule m.planning.lmc (cells_of m.store)) (planned_tree m.planning (cells_of m.store))
    (cells_of m.store) s m.standing.guid m.port

-- the manager after a writing of these phases has begun; the first phase with steps, if there is one, is queued
abbrev pub begun_with : Manager → List Phase → Manager
begun_with m phases = phase_sent m (record { later = without_empty_phases phases; has_failed = false })

-- the manager after a writing of its plan has begun; the first phase with steps, if there is one, is queued
abbrev pub after_write_steps : Manager → Manager
after_write_steps m = begun_with m (phases_by m m.sweep)

-- a plan is written ----------------------------------------------------------------------------------

-- whether there is a writing, and none of its steps that count (`counts`) has failed, is outstanding or is still to
-- be sent
abbrev pub is_written_by : List Pending → Option Writing → Bool
is_written_by pending None = false
is_written_by pending (Some w) =
    not w.has_failed && (not (list_any (λ p. p.counts) w.later) && none_counts pending)

-- whether the plan of the last writing is written: a writing has begun, and each of its steps that count (`counts`)
-- was answered with status 0
abbrev pub is_written : Manager → Bool
is_written m = is_written_by m.pending m.writing

-- a step is over --------------------------------------------------------------------------------------

-- the writing, marked as failed if a step that counts was not done; None if there is no writing
abbrev pub noted : Bool → Bool → Option Writing → Option Writing
noted counts was_done None = None
noted counts was_done (Some w) = Some (record w { has_failed = w.has_failed || (counts && not was_done) })

-- the manager after the request `p` was removed from the outstanding ones
abbrev pub without : Manager → Pending → Manager
without m p = record m { pending = without_number p.number m.pending }

-- whether the status of an answer says that a step was done; false for a timeout, which is None
abbrev pub is_done_by : Option ℕ → Bool
is_done_by None = false
is_done_by (Some status) = status == done

-- the manager after the step `p` has ended, done or not as `was_done` says. If no other step is outstanding, the next
-- phase is queued
abbrev pub after_step : Manager → Pending → Bool → Manager
after_step m p was_done =
    went_on (record m { pending = without_number p.number m.pending; writing = noted (counts p) was_done m.writing })

-- how many steps are sent when an outstanding step ends: the steps of the next phase if no other step is outstanding;
-- 0 if another step is outstanding, or if there is no writing
abbrev pub count_with : List Pending → Option Writing → ℕ
count_with pending None = 0
count_with pending (Some w) = if nat_lt 1 (how_many is_step pending) then 0 else length (next_phase w.later).steps

-- how many steps the manager sends when an outstanding step ends
abbrev pub count_after : Manager → ℕ
count_after m = count_with m.pending m.writing
