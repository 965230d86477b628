-- Which steps of a writing were answered with status 0, call by call. A plan is written when all steps that count
-- were.
use Rattle.std.specs.Prelude.{◌≡◌, ◌≢◌, ◌↔◌, ℕ, ◌+◌, Bool, true, false, ◌&&◌, List, [], ◌∷◌, length}
use Rattle.std.specs.Prelude.{◌==◌, if◌then◌else◌, Option, Some, None, is_none}
use Rattle.smp_bytes.specs.Header.{done}
use Rattle.smp_bytes.specs.Packet.{fault_of, status}
use Rattle.smp_bytes.specs.declared.smp_fault.SmpFault.{SmpFault}
use Rattle.plan_steps.specs.Phase.{Phase}
use Rattle.sm_manager.specs.declared.pending.Pending.{Pending}
use Rattle.sm_manager.specs.CallLists.{Call, BeginSweep, WriteSteps, Take, Packet, Timeout, Raise}
use Rattle.sm_manager.specs.CallLists.{Merge, Poll, Handover, Yield, Rediscover, after_call}
use Rattle.sm_manager.specs.CallLists.{after_calls}
use Rattle.sm_manager.specs.Manager.{Manager, new_manager}
use Rattle.sm_manager.specs.Packets.{is_for_sweep, is_info_request, pending_for, request_answered}
use Rattle.plan_steps.specs.Planning.{Planning}
use Rattle.sm_state.specs.declared.conduct.Conduct.{Conduct}
use Rattle.sm_manager.specs.PlanFaults.{writing_fault}
use Rattle.sm_manager.specs.ManagerRequests.{counts}
use Rattle.sm_manager.specs.Traps.{represses}
use Rattle.sm_manager.specs.Writing.{is_written, phases_by, after_write_steps}

-- whether `packet`, as the answer to the given request, completes a step that counts: the request is such a step
-- (`counts`), the status of the packet is 0, and the manager accepts the packet; false if there is no request
abbrev pub does_request : Manager → List ℕ → Option Pending → Bool
does_request m packet None = false
does_request m packet (Some p) =
    counts p && (status packet == done && is_none (request_answered m packet (Some p)).fault)

-- whether the bytes `packet` complete a step that counts (`counts`). The given fault is the one that the bytes have
-- as a packet; false if there is one
abbrev pub does_by_packet : Manager → List ℕ → Option SmpFault → Bool
does_by_packet m packet (Some why) = false
does_by_packet m packet None =
    if is_info_request packet then false
    else if represses m packet then false
    else if is_for_sweep packet then false
    else does_request m packet (pending_for m packet)

-- whether a call brings the packet that completes a step that counts (`counts`)
abbrev pub does_step : Manager → Call → Bool
does_step m BeginSweep = false
does_step m WriteSteps = false
does_step m Take = false
does_step m (Packet bytes from) = does_by_packet m bytes (fault_of bytes)
does_step m (Timeout transaction) = false
does_step m (Raise floor) = false
does_step m (Merge floor sightings) = false
does_step m (Poll lid) = false
does_step m Handover = false
does_step m Yield = false
does_step m Rediscover = false

-- 1 if the given flag is true, else 0
abbrev pub one_if : Bool → ℕ
one_if true = 1
one_if false = 0

-- how many of the calls, in turn, bring a packet that completes a step that counts
abbrev pub steps_done : List Call → Manager → ℕ
steps_done [] m = 0
steps_done (call ∷ calls) m = one_if (does_step m call) + steps_done calls (after_call m call)

-- the call begins no writing: it asks for none, or the manager refuses it
abbrev pub BeginsNone : Manager → Call → Type 0
BeginsNone m WriteSteps = writing_fault m ≢ None
BeginsNone m call = Unit {0}

-- none of the calls, in turn, begins a writing
abbrev pub BeginNone : List Call → Manager → Type 0
BeginNone [] m = Unit {0}
BeginNone (call ∷ calls) m = BeginsNone m call × BeginNone calls (after_call m call)

-- the number of steps in the phases that count
abbrev pub counting_in : List Phase → ℕ
counting_in [] = 0
counting_in (p ∷ phases) = (if p.counts then length p.steps else 0) + counting_in phases

-- let a writing begin after any calls on a new manager, and let no other writing follow. Then the writing's plan is
-- written exactly when the later calls completed as many steps that count as the writing has
abbrev pub WrittenIsEachStepDone : Type 0
WrittenIsEachStepDone =
    (port_guid port priority : ℕ) (conduct : Conduct) (planning : Planning) (before after : List Call)
    → writing_fault (after_calls before (new_manager port_guid port priority conduct planning)) ≡ None
    → BeginNone after (after_write_steps (after_calls before (new_manager port_guid port priority conduct planning)))
    → (is_written (after_calls after
    (after_write_steps (after_calls before (new_manager port_guid port priority conduct planning)))) ≡ true)
    ↔ (steps_done after (after_write_steps (after_calls before (new_manager port_guid port priority conduct planning)))
    ≡ counting_in (phases_by (after_calls before (new_manager port_guid port priority conduct planning))
    (after_calls before (new_manager port_guid port priority conduct planning)).sweep))
