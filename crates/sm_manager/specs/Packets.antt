-- What a manager does with a packet that reaches its port, and with a timeout. InfiniBand Architecture Specification,
-- Volume 1: subnet management methods; directed route SMPs.
use Rattle.std.specs.Prelude.{◌≡◌, ℕ, ◌^◌, Bool, true, false, ◌&&◌, not, List, find, nat_le, ◌==◌, if◌then◌else◌}
use Rattle.std.specs.Prelude.{Option, Some, None, is_some, IsSome, option_map, Result, Ok, Err}
use Rattle.smp_bytes.specs.Answers as smp
use Rattle.smp_bytes.specs.Header.{get_resp, sm_info}
use Rattle.smp_bytes.specs.Field.{number_in}
use Rattle.smp_bytes.specs.Packet.{fault_of, method, status, transaction_id, attribute_id, is_directed, is_lid_routed}
use Rattle.smp_bytes.specs.Packet.{is_response}
use Rattle.smp_bytes.specs.declared.header.Status.{Status}
use Rattle.smp_bytes.specs.declared.smp_fault.SmpFault.{SmpFault}
use Rattle.fact_store.specs.Merge.{merge}
use Rattle.fact_store.specs.View.{view}
use Rattle.reply_facts.specs.declared.report_fault.ReportFault.TheVariants.{Smp}
use Rattle.sweep.specs.declared.answer.Answer.{Answer}
use Rattle.sweep.specs.declared.fault.SweepFault.{SweepFault}
use Rattle.sweep.specs.declared.fault.SweepFault.TheVariants.{Bad}
use Rattle.sweep.specs.Replies.{judged, after_reply, sightings_by}
use Rattle.sweep.specs.Sweep.{Sweep, after_timeout as sweep_after_timeout, timeout_fault}
use Rattle.sm_manager.specs.declared.fault.ManagerFault.{ManagerFault}
use Rattle.sm_manager.specs.declared.fault.ManagerFault.TheVariants as fault
use Rattle.sm_manager.specs.declared.pending.Pending.{Pending}
use Rattle.sm_manager.specs.declared.pending.Purpose.{Purpose}
use Rattle.sm_manager.specs.declared.traps.Trap.{Trap}
use Rattle.sm_manager.specs.declared.pending.Purpose.TheVariants.{Poll, Control, Step}
use Rattle.sm_state.specs.declared.standing.Standing.{Standing}
use Rattle.sm_manager.specs.Manager.{Manager, with_sweep, after_sweep}
use Rattle.sm_manager.specs.ManagerRequests.{with_number}
use Rattle.sm_manager.specs.NotedManagers.{with_seen}
use Rattle.sm_manager.specs.SmInfoAnswers.{served}
use Rattle.sm_manager.specs.Traps.{represses, repressing, trap_in}
use Rattle.sm_state.specs.Standing.{poll_answered, poll_lost}
use Rattle.sm_manager.specs.Writing.{is_done_by, is_spent, after_step, without}
use Rattle.sm_manager.specs.Election.{is_relieved, after_control_end}

-- the outcome of a call: the manager afterwards, and why the call was refused; None if the call was not refused
pub record Called : Type 0 where
  pub manager : Manager
  pub fault : Option ManagerFault

-- the outcome of a call on the manager `m` that is refused for `why`, and changes nothing
abbrev pub refused : Manager → ManagerFault → Called
refused m why = record { manager = m; fault = Some why }

-- the outcome of a call that is not refused, and leaves the manager `m`
abbrev pub done : Manager → Called
done m = record { manager = m; fault = None }

-- packets -------------------------------------------------------------------------------------

-- the manager after its sweep `s` took the reply `packet`. The facts in `answer` are merged, a manager in `answer` is
-- added to those seen, and the requests that follow are queued. If the sweep is then done, the manager's state moves
abbrev pub with_answer : Manager → Sweep → List ℕ → Answer → Manager
with_answer m s packet answer =
    after_sweep (with_sweep (record m {
      store = merge m.store (view (sightings_by answer));
      seen =
          with_seen answer m.seen;
    }) (after_reply s packet))

-- the outcome of a reply to the sweep `s`, given the answer in the reply or why the sweep refuses the reply
abbrev pub answered_by : Manager → Sweep → List ℕ → Result Answer SweepFault → Called
answered_by m s packet (Ok answer) = done (with_answer m s packet answer)
answered_by m s packet (Err why) = refused m (fault.Sweep why)

-- the outcome of the reply `packet` to the given sweep; `Unasked` if there is no sweep
abbrev pub sweep_answered : Manager → List ℕ → Option Sweep → Called
sweep_answered m packet None = refused m fault.Unasked
sweep_answered m packet (Some s) = answered_by m s packet (judged s packet)

-- whether `packet` is a GetResp along a directed route, and its TransactionID is 2^32 or more, as for the requests of
-- sweeps
abbrev pub is_for_sweep : List ℕ → Bool
is_for_sweep packet =
    number_in method packet == get_resp && (is_directed packet && nat_le (2 ^ 32) (number_in transaction_id packet))

-- whether `packet` is a GetResp that answers the request `p`
abbrev pub answers : List ℕ → Pending → Bool
answers packet p = number_in method packet == get_resp && smp.answers packet p.number p.attribute p.modifier p.path

-- the outstanding request outside sweeps that `packet` answers; None if `packet` answers none
abbrev pub pending_for : Manager → List ℕ → Option Pending
pending_for m packet = find (answers packet) m.pending

-- the outcome of a call on the manager `m` that would leave the manager `after`. If `after` has used a number that
-- does not fit in 32 bits, the call is refused with `SequenceSpent`, and leaves `m`
abbrev pub unless_spent : Manager → Manager → Called
unless_spent m after = if is_spent after then refused m fault.SequenceSpent else done after

-- the standing `s` after the end of a poll: the poll was answered if the flag is set, else lost
abbrev pub after_poll_end : Bool → Standing → Standing
after_poll_end true s = poll_answered s
after_poll_end false s = poll_lost s

-- the number of the given status; None if there is none
abbrev pub status_number : Option Status → Option ℕ
status_number status = option_map (λ s. s.0) status

-- the outcome of the end of the request `p`; `answer` is the status of the answer to `p`, or None if `p` timed out.
-- After a step, the next phase is queued if no other step is outstanding; the outcome is `SequenceSpent` if this
-- takes numbers that do not fit in 32 bits
abbrev pub after_request : Manager → Pending → Option ℕ → Purpose → Called
after_request m p answer Poll = done (record (without m p) { standing = after_poll_end (is_some answer) m.standing })
after_request m p answer Control =
    done (record (without m p) { standing = after_control_end (is_relieved m.standing p answer) m.standing })
after_request m p answer (Step counts) = unless_spent m (after_step m p (is_done_by answer))

-- the outcome of an answer to the given request outside sweeps; `Unasked` if there is no request
abbrev pub request_answered : Manager → List ℕ → Option Pending → Called
request_answered m packet None = refused m fault.Unasked
request_answered m packet (Some p) = after_request m p (Some (status packet)) p.purpose

-- requests of other managers --------------------------------------------------------------------

-- if the bytes are a packet by LIDs, the LID `from` of its sender is known
abbrev pub HasSender : List ℕ → Option ℕ → Type 0
HasSender packet from = fault_of packet ≡ None → is_lid_routed packet ≡ true → IsSome from

-- whether `packet` has the attribute SMInfo and is not a response
abbrev pub is_info_request : List ℕ → Bool
is_info_request packet = not (is_response packet) && number_in attribute_id packet == sm_info

-- the outcome of the bytes `packet`, which reach the manager's port. The given fault is the one that the bytes have
-- as a packet; bytes with a fault are refused. A request for SMInfo is served, a trap is repressed if `represses`
-- holds, and a reply to a sweep is left to the sweep. Any other packet is refused as `Unasked` if it answers no
-- outstanding request
abbrev pub packet_taken : Manager → List ℕ → Option ℕ → Option SmpFault → Called
packet_taken m packet from (Some why) = refused m (fault.Sweep (Bad (Smp why)))
packet_taken m packet from None =
    if is_info_request packet then unless_spent m (served m packet from)
    else if represses m packet then done (repressing m packet from)
    else if is_for_sweep packet then sweep_answered m packet m.sweep
    else request_answered m packet (pending_for m packet)

-- the outcome of bytes that reach the manager's port, from the LID `from`
abbrev pub after_packet : Manager → List ℕ → Option ℕ → Called
after_packet m packet from = packet_taken m packet from (fault_of packet)

-- the content of `packet` if it is a trap that the manager represses, else None
abbrev pub noted_trap : Manager → List ℕ → Option Trap
noted_trap m packet = if not (is_info_request packet) && represses m packet then Some (trap_in packet) else None

-- timeouts --------------------------------------------------------------------------------------

-- the outcome of the timeout of a request of the sweep `s`, given the fault that the sweep finds, if any; `Unasked`
-- if there is a fault
abbrev pub sweep_timed_out : Manager → Sweep → ℕ → Option SweepFault → Called
sweep_timed_out m s transaction (Some why) = refused m fault.Unasked
sweep_timed_out m s transaction None =
    done (after_sweep (record m { sweep = Some (sweep_after_timeout s transaction) }))

-- the outcome of the timeout of a request of the last sweep; `Unasked` if there is no sweep, or if no such request is
-- outstanding
abbrev pub sweep_gave_up : Manager → ℕ → Option Sweep → Called
sweep_gave_up m transaction None = refused m fault.Unasked
sweep_gave_up m transaction (Some s) = sweep_timed_out m s transaction (timeout_fault s transaction)

-- the outcome of the timeout of the given request outside sweeps; `Unasked` if no request is given
abbrev pub request_gave_up : Manager → Option Pending → Called
request_gave_up m None = refused m fault.Unasked
request_gave_up m (Some p) = after_request m p None p.purpose

-- the outcome of the timeout of the request with the TransactionID `transaction`, which is 2^32 or more for a request
-- of a sweep
abbrev pub after_timeout : Manager → ℕ → Called
after_timeout m transaction =
    if nat_le (2 ^ 32) transaction then sweep_gave_up m transaction m.sweep
    else request_gave_up m (with_number transaction m.pending)

-- `given` is the fault for a reply to the sweep when there is no memory for the requests that may follow: `Memory` if
-- the sweep accepts the reply, else the sweep's refusal
abbrev pub IsFaultWithoutRoom : Result Answer SweepFault → ManagerFault → Type 0
IsFaultWithoutRoom (Ok answer) given = given ≡ fault.Memory
IsFaultWithoutRoom (Err why) given = given ≡ fault.Sweep why
