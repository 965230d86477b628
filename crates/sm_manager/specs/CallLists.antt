-- The life of a manager: a list of calls, and what they take in.
use Rattle.std.specs.Prelude.{◌≡◌, ℕ, List, [], ◌∷◌, ◌++◌, Option, Some, None, Result, Ok, Err}
use Rattle.std.specs.Prelude.{if◌then◌else◌, is_none, max}
use Rattle.reply_facts.specs.Report.{Sightings}
use Rattle.fact_store.specs.Seen.{HaveSameMembers}
use Rattle.fact_store.specs.View.{view_at, cells_of}
use Rattle.smp_bytes.specs.Packet.{fault_of}
use Rattle.smp_bytes.specs.declared.smp_fault.SmpFault.{SmpFault}
use Rattle.sweep.specs.declared.answer.Answer.{Answer}
use Rattle.sweep.specs.declared.fault.SweepFault.{SweepFault}
use Rattle.sweep.specs.Replies.{judged, sightings_by}
use Rattle.sweep.specs.Sweep.{Sweep}
use Rattle.lid_assign.specs.Lids.{IsNoRoom}
use Rattle.plan_steps.specs.Arrival.{EveryPacketArrives}
use Rattle.plan_steps.specs.Plan.{plan_of}
use Rattle.sm_manager.specs.Manager.{Manager, new_manager, begin_fault, after_begin_sweep}
use Rattle.sm_manager.specs.Manager.{after_raise_floor, after_merge, after_take_outgoing}
use Rattle.sm_manager.specs.Election.{after_handover, handover_fault, poll_fault, after_poll}
use Rattle.sm_manager.specs.Election.{after_rediscover, after_yield, rediscover_fault, yield_fault}
use Rattle.sm_manager.specs.Packets.{after_packet, after_timeout, is_for_sweep, is_info_request}
use Rattle.plan_steps.specs.Planning.{Planning}
use Rattle.sm_state.specs.declared.conduct.Conduct.{Conduct}
use Rattle.sm_manager.specs.Traps.{represses}
use Rattle.sm_manager.specs.PlanFaults.{writing_fault}
use Rattle.sm_manager.specs.Writing.{after_write_steps}

-- a call that may change a manager. `Packet` brings bytes to the manager's port; `from` is the LID of the sender, if
-- this LID is known. `Timeout` times out the request with the TransactionID `transaction`. `Raise` raises the floor
-- of the facts to `floor`. `Merge` merges the view of `sightings` at `floor`. `Poll` polls the manager at the LID
-- `lid` or, if `lid` is None, a manager that the last sweep saw. `Handover` hands over to the successor, `Yield` to the
-- heir; `Rediscover` has a standby discover anew
pub data Call : Type 0 where
  BeginSweep : Call
  WriteSteps : Call
  Take : Call
  Packet : (bytes : List ℕ) → (from : Option ℕ) → Call
  Timeout : (transaction : ℕ) → Call
  Raise : (floor : ℕ) → Call
  Merge : (floor : ℕ) → (sightings : Sightings) → Call
  Poll : (lid : Option ℕ) → Call
  Handover : Call
  Yield : Call
  Rediscover : Call

-- the manager `m` after a call; unchanged if the call is refused. If memory runs out, the call counts as not made
abbrev pub after_call : Manager → Call → Manager
after_call m BeginSweep = if is_none (begin_fault m) then after_begin_sweep m else m
after_call m WriteSteps = if is_none (writing_fault m) then after_write_steps m else m
after_call m Take = (after_take_outgoing m).manager
after_call m (Packet bytes from) = (after_packet m bytes from).manager
after_call m (Timeout transaction) = (after_timeout m transaction).manager
after_call m (Raise floor) = after_raise_floor m floor
after_call m (Merge floor sightings) = after_merge m (view_at floor sightings)
after_call m (Poll lid) = if is_none (poll_fault m lid) then after_poll m lid else m
after_call m Handover = if is_none (handover_fault m) then after_handover m else m
after_call m Yield = if is_none (yield_fault m) then after_yield m else m
after_call m Rediscover = if is_none (rediscover_fault m) then after_rediscover m else m

-- the manager after these calls, one after the other
abbrev pub after_calls : List Call → Manager → Manager
after_calls [] m = m
after_calls (call ∷ calls) m = after_calls calls (after_call m call)

-- what a call takes in --------------------------------------------------------------------------

-- the sightings of an answer; none if the reply was refused
abbrev pub sightings_if : Result Answer SweepFault → Sightings
sightings_if (Ok answer) = sightings_by answer
sightings_if (Err why) = []

-- the sightings of the reply `bytes` to a sweep; none if there is no sweep, or if the sweep refuses the reply
abbrev pub sightings_of_reply : List ℕ → Option Sweep → Sightings
sightings_of_reply bytes None = []
sightings_of_reply bytes (Some s) = sightings_if (judged s bytes)

-- the sightings that `bytes` bring in: those of a reply that the sweep accepts, else none. The given fault is the one
-- that the bytes have as a packet
abbrev pub sightings_of_packet : Manager → List ℕ → Option SmpFault → Sightings
sightings_of_packet m bytes (Some why) = []
sightings_of_packet m bytes None =
    if is_info_request bytes then []
    else if represses m bytes then []
    else if is_for_sweep bytes then sightings_of_reply bytes m.sweep
    else []

-- the sightings that a call brings in: those of a reply that the sweep accepts, or those that are merged; else none
abbrev pub sightings_of_call : Manager → Call → Sightings
sightings_of_call m BeginSweep = []
sightings_of_call m WriteSteps = []
sightings_of_call m Take = []
sightings_of_call m (Packet bytes from) = sightings_of_packet m bytes (fault_of bytes)
sightings_of_call m (Timeout transaction) = []
sightings_of_call m (Raise floor) = []
sightings_of_call m (Merge floor sightings) = sightings
sightings_of_call m (Poll lid) = []
sightings_of_call m Handover = []
sightings_of_call m Yield = []
sightings_of_call m Rediscover = []

-- all sightings that a manager took in by these calls, in turn
abbrev pub taken_in : List Call → Manager → Sightings
taken_in [] m = []
taken_in (call ∷ calls) m = sightings_of_call m call ++ taken_in calls (after_call m call)

-- the floor in a call that raises the floor of the facts or merges a view; 1 for other calls
abbrev pub floor_in : Call → ℕ
floor_in BeginSweep = 1
floor_in WriteSteps = 1
floor_in Take = 1
floor_in (Packet bytes from) = 1
floor_in (Timeout transaction) = 1
floor_in (Raise floor) = floor
floor_in (Merge floor sightings) = floor
floor_in (Poll lid) = 1
floor_in Handover = 1
floor_in Yield = 1
floor_in Rediscover = 1

-- the greatest floor (`floor_in`) of the calls, at least 1
abbrev pub greatest_floor : List Call → ℕ
greatest_floor [] = 1
greatest_floor (call ∷ calls) = max (floor_in call) (greatest_floor calls)

-- the facts of a new manager after any calls are the view of all sightings that it took in, at the greatest floor of
-- these calls
abbrev pub KnowsWhatItTookIn : Type 0
KnowsWhatItTookIn = (port_guid port priority : ℕ) (conduct : Conduct) (planning : Planning) (calls : List Call) →
    (after_calls calls (new_manager port_guid port priority conduct planning)).store
    ≡ view_at (greatest_floor calls) (taken_in calls (new_manager port_guid port priority conduct planning))

-- `one` and `other` have equal sets of facts and equal plans. If every end port finds a LID, every packet arrives
-- under the plan of `one` (`EveryPacketArrives`)
pub record KnowTheSame (one other : Manager) : Type 0 where
  pub facts : one.store ≡ other.store
  pub plan : plan_of one.planning.rule one.planning.lmc (cells_of one.store)
      ≡ plan_of other.planning.rule other.planning.lmc (cells_of other.store)
  pub arrives : ¬ (IsNoRoom one.planning.lmc (cells_of one.store))
      → EveryPacketArrives one.planning.rule (cells_of one.store)
      (plan_of one.planning.rule one.planning.lmc (cells_of one.store))

-- let two managers plan by the same LMC and rule, and let the greatest floors of their calls be equal. If they took
-- in the same sightings, in any order and number, they know the same (`KnowTheSame`)
abbrev pub SameTakenInSamePlan : Type 0
SameTakenInSamePlan =
    (guid port priority guid' port' priority' : ℕ) (conduct conduct' : Conduct) (planning : Planning)
    (calls calls' : List Call) →
    greatest_floor calls ≡ greatest_floor calls' →
    HaveSameMembers (taken_in calls (new_manager guid port priority conduct planning))
    (taken_in calls' (new_manager guid' port' priority' conduct' planning)) →
    KnowTheSame (after_calls calls (new_manager guid port priority conduct planning))
    (after_calls calls' (new_manager guid' port' priority' conduct' planning))
