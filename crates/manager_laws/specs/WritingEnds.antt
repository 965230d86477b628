-- How many Sets a writing asks, and that it ends. InfiniBand Architecture Specification, Volume 1: subnet management,
-- initialization.
use Rattle.std.specs.Prelude.{◌≡◌, ◌↔◌, ◌⊎◌, ℕ, ◌+◌, ◌*◌, ◌≤◌, ◌^◌, Bool, true, List, [], ◌∷◌, ◌++◌, length, drop}
use Rattle.std.specs.Prelude.{filter, Contains, ◌==◌, ◌&&◌, not}
use Rattle.std.specs.Prelude.{Option, Some, None, is_none}
use Rattle.smp_bytes.specs.Field.{number_in}
use Rattle.smp_bytes.specs.Header.{set, sm_info}
use Rattle.smp_bytes.specs.Packet.{attribute_id, is_directed, method}
use Rattle.fact_store.specs.View.{cells_of}
use Rattle.plan_steps.specs.Bound.{most_steps}
use Rattle.plan_steps.specs.Phase.{Phase}
use Rattle.plan_steps.specs.Planning.{Planning}
use Rattle.plan_steps.specs.Step.{set_packet}
use Rattle.plan_steps.specs.declared.step.Step.{Step}
use Rattle.sm_state.specs.declared.conduct.Conduct.{Conduct}
use Rattle.sm_manager.specs.CallLists.{Call, BeginSweep, WriteSteps, Take, Packet, Timeout, Raise, Merge, Poll}
use Rattle.sm_manager.specs.CallLists.{Handover, Yield, Rediscover, after_call, after_calls}
use Rattle.sm_manager.specs.Manager.{Manager, Writing, new_manager}
use Rattle.sm_manager.specs.ManagerRequests.{how_many, is_step, no_step_waits, with_number}
use Rattle.sm_manager.specs.Packets.{answers}
use Rattle.sm_manager.specs.PlanFaults.{writing_fault}
use Rattle.sm_manager.specs.StepsAnswered.{BeginNone}
use Rattle.sm_manager.specs.Writing.{count_after, pending_step, phases_by}
use Rattle.sm_manager.specs.declared.outgoing.Outgoing.{Outgoing}
use Rattle.sm_manager.specs.declared.pending.Pending.{Pending}

-- the manager is what some calls leave of a new one
pub record HasLived (m : Manager) : Type 0 where
  pub port_guid : ℕ
  pub port : ℕ
  pub priority : ℕ
  pub conduct : Conduct
  pub planning : Planning
  pub calls : List Call
  pub are : after_calls calls (new_manager port_guid port priority conduct planning) ≡ m

-- the steps of a writing ----------------------------------------------------------------------------

-- the steps of the phases, in the order in which they are sent
abbrev pub steps_of : List Phase → List Step
steps_of [] = []
steps_of (p ∷ phases) = p.steps ++ steps_of phases

-- the steps of a writing of the manager's plan, along the paths of its last sweep
abbrev pub planned_steps : Manager → List Step
planned_steps m = steps_of (phases_by m m.sweep)

-- the steps of the writing that are still to be sent; none if there is no writing
abbrev pub steps_to_come : Option Writing → List Step
steps_to_come None = []
steps_to_come (Some w) = steps_of w.later

-- a writing is over: none of its steps waits, and none is still to be sent
pub record IsOver (m : Manager) : Type 0 where
  pub none_waits : no_step_waits m.pending ≡ true
  pub none_to_come : steps_to_come m.writing ≡ []

-- asking ----------------------------------------------------------------------------------------------

-- the requests outside sweeps that wait in `one`, and not in `other`
abbrev pub only_in : Manager → Manager → List Pending
only_in one other = filter (λ p. is_none (with_number p.number other.pending)) one.pending

-- the steps that a call asks: they wait after the call, and did not before
abbrev pub asked_by : Manager → Call → List Pending
asked_by m call = filter is_step (only_in (after_call m call) m)

-- the steps that the calls ask, in turn
abbrev pub steps_asked : List Call → Manager → List Pending
steps_asked [] m = []
steps_asked (call ∷ calls) m = asked_by m call ++ steps_asked calls (after_call m call)

-- whether a packet is a Set along a directed route, of another attribute than SMInfo
abbrev pub is_set : List ℕ → Bool
is_set packet =
    number_in method packet == set && (is_directed packet && not (number_in attribute_id packet == sm_info))

-- the packets that are queued in `after` behind as many as are queued in `m`
abbrev pub queued_since : Manager → Manager → List Outgoing
queued_since m after = drop (length m.outgoing) after.outgoing

-- those of them that are Sets along directed routes, of another attribute than SMInfo
abbrev pub sets_since : Manager → Manager → List Outgoing
sets_since m after = filter (λ out. is_set out.packet) (queued_since m after)

-- those that the calls queue, in turn
abbrev pub sets_queued : List Call → Manager → List Outgoing
sets_queued [] m = []
sets_queued (call ∷ calls) m = sets_since m (after_call m call) ++ sets_queued calls (after_call m call)

-- the first of the steps, in turn, are asked by the requests `asked`, and the packets `sets` are their Sets, with the
-- same numbers. These rise from `least` on
abbrev pub AreFirst : ℕ → List Pending → List Outgoing → List Step → Type 0
AreFirst least [] [] steps = Unit {0}
AreFirst least [] (out ∷ sets) steps = ⊥
AreFirst least (p ∷ asked) [] steps = ⊥
AreFirst least (p ∷ asked) (out ∷ sets) [] = ⊥
AreFirst least (p ∷ asked) (out ∷ sets) (s ∷ steps) =
    (counts : Bool) × (p ≡ pending_step p.number counts s)
    × (out ≡ record { packet = set_packet p.number s; to = None })
    × (least ≤ p.number) × AreFirst (p.number + 1) asked sets steps

-- from the beginning of a writing in `m` on, through the calls `after`, at most as many Sets are queued as the plan has
-- steps. They are those of the first of these steps, in turn, each with a number of its own. The writing has seven
-- phases with at most `most_steps` steps each
pub record AsksFew (m : Manager) (after : List Call) : Type 0 where
  pub bound : length (planned_steps m) ≤ 7 * most_steps (cells_of m.store)
  pub few : length (sets_queued (WriteSteps ∷ after) m) ≤ length (planned_steps m)
  pub first : AreFirst m.counter (steps_asked (WriteSteps ∷ after) m) (sets_queued (WriteSteps ∷ after) m)
      (planned_steps m)

-- let a writing begin in the life of a manager, and let no other writing begin after it. Then few Sets are queued
-- (`AsksFew`), whatever else happens
abbrev pub WritingsAskFew : Type 0
WritingsAskFew =
    (m : Manager) (after : List Call) → HasLived m → writing_fault m ≡ None → BeginNone after (after_call m WriteSteps)
    → AsksFew m after

-- ending ----------------------------------------------------------------------------------------------

-- how many steps a call ends: they waited before the call, and do not after it
abbrev pub ended_by : Manager → Call → ℕ
ended_by m call = how_many is_step (only_in m (after_call m call))

-- how many steps the calls end
abbrev pub steps_ended : List Call → Manager → ℕ
steps_ended [] m = 0
steps_ended (call ∷ calls) m = ended_by m call + steps_ended calls (after_call m call)

-- the call brings the answer to the request `p`, or its timeout
abbrev pub IsEndOf : Pending → Call → Type 0
IsEndOf p BeginSweep = ⊥
IsEndOf p WriteSteps = ⊥
IsEndOf p Take = ⊥
IsEndOf p (Packet bytes from) = answers bytes p ≡ true
IsEndOf p (Timeout transaction) = p.number ≡ transaction
IsEndOf p (Raise floor) = ⊥
IsEndOf p (Merge floor sightings) = ⊥
IsEndOf p (Poll lid) = ⊥
IsEndOf p Handover = ⊥
IsEndOf p Yield = ⊥
IsEndOf p Rediscover = ⊥

-- only its answer or its timeout ends a request outside sweeps, and a call ends one at most
abbrev pub AnswersEndRequests : Type 0
AnswersEndRequests =
    (m : Manager) (call : Call) → HasLived m
    → (only_in m (after_call m call) ≡ []) ⊎ ((p : Pending) × (only_in m (after_call m call) ≡ p ∷ []) × IsEndOf p call)

-- some step of a writing waits
abbrev pub SomeWaits : Manager → Type 0
SomeWaits m = (p : Pending) × Contains m.pending p × (is_step p ≡ true)

-- the calls are timeouts
abbrev pub AreTimeouts : List Call → Type 0
AreTimeouts [] = Unit {0}
AreTimeouts (Timeout transaction ∷ calls) = AreTimeouts calls
AreTimeouts (call ∷ calls) = ⊥

-- so many timeouts bring the writing of `m` to its end
pub record CanEndBy (count : ℕ) (m : Manager) : Type 0 where
  pub calls : List Call
  pub timeouts : AreTimeouts calls
  pub are : length calls ≡ count
  pub over : IsOver (after_calls calls m)

-- what is so after a writing has begun in `m`, and the calls `after` were made
pub record Ends (m : Manager) (after : List Call) : Type 0 where
  -- at most as many steps have ended as the plan has
  pub few : steps_ended (WriteSteps ∷ after) m ≤ length (planned_steps m)
  -- the writing is over exactly if so many steps have ended
  pub over : IsOver (after_calls (WriteSteps ∷ after) m)
      ↔ (steps_ended (WriteSteps ∷ after) m ≡ length (planned_steps m))
  -- once it is over, all Sets of the plan have been queued
  pub all : IsOver (after_calls (WriteSteps ∷ after) m)
      → length (sets_queued (WriteSteps ∷ after) m) ≡ length (planned_steps m)
  -- if it is not over, a step waits
  pub waits : SomeWaits (after_calls (WriteSteps ∷ after) m) ⊎ IsOver (after_calls (WriteSteps ∷ after) m)
  -- each step that waits is ended by its timeout exactly if numbers are left for the steps that are sent then
  pub goes_on : (p : Pending) → Contains (after_calls (WriteSteps ∷ after) m).pending p → is_step p ≡ true
      → (ended_by (after_calls (WriteSteps ∷ after) m) (Timeout p.number) ≡ 1)
      ↔ ((after_calls (WriteSteps ∷ after) m).counter + count_after (after_calls (WriteSteps ∷ after) m) ≤ 2 ^ 32)
  -- if numbers are left for all steps that are still to be sent, the writing can be brought to its end by timeouts: one
  -- for each step of the plan that has not ended
  pub can_end : (count : ℕ) → steps_ended (WriteSteps ∷ after) m + count ≡ length (planned_steps m)
      → (after_calls (WriteSteps ∷ after) m).counter
      + length (steps_to_come (after_calls (WriteSteps ∷ after) m).writing) ≤ 2 ^ 32
      → CanEndBy count (after_calls (WriteSteps ∷ after) m)

-- let a writing begin in the life of a manager, and let no other writing begin after it. Then it ends (`Ends`),
-- whatever else happens
abbrev pub WritingsEnd : Type 0
WritingsEnd =
    (m : Manager) (after : List Call) → HasLived m → writing_fault m ≡ None → BeginNone after (after_call m WriteSteps)
    → Ends m after
