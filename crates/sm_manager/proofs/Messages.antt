-- The manager after a message was sent.
use Rattle.std.proofs.Common.{◌≡◌, ℕ, ◌+◌, ◌^◌, Bool, true, false, cond, nat_lt, List, [], ◌++◌, refl, sym, ap, ◌∙◌, arith}
use Rattle.std.specs.Prelude.{Option, None, Some}
use Rattle.std.proofs.lemmas.List.{append-nil}
use Rattle.smp_bytes.specs.Field.{number_in}
use Rattle.smp_bytes.specs.Packet.{attribute_modifier}
use Rattle.sm_state.specs.declared.event.Event.TheVariants as event
use Rattle.sm_state.specs.declared.event.Message.{Message}
use Rattle.sm_state.specs.declared.transition.Transition.{Transition}
use Rattle.sm_state.specs.Standing.{after_request_heard, moved_to}
use Rattle.sm_state.specs.Transitions.{status_of, stepped}
use Rattle.sm_manager.specs.Election.{after_message, message_count, message_out, message_pending}
use Rattle.sm_manager.specs.Manager.{Manager}
use Rattle.sm_manager.specs.Packets.{done, refused, unless_spent}
use Rattle.sm_manager.specs.PlanFaults.{number_fault}
use Rattle.sm_manager.specs.SmInfoAnswers.{acknowledged_by, answering, controlled}
use Rattle.sm_manager.specs.declared.fault.ManagerFault.TheVariants as fault
use Rattle.sm_manager.specs.declared.way.Way.{Way}

-- no number, no request and no packet more
nothing_more : (m : Manager) → m ≡ record m { counter = m.counter + 0; pending = m.pending ++ []; outgoing = m.outgoing ++ [] }
nothing_more m =
    let counter : m.counter ≡ m.counter + 0 = omega arith in
    λ i. record m { counter = counter i; pending = sym (append-nil m.pending) i; outgoing = sym (append-nil m.outgoing) i }

-- a message takes as many numbers as it has requests, and adds its request and its packet
pub message_sent : (m : Manager) (to : Option Way) (message : Option Message) → after_message m to message
    ≡ record m {
      counter = m.counter + message_count to message;
      pending = m.pending ++ message_pending m.counter to message;
      outgoing = m.outgoing ++ message_out m.standing m.counter to message;
    }
message_sent m None message = nothing_more m
message_sent m (Some way) None = nothing_more m
message_sent m (Some way) (Some message) = refl

pub message_counter : (m : Manager) (to : Option Way) (message : Option Message) → (after_message m to message).counter ≡ m.counter + message_count to message
message_counter m to message = ap (λ (x : Manager). x.counter) (message_sent m to message)

-- if numbers are not lacking, the call is not refused for them
pub unspent : (m after : Manager) → number_fault after.counter ≡ None → after ≡ (unless_spent m after).manager
unspent m after e = by (nat_lt (2 ^ 32) after.counter) refl
  where
    by : (b : Bool) → nat_lt (2 ^ 32) after.counter ≡ b → after ≡ (cond b (refused m fault.SequenceSpent) (done after)).manager
    by false f = refl
    by true f = let why = ap (λ t. cond t (Some fault.SequenceSpent) None) f in absurd (cc)

-- what goes out is refused if numbers are lacking
pub spent_fault : (m after : Manager) (counter : ℕ) → after.counter ≡ counter → (unless_spent m after).fault ≡ number_fault counter
spent_fault m after counter same = by (nat_lt (2 ^ 32) after.counter) ∙ ap number_fault same
  where
    by : (b : Bool) → (cond b (refused m fault.SequenceSpent) (done after)).fault ≡ cond b (Some fault.SequenceSpent) None
    by true = refl
    by false = refl

-- what sends no request takes no number
pub none_taken : (before m after : Manager) → before ≡ m → after.counter ≡ m.counter → after.counter ≡ before.counter + 0
none_taken before m after same kept = let number = kept ∙ ap (λ (x : Manager). x.counter) (sym same) in omega (arith, number)

-- a control that is obeyed takes the numbers of its message
pub numbers_taken : (before m : Manager) (packet : List ℕ) (from : Option ℕ) (to : Option Way) (modifier count : ℕ) (move : Transition) → before ≡ m
    → to ≡ acknowledged_by packet from
    → modifier ≡ number_in attribute_modifier packet
    → move ≡ stepped before.standing.conduct before.standing.state (event.Control modifier)
    → count ≡ message_count to move.message → (controlled m packet from).counter ≡ before.counter + count
numbers_taken before m packet from to modifier count move same goes is moves counts =
    let next : Transition = stepped m.standing.conduct m.standing.state (event.Control (number_in attribute_modifier packet)) in
    let steps : move ≡ next = moves ∙ (λ i. stepped (same i).standing.conduct (same i).standing.state (event.Control (is i))) in
    let numbers : count ≡ message_count (acknowledged_by packet from) next.message = counts ∙ (λ i. message_count (goes i) (steps i).message) in
    message_counter (answering (record m { standing = moved_to next.state (after_request_heard m.standing) }) packet from (status_of next))
    (acknowledged_by packet from) next.message
    ∙ sym (λ i. (same i).counter + numbers i)
