-- What a call is to the requests that wait outside sweeps: a step is over, a writing begins, or neither.
use Rattle.std.proofs.Common.{◌≡◌, ◌≤◌, ◌+◌, ℕ, Bool, true, false, cond, List, [], ◌∷◌, ◌++◌, append_assoc, append-nil}
use Rattle.std.proofs.Common.{length, replicate, refl, sym, ap, ◌∙◌, arith}
use Rattle.std.proofs.lemmas.Bool.{and_parts, cond-false, cond_both, eqb-true}
use Rattle.std.proofs.lemmas.List.{at_drop_all, drop_at}
use Rattle.std.proofs.lemmas.List.Elements.{filter-append}
use Rattle.std.specs.Prelude.{◌^◌, ◌==◌, Contains, Option, Some, None, Result, Ok, Err, drop, filter, is_none, nat_le}
use Rattle.std.specs.Prelude.{not}
use Rattle.attr_codec.specs.SmInfo.{sm_info_bytes}
use Rattle.smp_bytes.specs.Field.{bytes_in, number_in}
use Rattle.smp_bytes.specs.Header.{done, get, get_resp, set, sm_info}
use Rattle.smp_bytes.specs.Packet.{attribute_data, attribute_id, attribute_modifier, fault_of, is_response, status}
use Rattle.smp_bytes.specs.Packet.{transaction_id}
use Rattle.smp_bytes.specs.Requests.{answer_packet, directed, lid_routed}
use Rattle.smp_bytes.specs.declared.smp_fault.SmpFault.{SmpFault}
use Rattle.request_table.specs.Numbers.{AreRising}
use Rattle.subnet_view.proofs.Apart.{found_there}
use Rattle.sweep.specs.declared.answer.Answer.{Answer}
use Rattle.sweep.specs.declared.fault.SweepFault.{SweepFault}
use Rattle.sweep.specs.declared.request.Request.{Request}
use Rattle.sweep.specs.Replies.{after_reply, judged}
use Rattle.sweep.specs.Sweep.{Sweep, attribute_asked, modifier_asked, packet_of, started, timeout_fault, transaction_of}
use Rattle.sm_state.specs.Conduct.{is_live}
use Rattle.sm_state.specs.Control.{control_of_message, modifier_of_control}
use Rattle.sm_state.specs.Standing.{info_with, moved_to}
use Rattle.sm_state.specs.Transitions.{status_of, stepped}
use Rattle.sm_state.specs.declared.event.Event.TheVariants as event
use Rattle.sm_state.specs.declared.event.Message.{Message}
use Rattle.sm_state.specs.declared.standing.Standing.{Standing}
use Rattle.sm_state.specs.declared.transition.Transition.{Transition}
use Rattle.sm_manager.specs.declared.fault.ManagerFault.{ManagerFault}
use Rattle.sm_manager.specs.declared.fault.ManagerFault.TheVariants.{SequenceSpent}
use Rattle.sm_manager.specs.declared.outgoing.Outgoing.{Outgoing}
use Rattle.sm_manager.specs.declared.pending.Pending.{Pending}
use Rattle.sm_manager.specs.declared.pending.Purpose.{Purpose}
use Rattle.sm_manager.specs.declared.pending.Purpose.TheVariants as purpose
use Rattle.sm_manager.specs.declared.way.Way.{Way}
use Rattle.sm_manager.specs.declared.way.Way.TheVariants.{Along, ToLid}
use Rattle.sm_manager.specs.StepsAnswered.{BeginsNone}
use Rattle.sm_manager.specs.CallLists.{Call, BeginSweep, WriteSteps, Take, Packet, Timeout, Raise, Merge, Poll}
use Rattle.sm_manager.specs.CallLists.{Handover, Yield, Rediscover, after_call}
use Rattle.sm_manager.specs.Election.{after_handover, handed_to, handover_fault, handover_move, heir_way}
use Rattle.sm_manager.specs.Election.{rediscover_fault, after_rediscover, after_yield, successor_way, yield_fault}
use Rattle.sm_manager.specs.Election.{control_out, info_packet, info_pending, poll_fault, poll_out, poll_way}
use Rattle.sm_manager.specs.Election.{poll_pending, polled_by, after_poll, after_message}
use Rattle.sm_manager.specs.Manager.{Manager, begin_fault, after_begin_sweep, next_generation, requests_out, taken_of}
use Rattle.sm_manager.specs.Packets.{Called, answered_by, answers, after_timeout, is_for_sweep, is_info_request}
use Rattle.sm_manager.specs.Packets.{packet_taken, pending_for, refused, request_answered}
use Rattle.sm_manager.specs.Packets.{done as done_call, request_gave_up, after_request, sweep_answered, sweep_gave_up}
use Rattle.sm_manager.specs.Packets.{sweep_timed_out, unless_spent, with_answer}
use Rattle.sm_manager.specs.PlanFaults.{writing_fault}
use Rattle.sm_manager.specs.ManagerRequests.{is_step, with_number, without_number}
use Rattle.sm_manager.specs.SmInfoAnswers.{acknowledged_by, answer_data, answer_out, answering, controlled}
use Rattle.sm_manager.specs.SmInfoAnswers.{request_counted, is_control, moved_on, replying, served, status_for}
use Rattle.sm_manager.specs.Traps.{represses, repress_out, repressing, trap_repress}
use Rattle.sm_manager.specs.Writing.{is_done_by, is_spent, after_step, after_write_steps}
use Rattle.manager_laws.specs.WritingEnds.{IsEndOf, is_set, sets_since}
use Rattle.manager_laws.proofs.writing_ends.Headers.{answer_method, directed_attribute, directed_method, for_managers, has_method}
use Rattle.manager_laws.proofs.writing_ends.Headers.{lid_routed_is, not_directed, other_method}
use Rattle.manager_laws.proofs.writing_ends.Lists.{IsIn, kept, listed, number}

-- the call ends the request, if there is one
abbrev pub IsEnded : Call → Option Pending → Type 0
IsEnded call None = Unit {0}
IsEnded call (Some p) = IsEndOf p call

-- a packet that ends a step says whether it was done, and is for no sweep
abbrev pub Says : Call → Bool → Type 0
Says (Packet bytes from) was_done = (was_done ≡ (status bytes == done)) × (is_for_sweep bytes ≡ false)
Says call was_done = Unit {0}

-- at most one request is over, and some may come
pub record Turn (m : Manager) (call : Call) (after : Manager) : Type 0 where
  pub gone : Option Pending
  pub is_in : IsIn m.pending gone
  pub ended : IsEnded call gone
  pub more : List Pending
  pub is : after.pending ≡ kept gone m.pending ++ more
  pub fresh : AreRising number m.counter more after.counter

-- none of them is a step
pub record BesideCall (m : Manager) (call : Call) (after : Manager) : Type 0 where
  pub turn : Turn m call after
  pub no_step_gone : filter is_step (listed turn.gone) ≡ []
  pub no_step_more : filter is_step turn.more ≡ []
  pub no_set : sets_since m after ≡ []
  pub writing : after.writing ≡ m.writing

-- a step is over
pub record StepOver (m : Manager) (call : Call) (after : Manager) : Type 0 where
  pub p : Pending
  pub there : Contains m.pending p
  pub step : is_step p ≡ true
  pub ends : IsEndOf p call
  pub was_done : Bool
  pub says : Says call was_done
  pub is : after ≡ after_step m p was_done

-- a writing begins
pub record WritingBegun (m : Manager) (call : Call) (after : Manager) : Type 0 where
  pub may : writing_fault m ≡ None
  pub begins : BeginsNone m call → ⊥
  pub is : after ≡ after_write_steps m

pub data Effect (m : Manager) (call : Call) (after : Manager) : Type 0 where
  Besides : BesideCall m call after → Effect m call after
  Over : StepOver m call after → Effect m call after
  Begun : WritingBegun m call after → Effect m call after

-- what is queued ---------------------------------------------------------------------------------------------------

-- those of the packets that are Sets along a directed route
abbrev pub sets_in : List Outgoing → List Outgoing
sets_in packets = filter (λ out. is_set out.packet) packets

pub since : (m after : Manager) (more : List Outgoing) → after.outgoing ≡ m.outgoing ++ more
    → sets_since m after ≡ sets_in more
since m after more e =
    ap (λ out. sets_in (drop (length m.outgoing) out)) e ∙ ap sets_in (drop_at m.outgoing more (length m.outgoing) refl)

pub since_same : (m after : Manager) → after.outgoing ≡ m.outgoing → sets_since m after ≡ []
since_same m after e = since m after [] (e ∙ sym (append-nil m.outgoing))

no_set : (packets : List Outgoing) (out : Outgoing) → sets_in packets ≡ [] → is_set out.packet ≡ false
    → sets_in (packets ++ out ∷ []) ≡ []
no_set packets out none other =
    filter-append (λ (o : Outgoing). is_set o.packet) packets (out ∷ [])
    ∙ ap (λ before. before ++ sets_in (out ∷ [])) none
    ∙ cond-false (is_set out.packet) (out ∷ []) [] other

-- a Get along a path
get_no_set : (attribute modifier tid : ℕ) (path payload : List ℕ)
    → is_set (directed get attribute modifier tid path payload) ≡ false
get_no_set attribute modifier tid path payload =
    other_method (directed get attribute modifier tid path payload) get
    (directed_method get attribute modifier tid path payload (omega arith)) refl

-- what goes by LIDs
lid_no_set : (method_number attribute modifier tid : ℕ) (payload : List ℕ)
    → is_set (lid_routed method_number attribute modifier tid payload) ≡ false
lid_no_set method_number attribute modifier tid payload =
    not_directed (lid_routed method_number attribute modifier tid payload)
    (lid_routed_is method_number attribute modifier tid payload)

-- the requests of a sweep
requests_no_set : (generation : ℕ) (requests : List Request) → sets_in (requests_out generation requests) ≡ []
requests_no_set generation [] = refl
requests_no_set generation (r ∷ requests) =
    cond-false (is_set (packet_of generation r)) _ _
    (get_no_set (attribute_asked r.question) (modifier_asked r.question) (transaction_of generation r.number) r.path
    (replicate 64 0))
    ∙ requests_no_set generation requests

-- a request for SMInfo
info_no_set : (method_number modifier number : ℕ) (way : Way) (payload : List ℕ)
    → is_set (info_packet method_number modifier number way payload) ≡ false
info_no_set method_number modifier number (ToLid lid) payload =
    lid_no_set method_number sm_info modifier number payload
info_no_set method_number modifier number (Along path) payload =
    for_managers (directed method_number sm_info modifier number path payload)
    (directed_attribute method_number sm_info modifier number path payload (omega arith))

-- an answer
answer_no_set : (s : Standing) (bytes : List ℕ) (from : Option ℕ) (status : ℕ) → 4 ≤ length bytes
    → is_set (answer_out s bytes from status).packet ≡ false
answer_no_set s bytes from status long =
    other_method (answer_packet bytes status (answer_data s bytes status)) get_resp
    (answer_method bytes status (answer_data s bytes status) long) refl

-- calls that are no business of steps ------------------------------------------------------------------------------

module _ (m : Manager) (call : Call) where
  abbrev IsBeside : Manager → Type 0
  IsBeside after = BesideCall m call after

  -- none of them is over, and none comes
  rests : (after : Manager) → after.pending ≡ m.pending → after.counter ≡ m.counter → after.writing ≡ m.writing
      → sets_since m after ≡ [] → IsBeside after
  rests after pending counter writing none =
      record {
        turn =
            record {
              gone = None;
              is_in = tt;
              ended = tt;
              more = [];
              is = pending ∙ sym (append-nil m.pending);
              fresh = omega (arith, counter);
            };
        no_step_gone = refl;
        no_step_more = refl;
        no_set = none;
        writing = writing;
      }

  -- and nothing is queued
  is_quiet : (after : Manager) → after.pending ≡ m.pending → after.counter ≡ m.counter → after.writing ≡ m.writing
      → after.outgoing ≡ m.outgoing
      → IsBeside after
  is_quiet after pending counter writing outgoing = rests after pending counter writing (since_same m after outgoing)

  nothing : IsBeside m
  nothing = is_quiet m refl refl refl refl

  -- one comes
  asks : (p : Pending) (after : Manager) → after.pending ≡ m.pending ++ p ∷ [] → after.counter ≡ m.counter + 1
      → after.writing ≡ m.writing
      → p.number ≡ m.counter → is_step p ≡ false → sets_since m after ≡ [] → IsBeside after
  asks p after pending counter writing first other none =
      record {
        turn =
            record {
              gone = None;
              is_in = tt;
              ended = tt;
              more = p ∷ [];
              is = pending;
              fresh = (omega (arith, first), omega (arith, first, counter));
            };
        no_step_gone = refl;
        no_step_more = cond-false (is_step p) (p ∷ []) [] other;
        no_set = none;
        writing = writing;
      }

  -- one is over
  loses : (p : Pending) → Contains m.pending p → is_step p ≡ false → IsEndOf p call → (after : Manager)
      → after.pending ≡ without_number p.number m.pending
      → after.counter ≡ m.counter → after.writing ≡ m.writing → after.outgoing ≡ m.outgoing → IsBeside after
  loses p there other ends after pending counter writing outgoing =
      record {
        turn =
            record {
              gone = Some p;
              is_in = there;
              ended = ends;
              more = [];
              is = pending ∙ sym (append-nil (without_number p.number m.pending));
              fresh = omega (arith, counter);
            };
        no_step_gone = cond-false (is_step p) (p ∷ []) [] other;
        no_step_more = refl;
        no_set = since_same m after outgoing;
        writing = writing;
      }

  tells : (x : Manager) (to : Option Way) (message : Option Message) (queued : List Outgoing) → x.pending ≡ m.pending
      → x.counter ≡ m.counter
      → x.writing ≡ m.writing → x.outgoing ≡ m.outgoing ++ queued → sets_in queued ≡ []
      → IsBeside (after_message x to message)
  tells x None message queued pending counter writing outgoing none =
      rests x pending counter writing (since m x queued outgoing ∙ none)
  tells x (Some way) None queued pending counter writing outgoing none =
      rests x pending counter writing (since m x queued outgoing ∙ none)
  tells x (Some way) (Some message) queued pending counter writing outgoing none =
      let control = control_of_message message in
      let p = info_pending x.counter purpose.Control (modifier_of_control control) way in
      let out = control_out x.standing x.counter way control in
      asks p (after_message x (Some way) (Some message)) (ap (λ ps. ps ++ p ∷ []) pending)
      (ap (λ n. n + 1) counter) writing counter refl
      (since m (after_message x (Some way) (Some message)) (queued ++ out ∷ [])
      (ap (λ packets. packets ++ out ∷ []) outgoing ∙ append_assoc m.outgoing queued (out ∷ []))
      ∙ no_set queued out none
      (info_no_set set (modifier_of_control control) x.counter way (sm_info_bytes (info_with control x.standing))))

  serves : (bytes : List ℕ) (from : Option ℕ) → 4 ≤ length bytes
      → IsBeside (unless_spent m (served m bytes from)).manager
  serves bytes from long =
      cond_both (is_spent (served m bytes from)) (refused m SequenceSpent) (done_call (served m bytes from))
      (λ (x : Called). IsBeside x.manager)
      (λ _. nothing)
      (λ _. cond_both (is_control m.standing bytes) (controlled m bytes from) (replying m bytes from) IsBeside
      (λ _. moves (stepped m.standing.conduct m.standing.state (event.Control (number_in attribute_modifier bytes))))
      (λ _. rests (replying m bytes from) refl refl refl
      (since m (replying m bytes from) (answer_out (request_counted m).standing bytes from (status_for bytes) ∷ []) refl
      ∙ no_set [] (answer_out (request_counted m).standing bytes from (status_for bytes)) refl
      (answer_no_set (request_counted m).standing bytes from (status_for bytes) long))))
    where
      moves : (move : Transition) → IsBeside (moved_on (request_counted m) bytes from move)
      moves move =
          let moved = record (request_counted m) { standing = moved_to move.state (request_counted m).standing } in
          let out = answer_out moved.standing bytes from (status_of move) in
          tells (answering moved bytes from (status_of move)) (acknowledged_by bytes from) move.message
          (out ∷ []) refl refl refl refl
          (no_set [] out refl (answer_no_set moved.standing bytes from (status_of move) long))

  polls : (to : Option Way) → IsBeside (polled_by m to)
  polls None = nothing
  polls (Some way) =
      let out = poll_out m.counter way in
      asks (poll_pending m.counter way) (polled_by m (Some way)) refl refl refl refl refl
      (since m (polled_by m (Some way)) (out ∷ []) refl
      ∙ no_set [] out refl (info_no_set get 0 m.counter way (replicate 64 0)))

  hands : (to : Option Way) → IsBeside (handed_to m to)
  hands to =
      let moved = record m { standing = moved_to (handover_move m).state m.standing } in
      tells moved to (handover_move m).message [] refl refl refl
      (sym (append-nil m.outgoing)) refl

  sweeps : (bytes : List ℕ) (s : Option Sweep) → IsBeside (sweep_answered m bytes s).manager
  sweeps bytes None = nothing
  sweeps bytes (Some s) = by_judged (judged s bytes)
    where
      by_judged : (r : Result Answer SweepFault) → IsBeside (answered_by m s bytes r).manager
      by_judged (Ok answer) =
          let next = after_reply s bytes in
          rests (with_answer m s bytes answer) refl refl refl
          (since m (with_answer m s bytes answer) (requests_out next.generation next.queued) refl
          ∙ requests_no_set next.generation next.queued)
      by_judged (Err why) = nothing

  sweep_times_out : (transaction : ℕ) (s : Option Sweep) → IsBeside (sweep_gave_up m transaction s).manager
  sweep_times_out transaction None = nothing
  sweep_times_out transaction (Some s) = by_fault (timeout_fault s transaction)
    where
      by_fault : (why : Option SweepFault) → IsBeside (sweep_timed_out m s transaction why).manager
      by_fault (Some why) = nothing
      by_fault None = is_quiet _ refl refl refl refl

  takes : (packets : List Outgoing) → m.outgoing ≡ packets → IsBeside (taken_of m packets).manager
  takes [] e = nothing
  takes (packet ∷ packets) e =
      let long = ap length e in
      rests (record m { outgoing = packets }) refl refl refl
      (at_drop_all sets_in packets (length m.outgoing) (omega (arith, long)))

  -- a request is over
  request_over : (p : Pending) → Contains m.pending p → IsEndOf p call → (answer : Option ℕ)
      → Says call (is_done_by answer) → Effect m call (after_request m p answer p.purpose).manager
  request_over p there ends answer says = by_purpose p.purpose refl
    where
      by_purpose : (u : Purpose) → p.purpose ≡ u → Effect m call (after_request m p answer u).manager
      by_purpose purpose.Poll is =
          Besides (loses p there (ap (λ u. is_step (record p { purpose = u })) is) ends _ refl refl refl refl)
      by_purpose purpose.Control is =
          Besides (loses p there (ap (λ u. is_step (record p { purpose = u })) is) ends _ refl refl refl refl)
      by_purpose (purpose.Step c) is =
          cond_both (is_spent (after_step m p (is_done_by answer))) (refused m SequenceSpent)
          (done_call (after_step m p (is_done_by answer)))
          (λ (x : Called). Effect m call x.manager) (λ _. Besides nothing)
          (λ _. Over (record {
            p = p;
            there = there;
            step = ap (λ u. is_step (record p { purpose = u })) is;
            ends = ends;
            was_done = is_done_by answer;
            says = says;
            is = refl;
          }))

packet_effect : (m : Manager) (bytes : List ℕ) (from : Option ℕ) (why : Option SmpFault)
    → Effect m (Packet bytes from) (packet_taken m bytes from why).manager
packet_effect m bytes from (Some why) = Besides (nothing m (Packet bytes from))
packet_effect m bytes from None = by_tests (is_info_request bytes) (represses m bytes) (is_for_sweep bytes) refl refl
  where
    by_pending : is_for_sweep bytes ≡ false → (o : Option Pending) → pending_for m bytes ≡ o
        → Effect m (Packet bytes from) (request_answered m bytes o).manager
    by_pending no_sweep None e = Besides (nothing m (Packet bytes from))
    by_pending no_sweep (Some p) e =
        let found = found_there (answers bytes) m.pending p e in
        request_over m (Packet bytes from) p found.0 found.1 (Some (status bytes)) (refl, no_sweep)

    by_tests : (a t b : Bool) → is_info_request bytes ≡ a → is_for_sweep bytes ≡ b
        → Effect m (Packet bytes from)
        (cond a (unless_spent m (served m bytes from)) (cond t (done_call (repressing m bytes from))
        (cond b (sweep_answered m bytes m.sweep) (request_answered m bytes (pending_for m bytes))))).manager
    by_tests true t b e f =
        Besides (serves m (Packet bytes from) bytes from
        (has_method bytes (and_parts (not (is_response bytes)) (number_in attribute_id bytes == sm_info) e).1))
    by_tests false true b e f =
        let out = repress_out bytes from in
        Besides (rests m (Packet bytes from) (repressing m bytes from) refl refl refl
        (since m (repressing m bytes from) (out ∷ []) refl
        ∙ no_set [] out refl
        (lid_no_set trap_repress (number_in attribute_id bytes) (number_in attribute_modifier bytes)
        (number_in transaction_id bytes)
        (bytes_in attribute_data bytes))))
    by_tests false false true e f = Besides (sweeps m (Packet bytes from) bytes m.sweep)
    by_tests false false false e f = by_pending f (pending_for m bytes) refl

timeout_effect : (m : Manager) (transaction : ℕ) → Effect m (Timeout transaction) (after_timeout m transaction).manager
timeout_effect m transaction =
    cond_both (nat_le (2 ^ 32) transaction) (sweep_gave_up m transaction m.sweep)
    (request_gave_up m (with_number transaction m.pending))
    (λ (x : Called). Effect m (Timeout transaction) x.manager)
    (λ _. Besides (sweep_times_out m (Timeout transaction) transaction m.sweep))
    (λ _. by_pending (with_number transaction m.pending) refl)
  where
    by_pending : (o : Option Pending) → with_number transaction m.pending ≡ o
        → Effect m (Timeout transaction) (request_gave_up m o).manager
    by_pending None e = Besides (nothing m (Timeout transaction))
    by_pending (Some p) e =
        let found = found_there (λ (x : Pending). x.number == transaction) m.pending p e in
        request_over m (Timeout transaction) p found.0 (eqb-true p.number transaction found.1) None tt

-- so it is with each call
pub effect : (m : Manager) (call : Call) → Effect m call (after_call m call)
effect m BeginSweep =
    Besides (cond_both (is_none (begin_fault m)) (after_begin_sweep m) m (BesideCall m BeginSweep)
    (λ _. rests m BeginSweep (after_begin_sweep m) refl refl refl
    (since m (after_begin_sweep m) (requests_out first.generation first.queued) refl
    ∙ requests_no_set first.generation first.queued))
    (λ _. nothing m BeginSweep))
  where
    first : Sweep
    first = started m.port (next_generation m.store) 1 (is_live m.standing.conduct)
effect m WriteSteps = by_fault (writing_fault m) refl
  where
    by_fault : (o : Option ManagerFault) → writing_fault m ≡ o
        → Effect m WriteSteps (cond (is_none o) (after_write_steps m) m)
    by_fault None e = Begun (record { may = e; begins = λ none. none e; is = refl })
    by_fault (Some why) e = Besides (nothing m WriteSteps)
effect m Take = Besides (takes m Take m.outgoing refl)
effect m (Packet bytes from) = packet_effect m bytes from (fault_of bytes)
effect m (Timeout transaction) = timeout_effect m transaction
effect m (Raise floor) = Besides (is_quiet m (Raise floor) _ refl refl refl refl)
effect m (Merge floor sightings) = Besides (is_quiet m (Merge floor sightings) _ refl refl refl refl)
effect m (Poll lid) =
    Besides (cond_both (is_none (poll_fault m lid)) (after_poll m lid) m (BesideCall m (Poll lid))
    (λ _. polls m (Poll lid) (poll_way m lid))
    (λ _. nothing m (Poll lid)))
effect m Handover =
    Besides (cond_both (is_none (handover_fault m)) (after_handover m) m (BesideCall m Handover)
    (λ _. hands m Handover (successor_way m)) (λ _. nothing m Handover))
effect m Yield =
    Besides (cond_both (is_none (yield_fault m)) (after_yield m) m (BesideCall m Yield)
    (λ _. hands m Yield (heir_way m)) (λ _. nothing m Yield))
effect m Rediscover =
    Besides (cond_both (is_none (rediscover_fault m)) (after_rediscover m) m (BesideCall m Rediscover)
    (λ _. is_quiet m Rediscover (after_rediscover m) refl refl refl refl) (λ _. nothing m Rediscover))
