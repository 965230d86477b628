-- What a packet or a time-out has a manager send: at most the Sets of its writing that were still to be sent, what its
-- sweep asks, and an acknowledgement of a control.
use Rattle.std.proofs.Common.{◌≡◌, ◌∙◌, ℕ, suc, ◌+◌, ◌/◌, ◌%◌, ◌^◌, ◌≤◌, Bool, true, false, cond, ◌&&◌, not, List, [], ◌∷◌, ◌++◌, length, refl, sym, ap, subst, arith}
use Rattle.std.proofs.Common.{append_assoc, append-nil, inl, replicate}
use Rattle.std.proofs.lemmas.Bool.{and_parts, cond_both, cond-false}
use Rattle.std.proofs.lemmas.List.{length-append, length-map, length-take}
use Rattle.std.specs.Prelude.{◌==◌, Option, Some, None, Result, Ok, Err, drop, filter, nat_le, Contains, is_some}
use Rattle.smp_bytes.specs.Field.{bytes_in, number_in}
use Rattle.smp_bytes.specs.Header.{get_resp, lid_routed_class, set, sm_info}
use Rattle.smp_bytes.specs.Packet.{attribute_data, attribute_id, attribute_modifier, fault_of, is_response, method, status}
use Rattle.smp_bytes.specs.Packet.{transaction_id}
use Rattle.smp_bytes.specs.Requests.{answer_packet, request, request_entries}
use Rattle.smp_bytes.specs.declared.smp_fault.SmpFault.{SmpFault}
use Rattle.smp_bytes.proofs.BitLaws.{byte-number_in}
use Rattle.smp_bytes.proofs.FieldLaws.{number_in-with_bytes, number_in-with_numbers}
use Rattle.smp_bytes.proofs.RequestLaws.{length-request}
use Rattle.plan_steps.specs.Phase.{Phase}
use Rattle.plan_steps.specs.declared.step.Step.{Step}
use Rattle.sweep.specs.declared.answer.Answer.{Answer}
use Rattle.sweep.specs.declared.fault.SweepFault.{SweepFault}
use Rattle.sweep.specs.declared.fault.SweepFault.TheVariants.{NotOutstanding}
use Rattle.subnet_view.proofs.Apart.{found_there}
use Rattle.subnet_view.proofs.Members.{contains_none}
use Rattle.manager_laws.proofs.Accepted.{accepted}
use Rattle.std.proofs.lemmas.Option.{none-some}
use Rattle.sweep.specs.declared.request.Request.{Request}
use Rattle.sweep.specs.Finding.{finding}
use Rattle.sweep.specs.Questions.{questions}
use Rattle.sweep.specs.Replies.{after_reply, after_reply_to, judged, request_of, belongs}
use Rattle.sweep.specs.Sweep.{Asking, Sweep, after_timeout_of, numbered, packet_of, request_with, timeout_fault, is_none_left}
use Rattle.sm_state.specs.Transitions.{status_of, stepped}
use Rattle.sm_state.specs.Standing.{moved_to}
use Rattle.sm_state.specs.declared.event.Event.TheVariants as event
use Rattle.sm_state.specs.declared.event.Message.{Message}
use Rattle.sm_state.specs.declared.standing.Standing.{Standing}
use Rattle.sm_state.specs.declared.transition.Transition.{Transition}
use Rattle.sm_manager.specs.declared.outgoing.Outgoing.{Outgoing}
use Rattle.sm_manager.specs.declared.pending.Pending.{Pending}
use Rattle.sm_manager.specs.declared.pending.Purpose.{Purpose}
use Rattle.sm_manager.specs.declared.pending.Purpose.TheVariants as purpose
use Rattle.sm_manager.specs.declared.way.Way.{Way}
use Rattle.sm_manager.specs.CallLists.{Call, after_call}
use Rattle.sm_manager.specs.Election.{after_message, control_out}
use Rattle.sm_state.specs.Control.{control_of_message}
use Rattle.sm_manager.specs.Manager.{IsSentWhole, Manager, Writing, requests_out, is_running}
use Rattle.sm_manager.specs.ManagerRequests.{counts, no_step_waits, with_number, without_number}
use Rattle.sm_manager.specs.Packets.{Called, after_request, after_timeout as after_time, answered_by, done, is_for_sweep}
use Rattle.sm_manager.specs.Packets.{is_info_request, packet_taken, pending_for, request_answered, request_gave_up, sweep_answered}
use Rattle.sm_manager.specs.Packets.{sweep_gave_up, sweep_timed_out, unless_spent}
use Rattle.sm_manager.specs.SmInfoAnswers.{acknowledged_by, answer_data, answer_out, answering, controlled, is_control as may_control, moved_on}
use Rattle.sm_manager.specs.SmInfoAnswers.{replying, request_counted, served, status_for}
use Rattle.sm_manager.specs.Traps.{represses, repress_out, repressing, trap_repress}
use Rattle.sm_manager.specs.Writing.{after_step, is_done_by, is_spent, next_phase, noted, steps_out, went_on_with, without_empty_phases}
use Rattle.acting_manager.specs.Acting.{is_request}
use Rattle.manager_laws.specs.WritingEnds.{steps_of, steps_to_come}
use Rattle.manager_laws.proofs.writing_ends.Headers.{answer_method, has_method}
use Rattle.program_laws.specs.Wakes.{is_control, next_in, one_if, sets_to_come}

-- requests among packets ----------------------------------------------------------------------------

-- how many of the packets are requests
abbrev pub requests_in : List Outgoing → ℕ
requests_in packets = length (filter is_request packets)

pub few_requests : (packets : List Outgoing) → requests_in packets ≤ length packets
few_requests [] = omega arith
few_requests (out ∷ packets) = by (is_request out) (few_requests packets)
  where
    by : (b : Bool) → requests_in packets ≤ length packets
        → length (cond b (out ∷ filter is_request packets) (filter is_request packets)) ≤ suc (length packets)
    by true rest = omega (arith, rest)
    by false rest = omega (arith, rest)

-- what is no request does not count
others_count_not : (out : Outgoing) (packets : List Outgoing) → is_request out ≡ false
    → requests_in (out ∷ packets) ≡ requests_in packets
others_count_not out packets e = ap length (cond-false (is_request out) _ _ e)

-- an answer has its R bit
pub responds : (packet : List ℕ) → number_in method packet ≡ get_resp → is_response packet ≡ true
responds packet e = ap (λ b. b / 2 ^ 7 % 2 ^ 1 == 1) (sym (byte-number_in 3 packet) ∙ e)

answer_is_none : (s : Standing) (bytes : List ℕ) (from : Option ℕ) (status : ℕ) → 4 ≤ length bytes
    → is_request (answer_out s bytes from status) ≡ false
answer_is_none s bytes from status long =
    let packet = answer_packet bytes status (answer_data s bytes status) in
    ap (λ b. not b && not (number_in method packet == trap_repress))
    (responds packet (answer_method bytes status (answer_data s bytes status) long))

pub and_false : (b : Bool) → (b && false) ≡ false
and_false true = refl
and_false false = refl

repress_is_none : (bytes : List ℕ) (from : Option ℕ) → is_request (repress_out bytes from) ≡ false
repress_is_none bytes from =
    ap (λ n. not (is_response packet) && not (n == trap_repress)) method_is ∙ and_false (not (is_response packet))
  where
    packet : List ℕ
    packet = (repress_out bytes from).packet

    payload : List ℕ
    payload = bytes_in attribute_data bytes

    -- the fields of the trap that stand in the TrapRepress too
    kind : ℕ
    kind = number_in attribute_id bytes

    modifier : ℕ
    modifier = number_in attribute_modifier bytes

    tid : ℕ
    tid = number_in transaction_id bytes

    method_is : number_in method packet ≡ trap_repress
    method_is =
        let made = request lid_routed_class trap_repress kind modifier tid in
        let long = length-request trap_repress kind modifier tid lid_routed_class in
        let short = length-take 64 (drop 64 bytes) in
        number_in-with_bytes method 64 payload made (omega (arith, long, short)) (inl (omega arith))
        ∙ number_in-with_numbers 256 (request_entries lid_routed_class trap_repress kind modifier tid) (replicate 256 0) 3 _ refl refl refl
        (omega arith)

-- what a manager sends ---------------------------------------------------------------------------------

-- the manager `m` becomes `after`, and queues `more` behind what was queued. Each request among these is a Set that was
-- still to be sent, or asked by the sweep, or one of `acks` acknowledgements. The sweep has sent all that it asks
pub record Makes (acks : ℕ) (m after : Manager) : Type 0 where
  pub more : List Outgoing
  pub outgoing : after.outgoing ≡ m.outgoing ++ more
  pub whole : IsSentWhole after.sweep
  pub next : next_in m.sweep ≤ next_in after.sweep
  pub still : is_running m.sweep ≡ false → after.sweep ≡ m.sweep
  pub paid : requests_in more + sets_to_come after + next_in m.sweep ≤ sets_to_come m + next_in after.sweep + acks

module _ (acks : ℕ) (m : Manager) (w : IsSentWhole m.sweep) where
  -- some packets are queued, of which so many are requests
  queues : (after : Manager) (more : List Outgoing) → after.outgoing ≡ m.outgoing ++ more → after.sweep ≡ m.sweep
      → after.writing ≡ m.writing → requests_in more ≤ acks → Makes acks m after
  queues after more outgoing sweep writing few =
      let next : next_in after.sweep ≡ next_in m.sweep = ap next_in sweep in
      let sets : sets_to_come after ≡ sets_to_come m = ap (λ o. length (steps_to_come o)) writing in
      record {
        more = more;
        outgoing = outgoing;
        whole = subst IsSentWhole (sym sweep) w;
        next = omega (arith, next);
        still = λ _. sweep;
        paid = omega (arith, next, sets, few);
      }

  still : (after : Manager) → after.outgoing ≡ m.outgoing → after.sweep ≡ m.sweep → after.writing ≡ m.writing → Makes acks m after
  still after outgoing sweep writing =
      queues after [] (outgoing ∙ sym (append-nil m.outgoing)) sweep writing (let none : 0 ≤ acks = omega arith in none)

  same : Makes acks m m
  same = still m refl refl refl

  unspent : (after : Manager) → Makes acks m after → Makes acks m (unless_spent m after).manager
  unspent after h = cond_both (is_spent after) _ _ (λ (c : Called). Makes acks m c.manager) (λ _. same) (λ _. h)

-- replies to a sweep -----------------------------------------------------------------------------------

pub many_numbered : (n : ℕ) (asked : List Asking) → length (numbered n asked) ≡ length asked
many_numbered n [] = refl
many_numbered n (a ∷ asked) = let rest = many_numbered (n + 1) asked in omega (arith, rest)

-- what a reply brings up is counted
record Grows (s t : Sweep) : Type 0 where
  next : s.next ≤ t.next
  paid : length t.queued + s.next ≤ t.next + length s.queued

reply_grows : (s : Sweep) (packet : List ℕ) (o : Option Request) → Grows s (after_reply_to s packet o)
reply_grows s packet None = record { next = omega arith; paid = omega arith }
reply_grows s packet (Some r) =
    let asked = questions r.path (finding s r packet) in
    let both = length-append s.queued (numbered s.next asked) in
    let all = many_numbered s.next asked in
    record { next = omega arith; paid = omega (arith, both, all) }

pub timeout_grows : (s : Sweep) (o : Option Request) → (after_timeout_of s o).queued ≡ s.queued
timeout_grows s None = refl
timeout_grows s (Some r) = refl

pub timeout_next : (s : Sweep) (o : Option Request) → (after_timeout_of s o).next ≡ s.next
timeout_next s None = refl
timeout_next s (Some r) = refl

-- a sweep that does not run has no request that is out
no_request_out : (queued outstanding : List Request) → not (is_none_left queued && is_none_left outstanding) ≡ false → outstanding ≡ []
no_request_out queued [] e = refl
no_request_out [] (r ∷ outstanding) e = absurd (cc)
no_request_out (q ∷ queued) (r ∷ outstanding) e = absurd (cc)

-- so it takes no reply, and gives up nothing
pub takes_none : (s : Sweep) (bytes : List ℕ) (answer : Answer) → is_running (Some s) ≡ false → judged s bytes ≡ Ok answer → ⊥
takes_none s bytes answer rests taken =
    let a = accepted s bytes answer taken in
    let there = (found_there (belongs s.generation bytes) s.outstanding a.request a.belongs).0 in
    contains_none a.request (subst (λ (rs : List Request). Contains rs a.request) (no_request_out s.queued s.outstanding rests) there)

pub ends_none : (s : Sweep) (transaction : ℕ) → is_running (Some s) ≡ false → timeout_fault s transaction ≡ None → ⊥
ends_none s transaction rests e =
    let none : timeout_fault s transaction ≡ Some NotOutstanding =
    ap (λ (rs : List Request). cond (is_some (request_with s.generation transaction rs)) None (Some NotOutstanding)) (no_request_out s.queued s.outstanding rests) in
    none-some NotOutstanding (sym e ∙ none)

module _ (acks : ℕ) (m : Manager) (w : IsSentWhole m.sweep) where
  reply_makes : (bytes : List ℕ) (s : Option Sweep) → m.sweep ≡ s → Makes acks m (sweep_answered m bytes s).manager
  reply_makes bytes None e = same acks m w
  reply_makes bytes (Some s) e = by_judged (judged s bytes) refl
    where
      t : Sweep
      t = after_reply s bytes

      by_judged : (r : Result Answer SweepFault) → judged s bytes ≡ r → Makes acks m (answered_by m s bytes r).manager
      by_judged (Err why) taken = same acks m w
      by_judged (Ok answer) taken =
          let grows = reply_grows s bytes (request_of s bytes) in
          let none : length s.queued ≡ 0 = ap length (subst IsSentWhole e w) in
          let more = requests_out t.generation t.queued in
          let few = few_requests more in
          let many : length more ≡ length t.queued = length-map t.queued (λ r. record { packet = packet_of t.generation r; to = None }) in
          let was : next_in m.sweep ≡ s.next = ap next_in e in
          record {
            more = more;
            outgoing = refl;
            whole = refl;
            next = omega (arith, was, grows.next);
            still = λ rests. absurd (takes_none s bytes answer (sym (ap is_running e) ∙ rests) taken);
            paid = omega (arith, was, grows.paid, few, many, none);
          }

  sweep_times_out : (transaction : ℕ) (s : Option Sweep) → m.sweep ≡ s → Makes acks m (sweep_gave_up m transaction s).manager
  sweep_times_out transaction None e = same acks m w
  sweep_times_out transaction (Some s) e = by_fault (timeout_fault s transaction) refl
    where
      by_fault : (why : Option SweepFault) → timeout_fault s transaction ≡ why → Makes acks m (sweep_timed_out m s transaction why).manager
      by_fault (Some why) f = same acks m w
      by_fault None f =
          let was : next_in m.sweep ≡ s.next = ap next_in e in
          let o = request_with s.generation transaction s.outstanding in
          let next = timeout_next s o in
          record {
            more = [];
            outgoing = sym (append-nil m.outgoing);
            whole = timeout_grows s o ∙ subst IsSentWhole e w;
            next = omega (arith, was, next);
            still = λ rests. absurd (ends_none s transaction (sym (ap is_running e) ∙ rests) f);
            paid = omega (arith, was, next);
          }

-- steps of a writing -------------------------------------------------------------------------------------

pub passes_few : (phases : List Phase) → length (steps_of (without_empty_phases phases)) ≤ length (steps_of phases)
passes_few [] = omega arith
passes_few (p ∷ phases) = by (length p.steps == 0) (passes_few phases)
  where
    by : (b : Bool) → length (steps_of (without_empty_phases phases)) ≤ length (steps_of phases)
        → length (steps_of (cond b (without_empty_phases phases) (p ∷ phases))) ≤ length (steps_of (p ∷ phases))
    by true rest = let both = length-append p.steps (steps_of phases) in omega (arith, rest, both)
    by false rest = omega arith

-- the Sets of the next phase, and those that are then still to be sent
pub phase_paid : (phases : List Phase)
    → length (next_phase phases).steps + length (steps_of (without_empty_phases (drop 1 phases))) ≤ length (steps_of phases)
phase_paid [] = omega arith
phase_paid (p ∷ phases) =
    let both = length-append p.steps (steps_of phases) in
    let rest = passes_few phases in
    omega (arith, both, rest)

pub many_out : (n : ℕ) (steps : List Step) → length (steps_out n steps) ≡ length steps
many_out n [] = refl
many_out n (s ∷ steps) = let rest = many_out (suc n) steps in omega (arith, rest)

module _ (acks : ℕ) (m : Manager) (w : IsSentWhole m.sweep) where
  step_makes : (p : Pending) (was_done : Bool) → Makes acks m (unless_spent m (after_step m p was_done)).manager
  step_makes p was_done = unspent acks m w (after_step m p was_done) (by_writing m.writing refl)
    where
      ended : (o : Option Writing) → Manager
      ended o = record m { pending = without_number p.number m.pending; writing = noted (counts p) was_done o }

      by_writing : (o : Option Writing) → m.writing ≡ o → Makes acks m (went_on_with (ended o) (noted (counts p) was_done o))
      by_writing None e = still acks m w (ended None) refl refl (sym e)
      by_writing (Some v) e =
          let was : sets_to_come m ≡ length (steps_of v.later) = ap (λ o. length (steps_to_come o)) e in
          let steps = (next_phase v.later).steps in
          let out = steps_out m.counter steps in
          let few = few_requests out in
          let many = many_out m.counter steps in
          let paid = phase_paid v.later in
          cond_both (no_step_waits (without_number p.number m.pending)) _ _ (Makes acks m)
          (λ _. record {
            more = out;
            outgoing = refl;
            whole = w;
            next = omega arith;
            still = λ _. refl;
            paid = omega (arith, was, few, many, paid);
          })
          (λ _. record {
            more = [];
            outgoing = sym (append-nil m.outgoing);
            whole = w;
            next = omega arith;
            still = λ _. refl;
            paid = omega (arith, was);
          })

  pub request_makes : (p : Pending) (answer : Option ℕ) (u : Purpose) → Makes acks m (after_request m p answer u).manager
  request_makes p answer purpose.Poll = still acks m w _ refl refl refl
  request_makes p answer purpose.Control = still acks m w _ refl refl refl
  request_makes p answer (purpose.Step counts) = step_makes p (is_done_by answer)

  time_makes : (transaction : ℕ) → Makes acks m (after_time m transaction).manager
  time_makes transaction =
      cond_both (nat_le (2 ^ 32) transaction) (sweep_gave_up m transaction m.sweep) (request_gave_up m (with_number transaction m.pending))
      (λ (c : Called). Makes acks m c.manager) (λ _. sweep_times_out acks m w transaction m.sweep refl)
      (λ _. by_pending (with_number transaction m.pending))
    where
      by_pending : (o : Option Pending) → Makes acks m (request_gave_up m o).manager
      by_pending None = same acks m w
      by_pending (Some p) = request_makes p None p.purpose

-- requests of others ---------------------------------------------------------------------------------------

module _ (m : Manager) (w : IsSentWhole m.sweep) (bytes : List ℕ) (from : Option ℕ) (long : 4 ≤ length bytes) where
  acknowledges : (x : Manager) (out : Outgoing) (to : Option Way) (message : Option Message) → x.outgoing ≡ m.outgoing ++ out ∷ []
      → x.sweep ≡ m.sweep → x.writing ≡ m.writing → is_request out ≡ false → Makes 1 m (after_message x to message)
  acknowledges x out None message outgoing sweep writing none =
      let few = others_count_not out [] none in queues 1 m w x (out ∷ []) outgoing sweep writing (omega (arith, few))
  acknowledges x out (Some way) None outgoing sweep writing none =
      let few = others_count_not out [] none in queues 1 m w x (out ∷ []) outgoing sweep writing (omega (arith, few))
  acknowledges x out (Some way) (Some message) outgoing sweep writing none =
      let ack = control_out x.standing x.counter way (control_of_message message) in
      let few = others_count_not out (ack ∷ []) none in
      let one = few_requests (ack ∷ []) in
      queues 1 m w (after_message x (Some way) (Some message)) (out ∷ ack ∷ [])
      (ap (λ packets. packets ++ ack ∷ []) outgoing ∙ append_assoc m.outgoing (out ∷ []) (ack ∷ [])) sweep writing
      (omega (arith, few, one))

  control_makes : (move : Transition) → Makes 1 m (moved_on (request_counted m) bytes from move)
  control_makes move =
      let moved = record (request_counted m) { standing = moved_to move.state (request_counted m).standing } in
      let out = answer_out moved.standing bytes from (status_of move) in
      acknowledges (answering moved bytes from (status_of move)) out (acknowledged_by bytes from) move.message refl refl refl
      (answer_is_none moved.standing bytes from (status_of move) long)

  replies : (acks : ℕ) → Makes acks m (replying m bytes from)
  replies acks =
      let out = answer_out (request_counted m).standing bytes from (status_for bytes) in
      let few = others_count_not out [] (answer_is_none (request_counted m).standing bytes from (status_for bytes) long) in
      queues acks m w (replying m bytes from) (out ∷ []) refl refl refl (omega (arith, few))

  serves : (acks : ℕ) → (may_control m.standing bytes ≡ true → acks ≡ 1) → Makes acks m (served m bytes from)
  serves acks one =
      cond_both (may_control m.standing bytes) (controlled m bytes from) (replying m bytes from) (Makes acks m)
      (λ e. subst (λ (n : ℕ). Makes n m (controlled m bytes from)) (sym (one e))
      (control_makes (stepped m.standing.conduct m.standing.state (event.Control (number_in attribute_modifier bytes)))))
      (λ _. replies acks)

-- any packet --------------------------------------------------------------------------------------------------

pub and_both : (a b : Bool) → a ≡ true → b ≡ true → (a && b) ≡ true
and_both true true e f = refl
and_both true false e f = f
and_both false b e f = e

module _ (m : Manager) (w : IsSentWhole m.sweep) (bytes : List ℕ) (from : Option ℕ) where
  abbrev acks : ℕ
  acks = one_if (is_control bytes)

  packet_makes_by : (fault : Option SmpFault) → Makes acks m (packet_taken m bytes from fault).manager
  packet_makes_by (Some why) = same acks m w
  packet_makes_by None = by_tests (is_info_request bytes) (represses m bytes) (is_for_sweep bytes) refl
    where
      by_pending : (o : Option Pending) → Makes acks m (request_answered m bytes o).manager
      by_pending None = same acks m w
      by_pending (Some p) = request_makes acks m w p (Some (status bytes)) p.purpose

      by_tests : (a t b : Bool) → is_info_request bytes ≡ a
          → Makes acks m (cond a (unless_spent m (served m bytes from)) (cond t (done (repressing m bytes from))
          (cond b (sweep_answered m bytes m.sweep) (request_answered m bytes (pending_for m bytes))))).manager
      by_tests true t b e =
          let info = (and_parts (not (is_response bytes)) (number_in attribute_id bytes == sm_info) e).1 in
          unspent acks m w (served m bytes from) (serves m w bytes from (has_method bytes info) acks
          (λ may. ap one_if (and_both (number_in method bytes == set) (number_in attribute_id bytes == sm_info)
          (and_parts (number_in method bytes == set) _ may).0 info)))
      by_tests false true b e =
          let few = others_count_not (repress_out bytes from) [] (repress_is_none bytes from) in
          queues acks m w (repressing m bytes from) (repress_out bytes from ∷ []) refl refl refl (omega (arith, few))
      by_tests false false true e = reply_makes acks m w bytes m.sweep refl
      by_tests false false false e = by_pending (pending_for m bytes)

pub packet_makes : (m : Manager) → IsSentWhole m.sweep → (bytes : List ℕ) (from : Option ℕ)
    → Makes (one_if (is_control bytes)) m (after_call m (Call.Packet bytes from))
packet_makes m w bytes from = packet_makes_by m w bytes from (fault_of bytes)

pub timeout_makes : (m : Manager) → IsSentWhole m.sweep → (transaction : ℕ) → Makes 0 m (after_call m (Call.Timeout transaction))
timeout_makes m w transaction = time_makes 0 m w transaction
