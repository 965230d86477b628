-- A reply that is taken: the requests and what was found afterwards, and that a sweep stays one.
use Rattle.std.proofs.Common.{◌≡◌, ℕ, ◌+◌, ◌≤◌, Bool, true, false, List, ◌++◌, length, refl, arith, ap, sym, ◌∙◌, subst, length-append}
use Rattle.std.specs.Prelude.{Option, Some, None, Ok, Err, slice_get}
use Rattle.std.specs.Result.{result_err}
use Rattle.std.proofs.lemmas.Bool.{cond-true, cond-false}
use Rattle.smp_bytes.specs.declared.smp_fault.SmpFault.{SmpFault}
use Rattle.smp_bytes.specs.Packet.{fault_of}
use Rattle.attr_codec.specs.declared.port_state.PortState.{PortState}
use Rattle.reply_facts.specs.declared.report_fault.ReportFault.{ReportFault}
use Rattle.smp_bytes.specs.Judges.{JudgesButFor}
use Rattle.sweep.specs.declared.answer.Answer.{Answer}
use Rattle.sweep.specs.Fault.{is_memory}
use Rattle.sweep.specs.declared.fault.SweepFault.{SweepFault}
use Rattle.sweep.specs.declared.fault.SweepFault.TheVariants.{NotOutstanding, Bad, SequenceSpent, Memory}
use Rattle.sweep.specs.declared.finding.Finding.{Finding}
use Rattle.sweep.specs.declared.finding.Finding.TheVariants.{Nothing, NewVertex, Port}
use Rattle.sweep.specs.declared.finding.Onward.{Onward}
use Rattle.sweep.specs.declared.finding.Onward.TheVariants.{Stays, Leads, TooFar}
use Rattle.sweep.specs.declared.vertex.Vertex.{Vertex}
use Rattle.sweep.specs.declared.vertex.SeenState.{SeenState}
use Rattle.sweep.specs.declared.on_reply.Accepted.{Accepted}
use Rattle.sweep.specs.declared.request.Request.{Request}
use Rattle.sweep.specs.Accepting.{IsAccepted}
use Rattle.sweep.specs.Finding.{one_too_far, too_far_by, with_vertex, with_state, with_state_of}
use Rattle.sweep.specs.Questions.{questions}
use Rattle.sweep.specs.Discovered.{Discovered}
use Rattle.sweep.specs.Images.{Images}
use Rattle.sweep.specs.Order.{AreInOrder}
use Rattle.sweep.specs.Replies.{answer_for, fault_for, is_spent, judged, judged_as, judged_by, judged_for, request_of}
use Rattle.sweep.specs.SweepRequests.{SweepRequests}
use Rattle.sweep.specs.Sweep.{IsSweep, Sweep, numbered, state_key, vertex_key, without_number}
use Rattle.sweep.specs.Taking.{HasTaken}
use Rattle.sweep.proofs.Asked.{length_numbered}
use Rattle.request_table.proofs.Indices.{some_is}
use Rattle.sweep.proofs.Indices.{placed_ordered}
use Rattle.sweep.proofs.Valid.{valid_ended}

-- out of memory is no judgement ---------------------------------------------------------------

never_by : (s : Sweep) (r : Request) (packet : List ℕ) (o : Option ReportFault) → judged_by s r packet o ≡ Err Memory → ⊥
never_by s r packet (Some why) e = cc
never_by s r packet None e = by (is_spent s r packet) refl
  where
    by : (b : Bool) → is_spent s r packet ≡ b → ⊥
    by true f = cc (e, cond-true (is_spent s r packet) (Err SequenceSpent) (Ok (answer_for s r packet)) f)
    by false f = cc (e, cond-false (is_spent s r packet) (Err SequenceSpent) (Ok (answer_for s r packet)) f)

never_for : (s : Sweep) (packet : List ℕ) (o : Option Request) → judged_for s packet o ≡ Err Memory → ⊥
never_for s packet None e = cc
never_for s packet (Some r) e = never_by s r packet (fault_for s r packet) e

never_as : (s : Sweep) (packet : List ℕ) (o : Option SmpFault) → judged_as s packet o ≡ Err Memory → ⊥
never_as s packet (Some why) e = cc
never_as s packet None e = never_for s packet (request_of s packet) e

pub judges_err : (s : Sweep) (packet : List ℕ) (why : SweepFault) → judged s packet ≡ Err why
    → JudgesButFor {T = Answer} is_memory (Err why) (result_err (judged s packet))
judges_err s packet NotOutstanding e = ap result_err e
judges_err s packet (Bad why) e = ap result_err e
judges_err s packet SequenceSpent e = ap result_err e
judges_err s packet Memory e = absurd (never_as s packet (fault_of packet) e)

-- what was found -----------------------------------------------------------------------------

pub vertices_ordered : (f : Finding) (reached : List Vertex) → AreInOrder vertex_key reached → AreInOrder vertex_key (with_vertex f reached)
vertices_ordered Nothing reached ordered = ordered
vertices_ordered (NewVertex v) reached ordered = placed_ordered vertex_key v reached ordered
vertices_ordered (Port found) reached ordered = ordered

state_ordered : (guid port : ℕ) (state : Option PortState) (states : List SeenState) → AreInOrder state_key states
    → AreInOrder state_key (with_state_of guid port state states)
state_ordered guid port None states ordered = ordered
state_ordered guid port (Some state) states ordered = placed_ordered state_key (record { guid = guid; port = port; state = state }) states ordered

pub states_ordered : (f : Finding) (states : List SeenState) → AreInOrder state_key states → AreInOrder state_key (with_state f states)
states_ordered Nothing states ordered = ordered
states_ordered (NewVertex v) states ordered = ordered
states_ordered (Port found) states ordered = state_ordered found.guid found.port found.state states ordered

one_at_most : (onward : Onward) → one_too_far onward ≤ 1
one_at_most Stays = omega arith
one_at_most Leads = omega arith
one_at_most TooFar = omega arith

pub too_far_once : (f : Finding) → too_far_by f ≤ 1
too_far_once Nothing = omega arith
too_far_once (NewVertex v) = omega arith
too_far_once (Port found) = one_at_most found.onward

-- the requests -----------------------------------------------------------------------------------

-- a sweep's requests, with room for more
pub record IsReady (s : Sweep) (requests : SweepRequests) (found : Discovered) : Type 0 where
  pub next : requests.next ≡ s.next
  pub outstanding : requests.outstanding ≡ s.outstanding
  pub queued : requests.queued ≡ s.queued
  pub reached : found.reached ≡ s.reached
  pub states : found.states ≡ s.states
  pub too_far : found.too_far ≡ s.too_far

-- and as the finding is put among what was found
pub record HasPut (f : Finding) (old new : Discovered) : Type 0 where
  pub reached : new.reached ≡ with_vertex f old.reached
  pub states : new.states ≡ with_state f old.states
  pub too_far : new.too_far ≡ old.too_far + too_far_by f

module _ (s : Sweep) (packet : List ℕ) (accepted : Accepted) (ok : IsAccepted s packet accepted) (mid new : SweepRequests) (before after : Discovered)
    (ready : IsReady s mid before) (taken : HasTaken accepted.index accepted.finding mid new) where
  same_request : taken.request ≡ ok.request
  same_request = some_is taken.request ok.request (sym taken.waited ∙ ap (λ l. slice_get l accepted.index) ready.outstanding ∙ ok.waits)

  pub next_then : new.next ≡ s.next + length (questions ok.request.path accepted.finding)
  next_then =
      let e = ap (λ (r : Request). length (questions r.path accepted.finding)) same_request in
      omega (arith, taken.next, e, ready.next)

  pub queued_then : new.queued ≡ s.queued ++ numbered s.next (questions ok.request.path accepted.finding)
  queued_then =
      taken.queued
      ∙ ap (λ (r : Request). mid.queued ++ numbered mid.next (questions r.path accepted.finding)) same_request
      ∙ ap (λ n. mid.queued ++ numbered n (questions ok.request.path accepted.finding)) ready.next
      ∙ ap (λ q. q ++ numbered s.next (questions ok.request.path accepted.finding)) ready.queued

  pub outstanding_then : new.outstanding ≡ without_number ok.request.number s.outstanding
  outstanding_then =
      taken.outstanding ∙ ap (λ (r : Request). without_number r.number mid.outstanding) same_request ∙ ap (without_number ok.request.number) ready.outstanding

  pub few_then : length new.queued ≤ length s.queued + 256
  few_then =
      let count = length_numbered s.next (questions ok.request.path accepted.finding) in
      let both = length-append s.queued (numbered s.next (questions ok.request.path accepted.finding)) in
      omega (arith, ap length queued_then, count, both, ok.few)

  pub valid_then : (images : Images) → IsSweep s → HasPut accepted.finding before after
      → IsSweep (record s {
        next = new.next;
        queued = new.queued;
        outstanding = new.outstanding;
        reached = after.reached;
        states = after.states;
        images = images;
        too_far =
            after.too_far;
      })
  valid_then images valid put =
      valid_ended s (record s {
        next = new.next;
        queued = new.queued;
        outstanding = new.outstanding;
        reached = after.reached;
        states = after.states;
        images = images;
        too_far =
            after.too_far;
      }) accepted.index ok.request (questions ok.request.path accepted.finding) valid
      (record {
        waited = ok.waits;
        next = next_then;
        fits = omega (arith, next_then, ok.number);
        outstanding = outstanding_then;
        queued = queued_then;
        reached = subst (AreInOrder vertex_key) (sym (put.reached ∙ ap (with_vertex accepted.finding) ready.reached))
            (vertices_ordered accepted.finding s.reached valid.reached);
        states = subst (AreInOrder state_key) (sym (put.states ∙ ap (with_state accepted.finding) ready.states))
            (states_ordered accepted.finding s.states valid.states);
        counted = let once = too_far_once accepted.finding in omega (arith, put.too_far, ready.too_far, once);
        silent = valid.silent;
      })
