-- The request at the index is the one that the packet answers.
use Rattle.std.proofs.Common.{◌≡◌, ℕ, sym, ap, ◌∙◌, subst}
use Rattle.std.specs.Prelude.{Some, slice_get, OnOk}
use Rattle.smp_bytes.specs.Judges.{JudgesButFor}
use Rattle.sm_manager.specs.Fault.{is_memory}
use Rattle.sm_manager.specs.Manager.{Manager}
use Rattle.sm_manager.specs.Packets.{Called, pending_for, request_answered, after_request, status_number}
use Rattle.sm_manager.proofs.manager.Manager.take_answer.Goals as goal

-- what the answer comes to
comes_to : (c : goal.After-end_request)
    → after_request c.args.self.now (c.in-Some.ensures.0) (status_number (Some c.status.result)) (c.in-Some.ensures.0).purpose
    ≡ request_answered c.args.self.now c.args.smp.now (pending_for c.args.self.now c.args.smp.now)
comes_to c =
    let m = c.args.self.now in
    let p = c.in-Some.ensures.0 in
    let found : pending_for m c.args.smp.now ≡ Some p = ap (λ (x : Manager). pending_for x c.args.smp.now) (sym c.self.view_is) ∙ c.in-Some.ensures.2 in
    ap (λ (n : ℕ). after_request m p (Some n) p.purpose) c.status.ensures
    ∙ ap (request_answered m c.args.smp.now) (sym found)

there : (c : goal.After-end_request) → slice_get c.args.self.now.pending c.in-Some.index ≡ Some (c.in-Some.ensures.0)
there c = ap (λ (x : Manager). slice_get x.pending c.in-Some.index) (sym c.self.view_is) ∙ c.in-Some.ensures.1

pub returns-in-Some-clause-judged : goal.returns-in-Some-clause-judged
returns-in-Some-clause-judged c =
    subst (λ (x : Called). JudgesButFor is_memory c.end_request.result x.fault) (comes_to c) (c.end_request.ensures.judged (c.in-Some.ensures.0) (there c))

pub returns-in-Some-clause-ok : goal.returns-in-Some-clause-ok
returns-in-Some-clause-ok c =
    subst (λ (x : Called). OnOk c.end_request.result (c.end_request.new.self ≡ x.manager)) (comes_to c)
    (c.end_request.ensures.ok (c.in-Some.ensures.0) (there c))
