-- A step ends as its purpose says.
use Rattle.std.proofs.Common.{◌≡◌, ℕ, Bool, sym, ap, ◌∙◌, subst}
use Rattle.std.specs.Prelude.{Option, Some, slice_get, option_map, OnOk}
use Rattle.request_table.proofs.Indices.{some_is}
use Rattle.smp_bytes.specs.Judges.{JudgesButFor}
use Rattle.sm_manager.specs.declared.pending.Pending.{Pending}
use Rattle.sm_manager.specs.declared.pending.Purpose.{Purpose}
use Rattle.sm_manager.specs.declared.pending.Purpose.TheVariants.{Step}
use Rattle.sm_manager.specs.Fault.{is_memory}
use Rattle.sm_manager.specs.Manager.{Manager}
use Rattle.sm_manager.specs.Packets.{Called, after_request, status_number, unless_spent}
use Rattle.sm_manager.specs.Writing.{is_done_by, after_step}
use Rattle.sm_manager.proofs.manager.Manager.end_request.Goals as goal

step_at : (before m : Manager) (i : ℕ) (p : Pending) (why : Purpose) (counts : Bool) (answer : Option ℕ) (was_done : Bool) → before ≡ m
    → Some why ≡ option_map (λ (q : Pending). q.purpose) (slice_get before.pending i) → why ≡ Step counts
    → slice_get m.pending i ≡ Some p → was_done ≡ is_done_by answer
    → unless_spent m (after_step m p was_done) ≡ after_request m p answer p.purpose
step_at before m i p why counts answer was_done same for_this step at done =
    let there : slice_get before.pending i ≡ Some p = ap (λ (x : Manager). slice_get x.pending i) same ∙ at in
    let purpose : why ≡ p.purpose = some_is why p.purpose (for_this ∙ ap (option_map (λ (q : Pending). q.purpose)) there) in
    ap (λ b. unless_spent m (after_step m p b)) done ∙ ap (after_request m p answer) (sym step ∙ purpose)

pub returns-in-Step-clause-judged : goal.returns-in-Step-clause-judged
returns-in-Step-clause-judged c p at =
    subst (λ (x : Called). JudgesButFor is_memory c.end_step.result x.fault)
    (step_at _ c.args.self.now c.args.index p c.purpose.result c.in-Step.counts (status_number c.args.answer) c.is_done_by.result c.self.view_is
    c.purpose.ensures c.in-Step.is at c.is_done_by.ensures)
    (c.end_step.ensures.judged p at)

pub returns-in-Step-clause-ok : goal.returns-in-Step-clause-ok
returns-in-Step-clause-ok c p at =
    subst (λ (x : Called). OnOk c.end_step.result (c.end_step.new.self ≡ x.manager))
    (step_at _ c.args.self.now c.args.index p c.purpose.result c.in-Step.counts (status_number c.args.answer) c.is_done_by.result c.self.view_is
    c.purpose.ensures c.in-Step.is at c.is_done_by.ensures)
    (c.end_step.ensures.ok p at)
