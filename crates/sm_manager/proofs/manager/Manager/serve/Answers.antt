-- A control is obeyed, and what is none is answered.
use Rattle.std.proofs.Common.{◌≡◌, ℕ, true, false, List, sym, ap, ◌∙◌, subst}
use Rattle.std.proofs.lemmas.Bool.{cond-true, cond-false}
use Rattle.std.specs.Prelude.{Option, OnOk}
use Rattle.smp_bytes.specs.Judges.{JudgesButFor}
use Rattle.sm_manager.specs.Fault.{is_memory}
use Rattle.sm_manager.specs.Manager.{Manager}
use Rattle.sm_manager.specs.Packets.{Called, unless_spent}
use Rattle.sm_manager.specs.SmInfoAnswers.{controlled, is_control, replying, served}
use Rattle.sm_manager.proofs.manager.Manager.serve.Goals as goal

obeys : (m : Manager) (packet : List ℕ) (from : Option ℕ) → is_control m.standing packet ≡ true → unless_spent m (controlled m packet from)
    ≡ unless_spent m (served m packet from)
obeys m packet from holds = ap (unless_spent m) (sym (cond-true (is_control m.standing packet) (controlled m packet from) (replying m packet from) holds))

replies : (m : Manager) (packet : List ℕ) (from : Option ℕ) → is_control m.standing packet ≡ false → unless_spent m (replying m packet from)
    ≡ unless_spent m (served m packet from)
replies m packet from fails = ap (unless_spent m) (sym (cond-false (is_control m.standing packet) (controlled m packet from) (replying m packet from) fails))

pub returns-then-is_control-clause-judged : goal.returns-then-is_control-clause-judged
returns-then-is_control-clause-judged c =
    subst (λ (x : Called). JudgesButFor is_memory c.answer_control.result x.fault)
    (obeys c.args.self.now c.args.smp.now c.args.from
    (ap (λ (x : Manager). is_control x.standing c.args.smp.now) (sym c.self.view_is) ∙ sym c.is_control.ensures ∙ c.if-is_control.true))
    c.answer_control.ensures.judged

pub returns-then-is_control-clause-ok : goal.returns-then-is_control-clause-ok
returns-then-is_control-clause-ok c =
    subst (λ (x : Called). OnOk c.answer_control.result (c.answer_control.new.self ≡ x.manager))
    (obeys c.args.self.now c.args.smp.now c.args.from
    (ap (λ (x : Manager). is_control x.standing c.args.smp.now) (sym c.self.view_is) ∙ sym c.is_control.ensures ∙ c.if-is_control.true))
    c.answer_control.ensures.ok

pub returns-else-is_control-clause-judged : goal.returns-else-is_control-clause-judged
returns-else-is_control-clause-judged c =
    subst (λ (x : Called). JudgesButFor is_memory c.reply.result x.fault)
    (replies c.args.self.now c.args.smp.now c.args.from
    (ap (λ (x : Manager). is_control x.standing c.args.smp.now) (sym c.self.view_is) ∙ sym c.is_control.ensures ∙ c.if-is_control.false))
    c.reply.ensures.judged

pub returns-else-is_control-clause-ok : goal.returns-else-is_control-clause-ok
returns-else-is_control-clause-ok c =
    subst (λ (x : Called). OnOk c.reply.result (c.reply.new.self ≡ x.manager))
    (replies c.args.self.now c.args.smp.now c.args.from
    (ap (λ (x : Manager). is_control x.standing c.args.smp.now) (sym c.self.view_is) ∙ sym c.is_control.ensures ∙ c.if-is_control.false))
    c.reply.ensures.ok
