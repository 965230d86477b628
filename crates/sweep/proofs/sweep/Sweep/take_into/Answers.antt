use Rattle.std.proofs.Common.{ap, sym, subst, ◌∙◌}
use Rattle.std.proofs.lemmas.Result.{err_from_is_err_and}
use Rattle.sweep.specs.Accepting.{IsAccepted}
use Rattle.sweep.specs.Sweep.{Sweep}
use Rattle.sweep.proofs.Taken.{IsReady, few_then, judges_err, valid_then}
use Rattle.sweep.proofs.sweep.Sweep.take_into.Goals as goal
use Rattle.sweep.proofs.sweep.Sweep.take_into.Goals.{After-put-2}

ready : (g : _) (c : After-put-2 g) → IsReady c.args.self.now c.reserve.new.self c.reserve-2.new.self
ready g c =
    record {
      next = c.reserve.ensures.next ∙ ap (λ (v : Sweep). v.next) c.self.view_is;
      outstanding = c.reserve.ensures.outstanding ∙ ap (λ (v : Sweep). v.outstanding) c.self.view_is;
      queued = c.reserve.ensures.queued ∙ ap (λ (v : Sweep). v.queued) c.self.view_is;
      reached = c.reserve-2.ensures.reached ∙ ap (λ (v : Sweep). v.reached) c.self.view_is;
      states = c.reserve-2.ensures.states ∙ ap (λ (v : Sweep). v.states) c.self.view_is;
      too_far = c.reserve-2.ensures.too_far ∙ ap (λ (v : Sweep). v.too_far) c.self.view_is;
    }

pub returns-in_err-accepted-clause-judged : goal.returns-in_err-accepted-clause-judged
returns-in_err-accepted-clause-judged g c =
    let p = err_from_is_err_and c.from_residual.result c.from_residual.ensures.1 in
    rw (p.1, p.2) (judges_err c.args.self.now c.args.smp.now c.in_err-accepted.field-0.0 c.in_err-accepted.ensures.err)

pub invariant_of-self-2 : goal.invariant_of-self-2
invariant_of-self-2 g c =
    valid_then _ c.args.smp.now c.in_ok-accepted.accepted
    (subst (λ (s : Sweep). IsAccepted s c.args.smp.now c.in_ok-accepted.accepted) (sym c.self.view_is) c.in_ok-accepted.ensures.ok)
    c.reserve.new.self c.take.new.self c.reserve-2.new.self c.put.new.self
    (record {
      next = c.reserve.ensures.next;
      outstanding = c.reserve.ensures.outstanding;
      queued = c.reserve.ensures.queued;
      reached = c.reserve-2.ensures.reached;
      states = c.reserve-2.ensures.states;
      too_far = c.reserve-2.ensures.too_far;
    })
    c.take.ensures c.put-2.new.self.kept c.self.invariant
    (record { reached = c.put.ensures.reached; states = c.put.ensures.states; too_far = c.put.ensures.too_far })

pub returns-clause-few : goal.returns-clause-few
returns-clause-few g c =
    few_then c.args.self.now c.args.smp.now c.in_ok-accepted.accepted c.in_ok-accepted.ensures.ok c.reserve.new.self c.take.new.self c.reserve-2.new.self
    c.put.new.self (ready g c) c.take.ensures
