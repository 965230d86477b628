use Rattle.std.proofs.Common.{[], sym, ◌∙◌, append-nil, arith}
use Rattle.sweep.proofs.Valid.{valid_ended}
use Rattle.sweep.proofs.sweep.Sweep.on_timeout.Goals as goal

pub invariant_of-self : goal.invariant_of-self
invariant_of-self c =
    valid_ended _ _ c.in-Some.index c.end-ended.result [] c.self.invariant
    (record {
      waited = sym c.end-ended.ensures.request;
      next = omega (arith, c.end-ended.ensures.next);
      fits = omega (arith, c.end-ended.ensures.next, c.self.invariant.next);
      outstanding = c.end-ended.ensures.outstanding;
      queued = c.end-ended.ensures.queued ∙ sym (append-nil c.self.inside.requests.queued);
      reached = c.self.invariant.reached;
      states = c.self.invariant.states;
      counted = omega arith;
      silent = omega (arith, c.managers_asked.ensures.within, c.self.invariant.silent);
    })
