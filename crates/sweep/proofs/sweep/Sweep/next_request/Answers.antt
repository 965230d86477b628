use Rattle.std.proofs.Common.{refl, ap, sym, ◌∙◌, arith, length-append}
use Rattle.std.specs.Prelude.{option_copied}
use Rattle.std.proofs.lemmas.Option.{slice_get_within}
use Rattle.sweep.specs.declared.request.Request.{Request}
use Rattle.sweep.proofs.Valid.{valid_moved}
use Rattle.sweep.proofs.sweep.Sweep.next_request.Goals as goal

pub invariant_of-self : goal.invariant_of-self
invariant_of-self c =
    valid_moved _ _ c.self.invariant
    (record {
      next = c.send.ensures.next;
      outstanding = c.send.ensures.outstanding;
      queued = c.send.ensures.queued;
      reached = refl;
      states = refl;
      unanswered = refl;
      silent_managers = refl;
      too_far = refl;
    })

pub send-requires-clause-few : goal.send-requires-clause-few
send-requires-clause-few c =
    let v = c.self.inside.requests in
    let both = length-append v.outstanding v.queued in
    let some = slice_get_within v.queued 0 _ (sym c.first.ensures ∙ ap (option_copied {T = Request}) c.in_ok-request.was) in
    omega (arith, both, some, c.self.invariant.counted, c.self.invariant.next)
