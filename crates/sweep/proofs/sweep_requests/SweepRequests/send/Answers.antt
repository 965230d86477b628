use Rattle.std.proofs.Common.{◌++◌, ◌<◌, ◌^◌, take, drop, length, length-take, ap, sym, ◌∙◌, subst, arith}
use Rattle.sweep.specs.SweepRequests.{SweepRequests}
use Rattle.sweep.proofs.Asked.{drop_next, take_next}
use Rattle.sweep.proofs.sweep_requests.SweepRequests.send.Goals as goal

pub returns-clause-outstanding : goal.returns-clause-outstanding
returns-clause-outstanding c =
    take_next c.self.inside.sent c.self.inside.table.requests ∙ ap (λ (v : SweepRequests). v.outstanding ++ take 1 v.queued) c.self.view_is

pub returns-clause-queued : goal.returns-clause-queued
returns-clause-queued c = drop_next c.self.inside.sent c.self.inside.table.requests ∙ ap (λ (v : SweepRequests). drop 1 v.queued) c.self.view_is

pub overflow_add-self : goal.overflow_add-self
overflow_add-self c =
    let few : length (take c.self.inside.sent c.self.inside.table.requests) < 2 ^ 32 =
    subst (λ (v : SweepRequests). length v.outstanding < 2 ^ 32) (sym c.self.view_is) c.requires.few in
    let long = length-take c.self.inside.sent c.self.inside.table.requests in
    omega (arith, few, long, c.self.invariant)
