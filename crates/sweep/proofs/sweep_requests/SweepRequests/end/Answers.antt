-- The one that has ended was among those that wait; the others stay as they were.
use Rattle.std.proofs.Common.{◌≡◌, ℕ, ◌-◌, ◌++◌, ◌<◌, ◌≤◌, List, length, take, drop, ap, sym, ◌∙◌, subst, arith, length-take}
use Rattle.std.specs.Prelude.{Some, slice_get}
use Rattle.std.proofs.lemmas.List.{get_or-take, take-append-drop}
use Rattle.std.proofs.lemmas.Option.{slice_get-get_or}
use Rattle.sweep.specs.declared.request.Request.{Request}
use Rattle.sweep.specs.SweepRequests.{SweepRequests}
use Rattle.sweep.specs.Sweep.{AreRising, without_number}
use Rattle.sweep.proofs.Numbers.{Remains, remains}
use Rattle.sweep.proofs.sweep_requests.SweepRequests.end.Goals as goal

left : (c : goal.After-end) → Remains c.self.inside.table.requests c.self.inside.sent c.args.index c.end.result
left c =
    let rs : List Request = c.self.inside.table.requests in
    let sent : ℕ = c.self.inside.sent in
    let lt : c.args.index < length (take sent rs) = subst (λ (v : SweepRequests). c.args.index < length v.outstanding) (sym c.self.view_is) c.requires in
    let long = length-take sent rs in
    let within : c.args.index < sent = omega (arith, lt, long) in
    let at : slice_get (take sent rs) c.args.index ≡ Some c.end.result =
    slice_get-get_or (take sent rs) c.args.index c.end.result lt
    ∙ ap (λ x. Some x) (get_or-take sent rs c.args.index c.end.result within)
    ∙ sym (slice_get-get_or rs c.args.index c.end.result (omega (arith, within, c.self.invariant))) ∙ sym c.end.ensures.request in
    let rising : AreRising 0 (take sent rs ++ drop sent rs) c.self.inside.table.next =
    subst (λ (l : List Request). AreRising 0 l c.self.inside.table.next) (sym (take-append-drop sent rs)) c.end.ensures.numbered.rising in
    remains rs sent c.args.index c.self.inside.table.next c.end.result rising c.self.invariant at

pub invariant_of-self : goal.invariant_of-self
invariant_of-self c = subst (λ (l : List Request). c.self.inside.sent - 1 ≤ length l) (sym c.end.ensures.moved) (left c).within

pub returns-clause-outstanding : goal.returns-clause-outstanding
returns-clause-outstanding c =
    ap (λ rs. take (c.self.inside.sent - 1) rs) c.end.ensures.moved
    ∙ (left c).first
    ∙ ap (λ (v : SweepRequests). without_number c.end.result.number v.outstanding) c.self.view_is

pub returns-clause-queued : goal.returns-clause-queued
returns-clause-queued c =
    ap (λ rs. drop (c.self.inside.sent - 1) rs) c.end.ensures.moved
    ∙ (left c).later
    ∙ ap (λ (v : SweepRequests). v.queued) c.self.view_is
