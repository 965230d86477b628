-- Those that wait and those that are to be sent are the table.
use Rattle.std.proofs.Common.{ℕ, ◌-◌, ◌*◌, ◌^◌, Bool, List, ◌++◌, sym, subst}
use Rattle.std.proofs.lemmas.List.{take-append-drop}
use Rattle.std.specs.Prelude.{nat_lt}
use Rattle.request_table.specs.Numbers.{AreNumbered}
use Rattle.request_table.specs.Order.{IsIndex}
use Rattle.sweep.specs.declared.request.Request.{Request}
use Rattle.sweep.specs.SweepRequests.{SweepRequests}
use Rattle.sweep.proofs.sweep_requests.SweepRequests.count_below.Goals as goal

pub returns-clause-index : goal.returns-clause-index
returns-clause-index c =
    let rs : List Request = c.self.inside.table.requests in
    let sent : ℕ = c.self.inside.sent in
    let below : ℕ → Request → Bool = λ n r. nat_lt r.number n in
    let number : ℕ = c.args.transaction - c.args.generation * 2 ^ 32 in
    let there : IsIndex (below number) rs c.count_below.result =
    subst (λ (n : ℕ). IsIndex (below n) rs c.count_below.result) c.sequence_of.ensures c.count_below.ensures.index in
    subst (λ (v : SweepRequests). IsIndex (below number) (v.outstanding ++ v.queued) c.count_below.result) c.self.view_is
    (subst (λ (l : List Request). IsIndex (below number) l c.count_below.result) (sym (take-append-drop sent rs)) there)

pub returns-clause-numbered : goal.returns-clause-numbered
returns-clause-numbered c =
    let rs : List Request = c.self.inside.table.requests in
    let sent : ℕ = c.self.inside.sent in
    subst (λ (v : SweepRequests). AreNumbered (λ (r : Request). r.number) (v.outstanding ++ v.queued) v.next) c.self.view_is
    (subst (λ (l : List Request). AreNumbered (λ (r : Request). r.number) l c.self.inside.table.next) (sym (take-append-drop sent rs))
    c.count_below.ensures.numbered)
