-- One index can have the TransactionID.
use Rattle.std.proofs.Common.{◌≡◌, Bool, sym, ◌∙◌, ap, subst}
use Rattle.std.proofs.lemmas.Bool.{eq-eqb, ne_eqb}
use Rattle.std.specs.Prelude.{None, find, slice_get, option_copied, ◌==◌}
use Rattle.request_table.specs.Numbers.{IsIndexFor}
use Rattle.request_table.proofs.Numbers.{index_none, index_other, index_found}
use Rattle.sweep.specs.declared.request.Request.{Request}
use Rattle.sweep.specs.Sweep.{transaction_of}
use Rattle.sweep.proofs.Numbers.{located}
use Rattle.sweep.proofs.sweep_requests.SweepRequests.index_of.Goals as goal

pub returns-in_err-request : goal.returns-in_err-request
returns-in_err-request c =
    let v = c.args.self.now in
    let test : Request → Bool = λ r. transaction_of c.args.generation r.number == c.args.transaction in
    let i = c.count_below-index.result in
    let none : slice_get v.outstanding i ≡ None = sym c.get.ensures ∙ ap (option_copied {T = Request}) (c.in_err-request.was) in
    subst (IsIndexFor (find test v.outstanding) v.outstanding) (sym c.from_residual.ensures)
    (index_none test v.outstanding i
    (located c.args.generation c.args.transaction v.outstanding v.queued v.next i c.count_below-index.ensures.numbered c.count_below-index.ensures.index) none)

pub returns-then-transaction_of-transaction : goal.returns-then-transaction_of-transaction
returns-then-transaction_of-transaction c =
    let v = c.args.self.now in
    let test : Request → Bool = λ r. transaction_of c.args.generation r.number == c.args.transaction in
    let i = c.count_below-index.result in
    index_found test v.outstanding i
    (located c.args.generation c.args.transaction v.outstanding v.queued v.next i c.count_below-index.ensures.numbered c.count_below-index.ensures.index)
    c.in_ok-request.request.now (sym (c.in_ok-request.ensures)) (eq-eqb _ _ (sym c.transaction_of.ensures ∙ c.if-transaction_of-transaction.true))

pub returns-else-transaction_of-transaction : goal.returns-else-transaction_of-transaction
returns-else-transaction_of-transaction c =
    let v = c.args.self.now in
    let test : Request → Bool = λ r. transaction_of c.args.generation r.number == c.args.transaction in
    let i = c.count_below-index.result in
    index_other test v.outstanding i
    (located c.args.generation c.args.transaction v.outstanding v.queued v.next i c.count_below-index.ensures.numbered c.count_below-index.ensures.index)
    c.in_ok-request.request.now (sym (c.in_ok-request.ensures)) (ne_eqb _ _ (λ e. c.if-transaction_of-transaction.false (c.transaction_of.ensures ∙ e)))
