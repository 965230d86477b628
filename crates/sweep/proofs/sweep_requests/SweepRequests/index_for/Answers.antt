-- One index can have the packet's TransactionID.
use Rattle.std.proofs.Common.{◌≡◌, Bool, sym, ◌∙◌, ap, subst}
use Rattle.std.specs.Prelude.{None, find, slice_get, option_copied}
use Rattle.request_table.specs.Numbers.{IsIndexFor}
use Rattle.request_table.proofs.Numbers.{index_none, index_other, index_found}
use Rattle.sweep.specs.declared.request.Request.{Request}
use Rattle.sweep.specs.Replies.{belongs}
use Rattle.sweep.proofs.Numbers.{located_for}
use Rattle.sweep.proofs.sweep_requests.SweepRequests.index_for.Goals as goal

pub returns-in_err-request : goal.returns-in_err-request
returns-in_err-request c =
    let v = c.args.self.now in
    let test : Request → Bool = belongs c.args.generation c.args.smp.now in
    let i = c.count_below-index.result in
    let none : slice_get v.outstanding i ≡ None = sym c.get.ensures ∙ ap (option_copied {T = Request}) (c.in_err-request.was) in
    subst (IsIndexFor (find test v.outstanding) v.outstanding) (sym c.from_residual.ensures)
    (index_none test v.outstanding i
    (located_for c.args.generation c.transaction_id.result v.outstanding v.queued v.next i c.count_below-index.ensures.numbered
    c.count_below-index.ensures.index
    c.args.smp.now c.transaction_id.ensures) none)

pub returns-then-is_answered_by : goal.returns-then-is_answered_by
returns-then-is_answered_by c =
    let v = c.args.self.now in
    let test : Request → Bool = belongs c.args.generation c.args.smp.now in
    let i = c.count_below-index.result in
    index_found test v.outstanding i
    (located_for c.args.generation c.transaction_id.result v.outstanding v.queued v.next i c.count_below-index.ensures.numbered
    c.count_below-index.ensures.index
    c.args.smp.now c.transaction_id.ensures)
    c.in_ok-request.request.now (sym (c.in_ok-request.ensures)) (sym c.is_answered_by.ensures ∙ c.if-is_answered_by.true)

pub returns-else-is_answered_by : goal.returns-else-is_answered_by
returns-else-is_answered_by c =
    let v = c.args.self.now in
    let test : Request → Bool = belongs c.args.generation c.args.smp.now in
    let i = c.count_below-index.result in
    index_other test v.outstanding i
    (located_for c.args.generation c.transaction_id.result v.outstanding v.queued v.next i c.count_below-index.ensures.numbered
    c.count_below-index.ensures.index
    c.args.smp.now c.transaction_id.ensures)
    c.in_ok-request.request.now (sym (c.in_ok-request.ensures)) (sym c.is_answered_by.ensures ∙ c.if-is_answered_by.false)
