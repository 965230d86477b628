-- One index can have the packet's number.
use Rattle.std.proofs.Common.{◌≡◌, ℕ, sym, ◌∙◌, ap, subst}
use Rattle.std.specs.Prelude.{None, find, nat_lt, option_copied, slice_get}
use Rattle.smp_bytes.specs.Field.{number_in}
use Rattle.smp_bytes.specs.Packet.{transaction_id}
use Rattle.request_table.specs.Numbers.{IsIndexFor}
use Rattle.request_table.specs.Order.{IsIndex}
use Rattle.request_table.proofs.Numbers.{located, index_none, index_other, index_found}
use Rattle.sm_manager.specs.declared.pending.Pending.{Pending}
use Rattle.sm_manager.specs.Packets.{answers}
use Rattle.sm_manager.specs.ManagerRequests.{AreNumbered, ManagerRequests}
use Rattle.sm_manager.proofs.Numbers.{only_answered}
use Rattle.sm_manager.proofs.manager_requests.ManagerRequests.index_for.Goals as goal

pub returns-in_err-request : goal.returns-in_err-request
returns-in_err-request c =
    let packet = c.args.smp.now in
    let ps = c.args.self.now.pending in
    let i = c.count_below-index.result in
    let none : slice_get ps i ≡ None = sym c.get.ensures ∙ ap (option_copied {T = Pending}) (c.in_err-request.was) in
    subst (IsIndexFor (find (answers packet) ps) ps) (sym c.from_residual.ensures)
    (index_none (answers packet) ps i
    (located (λ (p : Pending). p.number) (number_in transaction_id packet) (answers packet) ps c.args.self.now.counter i (only_answered packet)
    (subst (λ (v : ManagerRequests). AreNumbered v.counter v.pending) c.self.view_is c.count_below-index.ensures.numbered).rising
    (subst (λ (n : ℕ). IsIndex (λ (p : Pending). nat_lt p.number n) ps i) c.transaction_id.ensures
    (subst (λ (v : ManagerRequests). IsIndex (λ (p : Pending). nat_lt p.number c.transaction_id.result) v.pending i) c.self.view_is
    c.count_below-index.ensures.index))) none)

pub returns-then-is_answered_by : goal.returns-then-is_answered_by
returns-then-is_answered_by c =
    let packet = c.args.smp.now in
    let ps = c.args.self.now.pending in
    let i = c.count_below-index.result in
    index_found (answers packet) ps i
    (located (λ (p : Pending). p.number) (number_in transaction_id packet) (answers packet) ps c.args.self.now.counter i (only_answered packet)
    (subst (λ (v : ManagerRequests). AreNumbered v.counter v.pending) c.self.view_is c.count_below-index.ensures.numbered).rising
    (subst (λ (n : ℕ). IsIndex (λ (p : Pending). nat_lt p.number n) ps i) c.transaction_id.ensures
    (subst (λ (v : ManagerRequests). IsIndex (λ (p : Pending). nat_lt p.number c.transaction_id.result) v.pending i) c.self.view_is
    c.count_below-index.ensures.index)))
    c.in_ok-request.request.now (sym (c.in_ok-request.ensures)) (sym c.is_answered_by.ensures ∙ c.if-is_answered_by.true)

pub returns-else-is_answered_by : goal.returns-else-is_answered_by
returns-else-is_answered_by c =
    let packet = c.args.smp.now in
    let ps = c.args.self.now.pending in
    let i = c.count_below-index.result in
    index_other (answers packet) ps i
    (located (λ (p : Pending). p.number) (number_in transaction_id packet) (answers packet) ps c.args.self.now.counter i (only_answered packet)
    (subst (λ (v : ManagerRequests). AreNumbered v.counter v.pending) c.self.view_is c.count_below-index.ensures.numbered).rising
    (subst (λ (n : ℕ). IsIndex (λ (p : Pending). nat_lt p.number n) ps i) c.transaction_id.ensures
    (subst (λ (v : ManagerRequests). IsIndex (λ (p : Pending). nat_lt p.number c.transaction_id.result) v.pending i) c.self.view_is
    c.count_below-index.ensures.index)))
    c.in_ok-request.request.now (sym (c.in_ok-request.ensures)) (sym c.is_answered_by.ensures ∙ c.if-is_answered_by.false)
