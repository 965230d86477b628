-- What is left is the manager that has answered.
use Rattle.std.proofs.Common.{◌≡◌, ◌++◌, ◌∷◌, [], refl, sym, ap, ◌∙◌}
use Rattle.std.proofs.lemmas.Result.{err_from_is_err_and}
use Rattle.sm_state.specs.Standing.{after_request_heard}
use Rattle.sm_manager.specs.Manager.{Manager}
use Rattle.sm_manager.specs.SmInfoAnswers.{answer_out, replying, status_for}
use Rattle.sm_manager.proofs.Messages.{none_taken, spent_fault, unspent}
use Rattle.sm_manager.proofs.manager.Manager.reply.Goals as goal

pub returns-in_err-make_room-clause-judged : goal.returns-in_err-make_room-clause-judged
returns-in_err-make_room-clause-judged c =
    let m : Manager = c.args.self.now in
    let after : Manager = replying m c.args.smp.now c.args.from in
    let q = err_from_is_err_and c.from_residual.result c.from_residual.ensures.1 in
    let spent = spent_fault m after _ (none_taken _ m after c.self.view_is refl) in
    rw (q.1, q.2, spent) c.in_err-make_room.ensures.judged

pub returns-clause-judged : goal.returns-clause-judged
returns-clause-judged c =
    let m : Manager = c.args.self.now in
    let after : Manager = replying m c.args.smp.now c.args.from in
    spent_fault m after _ (none_taken _ m after c.self.view_is refl) ∙ c.in_ok-make_room.ensures.judged

pub returns-clause-ok : goal.returns-clause-ok
returns-clause-ok c =
    let m : Manager = c.args.self.now in
    let packet = c.args.smp.now in
    let from = c.args.from in
    let after : Manager = replying m packet from in
    let room = c.make_room.ensures in
    let counter = room.counter ∙ ap (λ (x : Manager). x.counter) c.self.view_is in
    let pending = room.pending ∙ ap (λ (x : Manager). x.pending) c.self.view_is in
    let outgoing = room.outgoing ∙ ap (λ (x : Manager). x.outgoing) c.self.view_is in
    let counted : c.count_request.new.self ≡ after_request_heard m.standing =
    c.count_request.ensures ∙ (λ i. after_request_heard (c.self.view_is i).standing) in
    let answers : c.answer-answer.result ≡ answer_out (after_request_heard m.standing) packet from (status_for packet) =
    c.answer-answer.ensures ∙ (λ i. answer_out (counted i) packet from (c.status_for.ensures.status i)) in
    let goes = c.push_back_reserved.ensures.items ∙ (λ i. outgoing i ++ answers i ∷ []) in
    (λ i. record (c.self.view_is i) { standing = counted i; counter = counter i; pending = pending i; outgoing = goes i })
    ∙ unspent m after (sym (spent_fault m after m.counter refl) ∙ spent_fault m after _ (none_taken _ m after c.self.view_is refl)
    ∙ c.in_ok-make_room.ensures.judged)
