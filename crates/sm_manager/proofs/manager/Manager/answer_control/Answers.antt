-- What is left is the manager that has moved, answered and told.
use Rattle.std.proofs.Common.{◌≡◌, ◌+◌, ◌++◌, ◌∷◌, [], sym, ap, ◌∙◌}
use Rattle.std.proofs.lemmas.Result.{err_from_is_err_and}
use Rattle.smp_bytes.specs.Field.{number_in}
use Rattle.smp_bytes.specs.Packet.{attribute_modifier}
use Rattle.sm_state.specs.declared.event.Event.TheVariants as event
use Rattle.sm_state.specs.declared.transition.Transition.{Transition}
use Rattle.sm_state.specs.Standing.{after_request_heard, moved_to}
use Rattle.sm_state.specs.Transitions.{status_of, stepped}
use Rattle.sm_manager.specs.Election.{message_count, message_out, message_pending}
use Rattle.sm_manager.specs.Manager.{Manager}
use Rattle.sm_manager.specs.PlanFaults.{number_fault}
use Rattle.sm_manager.specs.SmInfoAnswers.{acknowledged_by, answer_out, answering, controlled}
use Rattle.sm_manager.proofs.Messages.{message_sent, numbers_taken, spent_fault, unspent}
use Rattle.sm_manager.proofs.manager.Manager.answer_control.Goals as goal

pub returns-clause-ok : goal.returns-clause-ok
returns-clause-ok c =
    let m : Manager = c.args.self.now in
    let packet = c.args.smp.now in
    let from = c.args.from in
    let move : Transition = stepped m.standing.conduct m.standing.state (event.Control (number_in attribute_modifier packet)) in
    let said = c.step-transition.result.message in
    let moves : c.step-transition.result ≡ move =
    c.step-transition.ensures
    ∙ (λ i. stepped (c.self.view_is i).standing.conduct (c.self.view_is i).standing.state (event.Control (c.attribute_modifier.ensures i))) in
    let to : c.acknowledged_by-way.result ≡ acknowledged_by packet from = c.acknowledged_by-way.ensures in
    let counted : c.count_request.new.self ≡ after_request_heard m.standing =
    c.count_request.ensures ∙ (λ i. after_request_heard (c.self.view_is i).standing) in
    let heard = after_request_heard m.standing in
    let stands : c.move_on-answer.new.standing ≡ moved_to move.state heard =
    c.move_on-answer.ensures.standing ∙ (λ i. moved_to (moves i).state (counted i)) in
    let answers : c.move_on-answer.result ≡ answer_out (moved_to move.state heard) packet from (status_of move) =
    c.move_on-answer.ensures.answer ∙ (λ i. answer_out (moved_to (moves i).state (counted i)) packet from (status_of (moves i))) in
    let room = c.make_room.ensures in
    let counter = room.counter ∙ ap (λ (x : Manager). x.counter) c.self.view_is in
    let pending = room.pending ∙ ap (λ (x : Manager). x.pending) c.self.view_is in
    let outgoing = room.outgoing ∙ ap (λ (x : Manager). x.outgoing) c.self.view_is in
    let counts = c.send_message.ensures.counter ∙ (λ i. counter i + message_count (to i) (moves i).message) in
    let waits = c.send_message.ensures.pending ∙ (λ i. pending i ++ message_pending (counter i) (to i) (moves i).message) in
    let goes = c.send_message.ensures.outgoing
    ∙ ap (λ xs. xs ++ message_out c.move_on-answer.new.standing c.make_room.new.requests.counter c.acknowledged_by-way.result said)
    c.push_back_reserved.ensures.items
    ∙ (λ i. (outgoing i ++ answers i ∷ []) ++ message_out (stands i) (counter i) (to i) (moves i).message) in
    let told = sym (message_sent (answering (record m { standing = moved_to move.state heard }) packet from (status_of move))
    (acknowledged_by packet from) move.message) in
    let number = numbers_taken _ m packet from c.acknowledged_by-way.result c.attribute_modifier.result c.message_count-count.result c.step-transition.result
    c.self.view_is c.acknowledged_by-way.ensures c.attribute_modifier.ensures c.step-transition.ensures c.message_count-count.ensures in
    (λ i. record (c.self.view_is i) { standing = stands i; counter = counts i; pending = waits i; outgoing = goes i }) ∙ told
    ∙ unspent m (controlled m packet from) (ap number_fault number ∙ c.in_ok-make_room.ensures.judged)

pub returns-clause-judged : goal.returns-clause-judged
returns-clause-judged c =
    let m : Manager = c.args.self.now in
    let packet = c.args.smp.now in
    let from = c.args.from in
    spent_fault m (controlled m packet from) _
    (numbers_taken _ m packet from c.acknowledged_by-way.result c.attribute_modifier.result c.message_count-count.result
    c.step-transition.result c.self.view_is c.acknowledged_by-way.ensures c.attribute_modifier.ensures c.step-transition.ensures c.message_count-count.ensures)
    ∙ c.in_ok-make_room.ensures.judged

pub returns-in_err-make_room-clause-judged : goal.returns-in_err-make_room-clause-judged
returns-in_err-make_room-clause-judged c =
    let m : Manager = c.args.self.now in
    let packet = c.args.smp.now in
    let from = c.args.from in
    let q = err_from_is_err_and c.from_residual.result c.from_residual.ensures.1 in
    let spent = spent_fault m (controlled m packet from) _
    (numbers_taken _ m packet from c.acknowledged_by-way.result c.attribute_modifier.result c.message_count-count.result
    c.step-transition.result c.self.view_is c.acknowledged_by-way.ensures c.attribute_modifier.ensures c.step-transition.ensures
    c.message_count-count.ensures) in
    rw (q.1, q.2, spent) c.in_err-make_room.ensures.judged
