-- What the table of states says goes to the receiver.
use Rattle.std.proofs.Common.{◌≡◌, ◌+◌, [], ◌∷◌, ◌++◌, sym, ap, ◌∙◌, subst}
use Rattle.sm_state.specs.declared.transition.Transition.{Transition}
use Rattle.sm_state.specs.Control.{modifier_of_control}
use Rattle.sm_manager.specs.declared.pending.Purpose.TheVariants.{Control}
use Rattle.sm_manager.specs.contracts.manager.Manager.{the_view}
use Rattle.sm_manager.specs.Election.{control_out, handed_to, receiver_way, info_pending}
use Rattle.sm_manager.specs.Manager.{Manager}
use Rattle.sm_state.specs.Standing.{moved_to}
use Rattle.sm_manager.proofs.ReceiverLids.{handed_parts}
use Rattle.sm_manager.proofs.manager.Manager.hand_to.Goals as goal

pub returns-clause-ok : goal.returns-clause-ok
returns-clause-ok c =
    let m = the_view c.self.inside in
    let requests = c.send_control.new.requests in
    let out = c.send_control.new.outgoing in
    let standing = c.move_to.new.self in
    let way = c.in_ok-way.way in
    let kept = c.reserve.ensures in
    let sent = c.send_control.ensures in
    subst
    (λ (x : Manager). record m { standing = standing; counter = requests.counter; pending = requests.pending; outgoing = out.items }
    ≡ handed_to x (receiver_way x c.args.receiver))
    c.self.view_is
    (handed_parts m standing requests.counter requests.pending out.items (receiver_way m c.args.receiver) way c.in-Some.message
    (ap (λ (x : Manager). receiver_way x c.args.receiver) c.self.view_is ∙ c.in_ok-way.ensures.way)
    (sym (ap (λ (t : Transition). t.message) c.step-transition.ensures) ∙ c.in-Some.is)
    (c.move_to.ensures ∙ ap (λ (t : Transition). moved_to t.state m.standing) c.step-transition.ensures)
    (sent.counter ∙ ap (λ n. n + 1) kept.counter)
    (sent.pending ∙ (λ i. kept.pending i ++ info_pending (kept.counter i) Control (modifier_of_control (c.control.ensures i)) way ∷ []))
    (sent.outgoing ∙ (λ i. kept.outgoing i ++ control_out standing (kept.counter i) way (c.control.ensures i) ∷ [])))
