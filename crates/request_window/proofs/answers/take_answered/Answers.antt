-- The request at the index that was found is the first that the packet answers.
use Rattle.std.proofs.Common.{◌≡◌, ap, sym, ◌∙◌}
use Rattle.std.specs.Prelude.{None, Some, position, remove}
use Rattle.request_window.specs.Window.{TakenOut, answers, first_out}
use Rattle.request_window.proofs.Firsts.{none_passes, passes_at}
use Rattle.request_window.proofs.answers.take_answered.Goals as goal

none : (c : goal.After-from_residual) → first_out (answers c.args.packet.now) c.args.outs.now.items ≡ record { outs = c.args.outs.now.items; request = None }
none c =
    none_passes (answers c.args.packet.now) c.args.outs.now.items
    (ap (position (answers c.args.packet.now)) (sym c.deref.ensures.value) ∙ sym c.first_answered.ensures ∙ c.in_err-index.was)

one : (c : goal.After-remove) → first_out (answers c.args.packet.now) c.args.outs.now.items
    ≡ record { outs = remove c.args.outs.now.items c.in_ok-index.index; request = Some c.remove.result.request }
one c =
    passes_at (answers c.args.packet.now) c.args.outs.now.items c.in_ok-index.index c.remove.result
    (ap (position (answers c.args.packet.now)) (sym c.deref.ensures.value) ∙ sym c.first_answered.ensures ∙ c.in_ok-index.was)
    c.remove.ensures.value

pub returns-in_err-index-clause-outs : goal.returns-in_err-index-clause-outs
returns-in_err-index-clause-outs c = sym (ap (λ (t : TakenOut). t.outs) (none c))

pub returns-in_err-index-clause-request : goal.returns-in_err-index-clause-request
returns-in_err-index-clause-request c = c.from_residual.ensures ∙ sym (ap (λ (t : TakenOut). t.request) (none c))

pub returns-clause-outs : goal.returns-clause-outs
returns-clause-outs c = c.remove.ensures.items ∙ sym (ap (λ (t : TakenOut). t.outs) (one c))

pub returns-clause-request : goal.returns-clause-request
returns-clause-request c = sym (ap (λ (t : TakenOut). t.request) (one c))
