-- The request at the index that was found is the first that is late.
use Rattle.std.proofs.Common.{◌≡◌, ap, set, sym, ◌∙◌}
use Rattle.std.specs.Prelude.{None, position}
use Rattle.request_window.specs.Window.{LateOutcome, is_late, late_in}
use Rattle.request_window.proofs.Firsts.{first_again, first_given_up, none_is_late}
use Rattle.request_window.proofs.overdue.judge_late.Goals as goal

none : (c : goal.After-from_residual) → late_in c.args.limits c.args.time c.args.outs.now.items ≡ record { outs = c.args.outs.now.items; late = None }
none c =
    none_is_late c.args.limits c.args.time c.args.outs.now.items
    (ap (position (is_late c.args.time)) (sym c.deref.ensures.value) ∙ sym c.first_late.ensures ∙ c.in_err-index.was)

pub returns-in_err-index-clause-outs : goal.returns-in_err-index-clause-outs
returns-in_err-index-clause-outs c = sym (ap (λ (l : LateOutcome). l.outs) (none c))

pub returns-in_err-index-clause-late : goal.returns-in_err-index-clause-late
returns-in_err-index-clause-late c = c.from_residual.ensures ∙ sym (ap (λ (l : LateOutcome). l.late) (none c))

pub returns-then-send_again : goal.returns-then-send_again
returns-then-send_again c =
    let again = first_again c.args.limits c.args.time c.args.outs.now.items c.in_ok-index.index c.index.result.now
    (ap (position (is_late c.args.time)) (sym c.deref.ensures.value) ∙ sym c.first_late.ensures ∙ c.in_ok-index.was)
    c.index.ensures (sym c.send_again.ensures ∙ c.if-send_again.true) in
    record {
      outs = ap (set c.args.outs.now.items c.in_ok-index.index) c.out_at.ensures ∙ sym (ap (λ (l : LateOutcome). l.outs) again);
      late = sym (ap (λ (l : LateOutcome). l.late) again);
    }

pub returns-else-send_again : goal.returns-else-send_again
returns-else-send_again c =
    let given_up = first_given_up c.args.limits c.args.time c.args.outs.now.items c.in_ok-index.index c.index.result.now
    (ap (position (is_late c.args.time)) (sym c.deref.ensures.value) ∙ sym c.first_late.ensures ∙ c.in_ok-index.was)
    c.index.ensures (sym c.send_again.ensures ∙ c.if-send_again.false) in
    record {
      outs = c.remove.ensures.items ∙ sym (ap (λ (l : LateOutcome). l.outs) given_up);
      late = sym (ap (λ (l : LateOutcome). l.late) given_up);
    }
