use Rattle.std.proofs.Common.{◌≡◌, ◌∙◌, ◌+◌, drop, get_or, refl, sym, ap, subst}
use Rattle.std.proofs.lemmas.Result.{err_from_is_err_and}
use Rattle.sm_manager.specs.Manager.{Manager, outstanding}
use Rattle.sm_manager.specs.Packets.{after_timeout}
use Rattle.schedule_lines.specs.Outcome.{Outcome}
use Rattle.schedule_lines.proofs.Printing.{IsUnderWay, begins, ends_unprinted, failed_with, goes_on, is_over, prints_same, stops_in}
use Rattle.serve_run.specs.Served.{after_called, after_giving_up}
use Rattle.serve_run.proofs.Calls.{all_well}
use Rattle.serve_run.proofs.Turns.{given_next, given_none}
use Rattle.serve_run.proofs.served.give_up.Goals as goal

pub loop-transaction-preserved : goal.loop-transaction-preserved
loop-transaction-preserved g c =
    let items = c.deref-transaction-items.result.now in
    let i = c.loop-transaction.transaction-index in
    let m = c.loop-transaction.manager in
    let whole = after_giving_up c.args.manager.now items in
    let Under : g.row.W.Denot → Outcome Manager → Type 0 =
    λ now outcome. IsUnderWay g.W.Sink.written g.W.Sink.has_failed c.args.sink.now now whole outcome in
    let gone = goes_on g.W.Sink.written g.W.Sink.has_failed c.args.sink.now c.loop-transaction.sink c.time_out.new.sink whole
    (after_called (after_timeout m (get_or items i 0))) (λ now. after_giving_up now (drop (i + 1) items))
    (subst (Under c.loop-transaction.sink) (given_next m items i c.loop-transaction-test.true) c.loop-transaction.invariant)
    c.in_ok-time_out.ensures.does.prints in
    subst (λ (v : Manager). Under c.time_out.new.sink (after_giving_up v (drop (i + 1) items))) (sym c.in_ok-time_out.ensures.does.leaves) gone

pub loop-transaction-init : goal.loop-transaction-init
loop-transaction-init g c =
    begins g.W.Sink.written g.W.Sink.has_failed c.args.sink.now (after_giving_up c.args.manager.now c.deref-transaction-items.result.now)

pub returns-in_err-waiting : goal.returns-in_err-waiting
returns-in_err-waiting g c =
    let p = err_from_is_err_and c.from_residual.result c.from_residual.ensures.1 in
    record {
      does = rw (p.1, p.2) (record {
        leaves = tt;
        prints = ends_unprinted g.W.Sink.written g.W.Sink.has_failed c.args.sink.now c.args.sink.now _ refl;
      });
    }

pub returns-in_err-time_out : goal.returns-in_err-time_out
returns-in_err-time_out g c =
    let p = err_from_is_err_and c.from_residual-in_err-time_out.result c.from_residual-in_err-time_out.ensures.1 in
    let items = c.deref-transaction-items.result.now in
    let i = c.loop-transaction.transaction-index in
    let m = c.loop-transaction.manager in
    let whole = after_giving_up c.args.manager.now items in
    let Under : Outcome Manager → Type 0 =
    λ outcome. IsUnderWay g.W.Sink.written g.W.Sink.has_failed c.args.sink.now c.loop-transaction.sink whole outcome in
    let all = ap (after_giving_up c.args.manager.now) (c.deref-transaction-items.ensures.value ∙ c.in_ok-waiting.ensures) in
    record {
      does = rw (p.1, p.2) (record {
        leaves = tt;
        prints = prints_same g.W.Sink.written g.W.Sink.has_failed (failed_with c.in_err-time_out.field-0.0) c.args.sink.now c.time_out.new.sink _ _
            (ap (λ r. r.text) all)
            (stops_in g.W.Sink.written g.W.Sink.has_failed c.in_err-time_out.field-0.0 c.args.sink.now c.loop-transaction.sink c.time_out.new.sink whole
            (after_called (after_timeout m (get_or items i 0))) (λ now. after_giving_up now (drop (i + 1) items))
            (subst Under (given_next m items i c.loop-transaction-test.true) c.loop-transaction.invariant) c.in_err-time_out.ensures.does.prints);
      });
    }

pub returns : goal.returns
returns g c =
    let items = c.deref-transaction-items.result.now in
    let m = c.loop-transaction.manager in
    let whole = after_giving_up c.args.manager.now items in
    let all : whole ≡ after_giving_up c.args.manager.now (outstanding c.args.manager.now) =
    ap (after_giving_up c.args.manager.now) (c.deref-transaction-items.ensures.value ∙ c.in_ok-waiting.ensures) in
    let none = given_none m items c.loop-transaction.transaction-index c.loop-transaction-test.false in
    record {
      does = record {
        leaves = ap (λ r. r.now) (sym none) ∙ c.loop-transaction.invariant.same ∙ ap (λ r. r.now) all;
        prints = prints_same g.W.Sink.written g.W.Sink.has_failed all_well c.args.sink.now c.loop-transaction.sink _ _ (ap (λ r. r.text) all)
            (is_over g.W.Sink.written g.W.Sink.has_failed c.args.sink.now c.loop-transaction.sink whole _ c.loop-transaction.invariant
            (ap (λ r. r.text) none));
      };
    }
