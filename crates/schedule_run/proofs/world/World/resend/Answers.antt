use Rattle.std.proofs.Common.{◌∙◌, ◌+◌, ◌-◌, ap, subst, sym}
use Rattle.std.proofs.lemmas.Result.{err_from_is_err_and}
use Rattle.schedule_run.specs.Commands.{after_resend, after_resends}
use Rattle.schedule_lines.specs.Outcome.{Outcome}
use Rattle.schedule_run.specs.World.{WorldValue, value_of}
use Rattle.schedule_lines.proofs.Printing.{IsUnderWay, failed_with, goes_on, is_over, prints_same, stops_in}
use Rattle.schedule_run.proofs.Doing.{does_same, done_with}
use Rattle.schedule_run.proofs.Turns.{resend_end, resend_next}
use Rattle.schedule_run.proofs.world.World.resend.Goals as goal

pub loop-id-preserved : goal.loop-id-preserved
loop-id-preserved g c =
    let w = value_of c.loop-id.self in
    let count = c.node_count-count.result in
    let left = count - (c.loop-id.id + 1) in
    let whole = after_resends (value_of c.args.self.now) 0 count in
    let Under : g.row.W.Denot → Outcome WorldValue → Type 0 =
    λ now outcome. IsUnderWay g.W.Sink.written g.W.Sink.has_failed c.args.sink.now now whole outcome in
    let sent = does_same g.W.Sink.written g.W.Sink.has_failed c.loop-id.self c.resend_one.new.self _ c.loop-id.sink c.resend_one.new.sink _ _
    (ap (after_resend w) c.new.ensures) c.in_ok-resend_one.ensures.does in
    let gone = goes_on g.W.Sink.written g.W.Sink.has_failed c.args.sink.now c.loop-id.sink c.resend_one.new.sink whole
    (after_resend w c.loop-id.id) (λ now. after_resends now (c.loop-id.id + 1) left)
    (subst (Under c.loop-id.sink) (resend_next w count c.loop-id.id c.loop-id-test.true) c.loop-id.invariant.resends) sent.prints in
    record {
      managers = c.in_ok-resend_one.ensures.does.managers ∙ c.loop-id.invariant.managers;
      resends = subst (λ v. Under c.resend_one.new.sink (after_resends v (c.loop-id.id + 1) left)) (sym sent.leaves) gone;
    }

pub returns-in_err-resend_one : goal.returns-in_err-resend_one
returns-in_err-resend_one g c =
    let p = err_from_is_err_and c.from_residual.result c.from_residual.ensures.1 in
    let w = value_of c.loop-id.self in
    let count = c.node_count-count.result in
    let whole = after_resends (value_of c.args.self.now) 0 count in
    let Under : Outcome WorldValue → Type 0 = λ outcome. IsUnderWay g.W.Sink.written g.W.Sink.has_failed c.args.sink.now c.loop-id.sink whole outcome in
    let sent = does_same g.W.Sink.written g.W.Sink.has_failed c.loop-id.self c.resend_one.new.self _ c.loop-id.sink c.resend_one.new.sink _ _
    (ap (after_resend w) c.new.ensures) c.in_err-resend_one.ensures.does in
    record {
      does = rw (p.1, p.2) (record {
        managers = c.in_err-resend_one.ensures.does.managers ∙ c.loop-id.invariant.managers;
        leaves = tt;
        prints = prints_same g.W.Sink.written g.W.Sink.has_failed (failed_with c.in_err-resend_one.field-0.0) c.args.sink.now c.resend_one.new.sink _ _
            (ap (λ n. (after_resends (value_of c.args.self.now) 0 n).text) c.node_count-count.ensures)
            (stops_in g.W.Sink.written g.W.Sink.has_failed c.in_err-resend_one.field-0.0 c.args.sink.now c.loop-id.sink c.resend_one.new.sink whole
            (after_resend w c.loop-id.id) (λ now. after_resends now (c.loop-id.id + 1) (count - (c.loop-id.id + 1)))
            (subst Under (resend_next w count c.loop-id.id c.loop-id-test.true) c.loop-id.invariant.resends) sent.prints);
      });
    }

pub returns : goal.returns
returns g c =
    let none = resend_end (value_of c.loop-id.self) c.node_count-count.result c.loop-id.id c.loop-id-test.false in
    record {
      does = record {
        managers = c.loop-id.invariant.managers;
        leaves = ap (λ r. r.now) (sym none) ∙ c.loop-id.invariant.resends.same
            ∙ ap (λ n. (after_resends (value_of c.args.self.now) 0 n).now) c.node_count-count.ensures;
        prints = prints_same g.W.Sink.written g.W.Sink.has_failed (done_with tt) c.args.sink.now c.loop-id.sink _ _
            (ap (λ n. (after_resends (value_of c.args.self.now) 0 n).text) c.node_count-count.ensures)
            (is_over g.W.Sink.written g.W.Sink.has_failed c.args.sink.now c.loop-id.sink _ _ c.loop-id.invariant.resends (ap (λ r. r.text) none));
      };
    }
