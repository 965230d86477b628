use Rattle.std.proofs.Common.{◌∙◌, ◌+◌, ◌-◌, ap, subst, sym}
use Rattle.std.proofs.lemmas.Result.{err_from_is_err_and}
use Rattle.schedule_run.specs.Commands.{after_drain_line}
use Rattle.schedule_run.specs.Delivery.{after_step}
use Rattle.schedule_lines.specs.Outcome.{Outcome}
use Rattle.schedule_run.specs.World.{WorldValue, value_of}
use Rattle.schedule_lines.proofs.Printing.{IsUnderWay, goes_on, is_over, stops_in}
use Rattle.schedule_run.proofs.Turns.{drain_end, drain_next, drain_none}
use Rattle.schedule_run.proofs.world.World.drain.Goals as goal

pub loop-step-preserved : goal.loop-step-preserved
loop-step-preserved g c =
    let w = value_of c.loop-step.self in
    let left = c.args.most - (c.loop-step._step + 1) in
    let whole = after_drain_line (value_of c.args.self.now) c.args.most in
    let Under : g.row.W.Denot → Outcome WorldValue → Type 0 =
    λ now outcome. IsUnderWay g.W.Sink.written g.W.Sink.has_failed c.args.sink.now now whole outcome in
    let gone = goes_on g.W.Sink.written g.W.Sink.has_failed c.args.sink.now c.loop-step.sink c.deliver.new.sink whole
    (after_step w c.in-Some.first.now.serial) (λ now. after_drain_line now left)
    (subst (Under c.loop-step.sink) (drain_next w c.args.most c.loop-step._step c.in-Some.first.now c.loop-step-test.true (sym c.in-Some.ensures))
    c.loop-step.invariant.drains)
    c.in_ok-deliver.ensures.does.prints in
    record {
      managers = c.in_ok-deliver.ensures.does.managers ∙ c.loop-step.invariant.managers;
      drains = subst (λ v. Under c.deliver.new.sink (after_drain_line v left)) (sym c.in_ok-deliver.ensures.does.leaves) gone;
    }

pub returns-in_err-deliver : goal.returns-in_err-deliver
returns-in_err-deliver g c =
    let p = err_from_is_err_and c.from_residual.result c.from_residual.ensures.1 in
    let w = value_of c.loop-step.self in
    let whole = after_drain_line (value_of c.args.self.now) c.args.most in
    let Under : Outcome WorldValue → Type 0 = λ outcome. IsUnderWay g.W.Sink.written g.W.Sink.has_failed c.args.sink.now c.loop-step.sink whole outcome in
    record {
      does = rw (p.1, p.2) (record {
        managers = c.in_err-deliver.ensures.does.managers ∙ c.loop-step.invariant.managers;
        leaves = tt;
        prints = stops_in g.W.Sink.written g.W.Sink.has_failed c.in_err-deliver.field-0.0 c.args.sink.now c.loop-step.sink c.deliver.new.sink whole
            (after_step w c.in-Some.first.now.serial) (λ now. after_drain_line now (c.args.most - (c.loop-step._step + 1)))
            (subst Under (drain_next w c.args.most c.loop-step._step c.in-Some.first.now c.loop-step-test.true (sym c.in-Some.ensures))
            c.loop-step.invariant.drains)
            c.in_err-deliver.ensures.does.prints;
      });
    }

pub returns-in_default : goal.returns-in_default
returns-in_default g c =
    let none = drain_none (value_of c.loop-step.self) (c.args.most - c.loop-step._step) (sym c.in_default.ensures) in
    record {
      does = record {
        managers = c.loop-step.invariant.managers;
        leaves = ap (λ r. r.now) (sym none) ∙ c.loop-step.invariant.drains.same;
        prints = is_over g.W.Sink.written g.W.Sink.has_failed c.args.sink.now c.loop-step.sink _ _ c.loop-step.invariant.drains (ap (λ r. r.text) none);
      };
    }

pub returns : goal.returns
returns g c =
    let none = drain_end (value_of c.loop-step.self) c.args.most c.loop-step._step c.loop-step-test.false in
    record {
      does = record {
        managers = c.loop-step.invariant.managers;
        leaves = ap (λ r. r.now) (sym none) ∙ c.loop-step.invariant.drains.same;
        prints = is_over g.W.Sink.written g.W.Sink.has_failed c.args.sink.now c.loop-step.sink _ _ c.loop-step.invariant.drains (ap (λ r. r.text) none);
      };
    }
