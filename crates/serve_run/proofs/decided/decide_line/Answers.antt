use Rattle.std.proofs.Common.{◌++◌, ◌∙◌, ap, subst}
use Rattle.std.proofs.lemmas.Result.{err_from_is_err_and}
use Rattle.acting_manager.specs.Acting.{Acting, value_of}
use Rattle.acting_manager.specs.Working.{given_away, wake_of}
use Rattle.byte_io.specs.Prints.{Prints}
use Rattle.byte_io.proofs.Writing.{prints_both, wrote}
use Rattle.schedule_lines.proofs.Printing.{ends_in, failed_with, prints_same, prints_then}
use Rattle.serve_run.specs.Decided.{after_manage, decided, given_out, wake_line}
use Rattle.serve_run.specs.Served.{end_line}
use Rattle.serve_run.proofs.Calls.{all_well, on_ok}
use Rattle.serve_run.proofs.decided.decide_line.Goals as goal

pub returns-in_err-do_line : goal.returns-in_err-do_line
unfolding decided
returns-in_err-do_line g c =
    let p = err_from_is_err_and c.from_residual.result c.from_residual.ensures.1 in
    let o = after_manage (value_of c.args.acting.now) c.args.line in
    let fault = c.in_err-do_line.field-0.0 in
    let gives = (given_out o.now).text in
    let ends = wake_line (wake_of (given_away o.now)) ++ end_line in
    record {
      decides = rw (p.1, p.2) (record {
        leaves = tt;
        prints = ends_in g.W.Sink.written g.W.Sink.has_failed fault c.args.sink.now c.do_line.new.sink (o.text ++ gives) ends
            (ends_in g.W.Sink.written g.W.Sink.has_failed fault c.args.sink.now c.do_line.new.sink o.text gives c.in_err-do_line.ensures.does.prints);
      });
      flushed = rw p.1 tt;
    }

pub returns-in_err-give_out : goal.returns-in_err-give_out
unfolding decided
returns-in_err-give_out g c =
    let p = err_from_is_err_and c.from_residual-in_err-give_out.result c.from_residual-in_err-give_out.ensures.1 in
    let o = after_manage (value_of c.args.acting.now) c.args.line in
    let fault = c.in_err-give_out.field-0.0 in
    let gives = (given_out o.now).text in
    let ends = wake_line (wake_of (given_away o.now)) ++ end_line in
    let given = prints_same g.W.Sink.written g.W.Sink.has_failed (failed_with fault) c.do_line.new.sink c.give_out.new.sink _ _
    (ap (λ (a : Acting). (given_out a).text) c.in_ok-do_line.ensures.does.leaves) c.in_err-give_out.ensures.gives.prints in
    record {
      decides = rw (p.1, p.2) (record {
        leaves = tt;
        prints = ends_in g.W.Sink.written g.W.Sink.has_failed fault c.args.sink.now c.give_out.new.sink (o.text ++ gives) ends
            (prints_then g.W.Sink.written g.W.Sink.has_failed (failed_with fault) c.args.sink.now c.do_line.new.sink c.give_out.new.sink o.text gives
            c.in_ok-do_line.ensures.does.prints given);
      });
      flushed = rw p.1 tt;
    }

pub returns : goal.returns
unfolding decided
returns g c =
    let o = after_manage (value_of c.args.acting.now) c.args.line in
    let gives = (given_out o.now).text in
    let given = prints_same g.W.Sink.written g.W.Sink.has_failed all_well c.do_line.new.sink c.give_out.new.sink _ _
    (ap (λ (a : Acting). (given_out a).text) c.in_ok-do_line.ensures.does.leaves) c.in_ok-give_out.ensures.gives.prints in
    let left = c.in_ok-give_out.ensures.gives.leaves ∙ ap given_away c.in_ok-do_line.ensures.does.leaves in
    let wakes = subst (λ wake. Prints g.W.Sink.written g.W.Sink.has_failed c.give_out.new.sink c.write_wake.new.sink (wake_line wake))
    (c.wake.ensures ∙ ap wake_of left)
    (wrote g.W.Sink.written g.W.Sink.has_failed c.in_ok-write_wake.field-0 c.give_out.new.sink c.write_wake.new.sink (wake_line c.wake.result)
    c.in_ok-write_wake.ensures.writes) in
    record {
      decides = record {
        leaves = on_ok c.end_answer.result _ left;
        prints = prints_then g.W.Sink.written g.W.Sink.has_failed c.end_answer.result c.args.sink.now c.give_out.new.sink c.end_answer.new.sink
            (o.text ++ gives) (wake_line (wake_of (given_away o.now)) ++ end_line)
            (prints_both g.W.Sink.written g.W.Sink.has_failed c.args.sink.now c.do_line.new.sink c.give_out.new.sink o.text gives
            c.in_ok-do_line.ensures.does.prints given)
            (prints_then g.W.Sink.written g.W.Sink.has_failed c.end_answer.result c.give_out.new.sink c.write_wake.new.sink c.end_answer.new.sink
            (wake_line (wake_of (given_away o.now))) end_line wakes c.end_answer.ensures.prints);
      };
      flushed = c.end_answer.ensures.flushed;
    }
