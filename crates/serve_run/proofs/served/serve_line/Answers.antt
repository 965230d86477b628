use Rattle.std.proofs.Common.{◌++◌, ◌∙◌, ap}
use Rattle.std.specs.List.{flat_map}
use Rattle.std.proofs.lemmas.Result.{err_from_is_err_and}
use Rattle.sm_manager.specs.Manager.{emptied}
use Rattle.byte_io.proofs.Writing.{prints_both}
use Rattle.schedule_lines.proofs.Printing.{ends_in, failed_with, prints_then}
use Rattle.serve_run.specs.Served.{after_line, end_line, send_line, served}
use Rattle.serve_run.proofs.Calls.{all_well, on_ok, sends_same}
use Rattle.serve_run.proofs.served.serve_line.Goals as goal

pub returns-in_err-do_line : goal.returns-in_err-do_line
unfolding served
returns-in_err-do_line g c =
    let p = err_from_is_err_and c.from_residual.result c.from_residual.ensures.1 in
    let o = after_line c.args.manager.now c.args.line in
    let fault = c.in_err-do_line.field-0.0 in
    let sends = flat_map send_line o.now.outgoing in
    record {
      serves = rw (p.1, p.2) (record {
        leaves = tt;
        prints = ends_in g.W.Sink.written g.W.Sink.has_failed fault c.args.sink.now c.do_line.new.sink (o.text ++ sends) end_line
            (ends_in g.W.Sink.written g.W.Sink.has_failed fault c.args.sink.now c.do_line.new.sink o.text sends c.in_err-do_line.ensures.does.prints);
      });
      flushed = rw p.1 tt;
    }

pub returns-in_err-send_all : goal.returns-in_err-send_all
unfolding served
returns-in_err-send_all g c =
    let p = err_from_is_err_and c.from_residual-in_err-send_all.result c.from_residual-in_err-send_all.ensures.1 in
    let o = after_line c.args.manager.now c.args.line in
    let fault = c.in_err-send_all.field-0.0 in
    let sends = flat_map send_line o.now.outgoing in
    let sent = sends_same g.W.Sink.written g.W.Sink.has_failed (failed_with fault) c.do_line.new.sink c.send_all.new.sink c.do_line.new.manager o.now
    c.in_ok-do_line.ensures.does.leaves c.in_err-send_all.ensures.prints in
    record {
      serves = rw (p.1, p.2) (record {
        leaves = tt;
        prints = ends_in g.W.Sink.written g.W.Sink.has_failed fault c.args.sink.now c.send_all.new.sink (o.text ++ sends) end_line
            (prints_then g.W.Sink.written g.W.Sink.has_failed (failed_with fault) c.args.sink.now c.do_line.new.sink c.send_all.new.sink o.text sends
            c.in_ok-do_line.ensures.does.prints sent);
      });
      flushed = rw p.1 tt;
    }

pub returns : goal.returns
unfolding served
returns g c =
    let o = after_line c.args.manager.now c.args.line in
    let sends = flat_map send_line o.now.outgoing in
    let sent = sends_same g.W.Sink.written g.W.Sink.has_failed all_well c.do_line.new.sink c.send_all.new.sink c.do_line.new.manager o.now
    c.in_ok-do_line.ensures.does.leaves c.in_ok-send_all.ensures.prints in
    record {
      serves = record {
        leaves = on_ok c.end_answer.result _ (c.in_ok-send_all.ensures.manager ∙ ap emptied c.in_ok-do_line.ensures.does.leaves);
        prints = prints_then g.W.Sink.written g.W.Sink.has_failed c.end_answer.result c.args.sink.now c.send_all.new.sink c.end_answer.new.sink
            (o.text ++ sends) end_line
            (prints_both g.W.Sink.written g.W.Sink.has_failed c.args.sink.now c.do_line.new.sink c.send_all.new.sink o.text sends
            c.in_ok-do_line.ensures.does.prints sent) c.end_answer.ensures.prints;
      };
      flushed = c.end_answer.ensures.flushed;
    }
