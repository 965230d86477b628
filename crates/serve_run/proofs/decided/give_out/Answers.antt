use Rattle.std.proofs.Common.{◌≡◌, None, ap, subst}
use Rattle.std.proofs.lemmas.Result.{err_from_is_err_and}
use Rattle.std.specs.List.{flat_map}
use Rattle.std.specs.Prelude.{OnOk}
use Rattle.acting_manager.specs.Acting.{Acting, value_of}
use Rattle.schedule_lines.proofs.Printing.{ends_in, prints_same, prints_then}
use Rattle.serve_run.specs.Decided.{note_line}
use Rattle.serve_run.specs.Served.{send_line}
use Rattle.serve_run.proofs.Taken.{unready}
use Rattle.serve_run.proofs.decided.give_out.Goals as goal

pub returns-in_err-note_all : goal.returns-in_err-note_all
returns-in_err-note_all g c =
    let p = err_from_is_err_and c.from_residual.result c.from_residual.ensures.1 in
    let a = value_of c.args.acting.now in
    record {
      gives = rw (p.1, p.2) (record {
        leaves = tt;
        prints = ends_in g.W.Sink.written g.W.Sink.has_failed c.in_err-note_all.field-0.0 c.args.sink.now c.note_all.new.sink
            (flat_map (note_line None) a.notes) (flat_map send_line a.ready) c.in_err-note_all.ensures.prints;
      });
    }

pub returns : goal.returns
returns g c =
    let a = value_of c.args.acting.now in
    let told = c.in_ok-note_all.ensures.acting in
    let new = value_of c.send_ready.new.acting in
    record {
      gives = record {
        leaves = subst (λ (left : Acting). OnOk c.send_ready.result (new ≡ unready left)) told c.send_ready.ensures.acting;
        prints = prints_then g.W.Sink.written g.W.Sink.has_failed c.send_ready.result c.args.sink.now c.note_all.new.sink c.send_ready.new.sink
            (flat_map (note_line None) a.notes) (flat_map send_line a.ready) c.in_ok-note_all.ensures.prints
            (prints_same g.W.Sink.written g.W.Sink.has_failed c.send_ready.result c.note_all.new.sink c.send_ready.new.sink _ _
            (ap (λ (left : Acting). flat_map send_line left.ready) told) c.send_ready.ensures.prints);
      };
    }
