use Rattle.std.proofs.Common.{◌≡◌, ℕ, List, Some, ap, subst}
use Rattle.std.proofs.lemmas.Result.{err_from_is_err_and}
use Rattle.std.specs.List.{flat_map}
use Rattle.std.specs.Prelude.{OnOk}
use Rattle.serve_run.specs.Acting.{Acting}
use Rattle.serve_run.specs.Acting.{value_of as acting_value}
use Rattle.serve_run.specs.Decided.{note_line}
use Rattle.serve_run.proofs.Taken.{unready}
use Rattle.byte_io.specs.Prints.{Prints}
use Rattle.schedule_lines.proofs.Printing.{ends_in, failed_with, prints_same, prints_then}
use Rattle.schedule_run.specs.Deciders.{notes_text}
use Rattle.schedule_run.specs.World.{after_inject_all}
use Rattle.schedule_run.proofs.deciders.give_out.Goals as goal

pub returns-in_err-note_all-clause-prints : goal.returns-in_err-note_all-clause-prints
returns-in_err-note_all-clause-prints g c =
    let p = err_from_is_err_and c.from_residual.result c.from_residual.ensures.1 in
    let a = acting_value c.args.acting.now in
    let named = ap (λ n. flat_map (note_line (Some n)) a.notes) c.as_str.ensures.name in
    rw (p.1, p.2) (ends_in g.W.Sink.written g.W.Sink.has_failed c.in_err-note_all.field-0.0 c.args.sink.now c.note_all.new.sink
    (notes_text c.args.seat.now.name a) (after_inject_all c.args.fabric.now c.args.seat.now.at a.ready).text
    (prints_same g.W.Sink.written g.W.Sink.has_failed (failed_with c.in_err-note_all.field-0.0) c.args.sink.now c.note_all.new.sink _ _ named c.in_err-note_all.ensures.prints))

pub returns-clause-fabric : goal.returns-clause-fabric
returns-clause-fabric g c =
    subst (λ (left : Acting). OnOk c.send_ready.result (c.send_ready.new.fabric ≡ (after_inject_all c.args.fabric.now c.args.seat.now.at left.ready).now))
    c.in_ok-note_all.ensures.acting c.send_ready.ensures.fabric

pub returns-clause-acting : goal.returns-clause-acting
returns-clause-acting g c =
    let new = acting_value c.send_ready.new.acting in
    subst (λ (left : Acting). OnOk c.send_ready.result (new ≡ unready left)) c.in_ok-note_all.ensures.acting c.send_ready.ensures.acting

pub returns-clause-prints : goal.returns-clause-prints
returns-clause-prints g c =
    let a = acting_value c.args.acting.now in
    let named = ap (λ n. flat_map (note_line (Some n)) a.notes) c.as_str.ensures.name in
    let Printed : List ℕ → Type 0 = Prints g.W.Sink.written g.W.Sink.has_failed c.args.sink.now c.note_all.new.sink in
    prints_then g.W.Sink.written g.W.Sink.has_failed c.send_ready.result c.args.sink.now c.note_all.new.sink c.send_ready.new.sink
    (notes_text c.args.seat.now.name a) (after_inject_all c.args.fabric.now c.args.seat.now.at a.ready).text
    (subst Printed named c.in_ok-note_all.ensures.prints)
    (prints_same g.W.Sink.written g.W.Sink.has_failed c.send_ready.result c.note_all.new.sink c.send_ready.new.sink _ _
    (ap (λ (left : Acting). (after_inject_all c.args.fabric.now c.args.seat.now.at left.ready).text) c.in_ok-note_all.ensures.acting)
    c.send_ready.ensures.prints)
