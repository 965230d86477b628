use Rattle.std.proofs.Common.{◌∙◌, List, ap, subst}
use Rattle.std.specs.List.{flat_map}
use Rattle.acting_manager.specs.Acting.{value_of}
use Rattle.acting_manager.specs.declared.note.Note.{Note}
use Rattle.schedule_lines.specs.Outcome.{shows}
use Rattle.byte_io.proofs.Writing.{wrote}
use Rattle.schedule_lines.proofs.Printing.{IsUnderWay, goes_on, is_over}
use Rattle.schedule_lines.specs.Lines.{name_of}
use Rattle.serve_run.specs.Decided.{note_line}
use Rattle.serve_run.proofs.Taken.{fewer_taken, first_taken, none_noted, none_taken, unnoted}
use Rattle.serve_run.proofs.Turns.{told}
use Rattle.serve_run.proofs.notes.note_all.Goals as goal

pub loop-note-preserved : goal.loop-note-preserved
loop-note-preserved g c =
    let note = c.in-Some.note in
    let now = value_of c.loop-note.acting in
    let left = value_of c.take_note.new.self in
    let whole = told (note_line (name_of c.args.name)) (value_of c.args.acting.now).notes in
    let Under : List Note → Type 0 = λ notes. IsUnderWay g.W.Sink.written g.W.Sink.has_failed c.args.sink.now c.loop-note.sink whole (told (note_line (name_of c.args.name)) notes) in
    record {
      tells = goes_on g.W.Sink.written g.W.Sink.has_failed c.args.sink.now c.loop-note.sink c.write_note.new.sink whole
          (shows (note_line (name_of c.args.name) note) tt) (λ u. told (note_line (name_of c.args.name)) left.notes)
          (subst Under (first_taken now.notes left.notes note c.in-Some.ensures.note (ap (λ a. a.notes) c.in-Some.ensures.rest)) c.loop-note.invariant.tells)
          (wrote g.W.Sink.written g.W.Sink.has_failed _ c.loop-note.sink c.write_note.new.sink (note_line (name_of c.args.name) note) c.in_ok-write_note.ensures.writes);
      keeps = ap unnoted c.in-Some.ensures.rest ∙ c.loop-note.invariant.keeps;
    }

pub loop-note-smaller : goal.loop-note-smaller
loop-note-smaller g c =
    let now = value_of c.loop-note.acting in
    let left = value_of c.take_note.new.self in
    fewer_taken now.notes left.notes c.in-Some.note
    (first_taken now.notes left.notes c.in-Some.note c.in-Some.ensures.note (ap (λ a. a.notes) c.in-Some.ensures.rest))

pub returns-clause-acting : goal.returns-clause-acting
returns-clause-acting g c =
    none_noted (value_of c.loop-note.acting) (value_of c.take_note.new.self) c.in_default.ensures.note c.in_default.ensures.rest
    ∙ c.loop-note.invariant.keeps

pub returns-clause-prints : goal.returns-clause-prints
returns-clause-prints g c =
    is_over g.W.Sink.written g.W.Sink.has_failed c.args.sink.now c.loop-note.sink (told (note_line (name_of c.args.name)) (value_of c.args.acting.now).notes) _
    c.loop-note.invariant.tells (ap (flat_map (note_line (name_of c.args.name))) (none_taken (value_of c.loop-note.acting).notes c.in_default.ensures.note))
