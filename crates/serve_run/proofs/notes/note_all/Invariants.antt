use Rattle.std.proofs.Common.{◌≡◌, length}
use Rattle.acting_manager.specs.Acting.{value_of}
use Rattle.schedule_lines.proofs.Printing.{IsUnderWay}
use Rattle.schedule_lines.specs.Lines.{name_of}
use Rattle.serve_run.specs.Decided.{note_line}
use Rattle.serve_run.proofs.Taken.{unnoted}
use Rattle.serve_run.proofs.Turns.{told}
use Rattle.serve_run.proofs.notes.note_all.Given as goal

-- the notes that are left are yet to be told
abbrev pub invariant-loop-note : goal.invariant-loop-note
invariant-loop-note g l = record {
  tells : IsUnderWay g.W.Sink.written g.W.Sink.has_failed l.initial.sink l.sink (told (note_line (name_of l.name)) (value_of l.initial.acting).notes)
      (told (note_line (name_of l.name)) (value_of l.acting).notes);
  keeps : unnoted (value_of l.acting) ≡ unnoted (value_of l.initial.acting);
}

abbrev pub decreases-loop-note : goal.decreases-loop-note
decreases-loop-note g l = length (value_of l.acting).notes
