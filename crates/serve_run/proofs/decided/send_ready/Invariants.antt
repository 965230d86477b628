use Rattle.std.proofs.Common.{◌≡◌, length}
use Rattle.acting_manager.specs.Acting.{value_of}
use Rattle.schedule_lines.proofs.Printing.{IsUnderWay}
use Rattle.serve_run.specs.Served.{send_line}
use Rattle.serve_run.proofs.Taken.{unready}
use Rattle.serve_run.proofs.Turns.{told}
use Rattle.serve_run.proofs.decided.send_ready.Given as goal

-- the packets that are left are yet to be sent
abbrev pub invariant-loop-outgoing : goal.invariant-loop-outgoing
invariant-loop-outgoing g l = record {
  sends : IsUnderWay g.W.Sink.written g.W.Sink.has_failed l.initial.sink l.sink (told send_line (value_of l.initial.acting).ready)
      (told send_line (value_of l.acting).ready);
  keeps : unready (value_of l.acting) ≡ unready (value_of l.initial.acting);
}

abbrev pub decreases-loop-outgoing : goal.decreases-loop-outgoing
decreases-loop-outgoing g l = length (value_of l.acting).ready
