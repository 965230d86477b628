use Rattle.std.proofs.Common.{◌≡◌, length}
use Rattle.sm_manager.specs.Manager.{emptied}
use Rattle.schedule_lines.proofs.Printing.{IsUnderWay}
use Rattle.serve_run.specs.Served.{send_line}
use Rattle.serve_run.proofs.Turns.{told}
use Rattle.serve_run.proofs.outgoing.send_all.Given as goal

-- what is queued yet is what is left to be sent
abbrev pub invariant-loop-outgoing : goal.invariant-loop-outgoing
invariant-loop-outgoing g l = record {
  sends : IsUnderWay g.W.Sink.written g.W.Sink.has_failed l.initial.sink l.sink (told send_line l.initial.manager.outgoing)
      (told send_line l.manager.outgoing);
  keeps : emptied l.manager ≡ emptied l.initial.manager;
}

abbrev pub decreases-loop-outgoing : goal.decreases-loop-outgoing
decreases-loop-outgoing g l = length l.manager.outgoing
