use Rattle.std.proofs.Common.{◌≡◌, length}
use Rattle.serve_run.specs.Acting.{value_of as acting_value}
use Rattle.serve_run.proofs.Taken.{unready}
use Rattle.schedule_lines.proofs.Printing.{IsUnderWay}
use Rattle.schedule_run.specs.World.{after_inject_all}
use Rattle.schedule_run.proofs.deciders.send_ready.Given as goal

-- the packets that are left are yet to be sent
abbrev pub invariant-loop-outgoing : goal.invariant-loop-outgoing
invariant-loop-outgoing g l = record {
  sends : IsUnderWay g.W.Sink.written g.W.Sink.has_failed l.initial.sink l.sink
      (after_inject_all l.initial.fabric l.from (acting_value l.initial.acting).ready) (after_inject_all l.fabric l.from (acting_value l.acting).ready);
  keeps : unready (acting_value l.acting) ≡ unready (acting_value l.initial.acting);
}

abbrev pub decreases-loop-outgoing : goal.decreases-loop-outgoing
decreases-loop-outgoing g l = length (acting_value l.acting).ready
