use Rattle.std.proofs.Common.{◌≡◌, length}
use Rattle.schedule_run.specs.World.{after_inject_all}
use Rattle.sm_manager.specs.Manager.{emptied}
use Rattle.schedule_lines.proofs.Printing.{IsUnderWay}
use Rattle.schedule_run.proofs.world.send_outgoing.Given as goal

-- what is queued yet is what is left to be sent
abbrev pub invariant-loop-outgoing : goal.invariant-loop-outgoing
invariant-loop-outgoing g l = record {
  sends : IsUnderWay g.W.Sink.written g.W.Sink.has_failed l.initial.sink l.sink
      (after_inject_all l.initial.fabric l.from l.initial.manager.outgoing) (after_inject_all l.fabric l.from l.manager.outgoing);
  keeps : emptied l.manager ≡ emptied l.initial.manager;
}

abbrev pub decreases-loop-outgoing : goal.decreases-loop-outgoing
decreases-loop-outgoing g l = length l.manager.outgoing
