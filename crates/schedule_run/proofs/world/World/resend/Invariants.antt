use Rattle.std.proofs.Common.{◌≡◌, ◌-◌, length}
use Rattle.schedule_run.specs.Commands.{after_resends}
use Rattle.schedule_run.specs.World.{value_of}
use Rattle.schedule_lines.proofs.Printing.{IsUnderWay}
use Rattle.schedule_run.proofs.world.World.resend.Given as goal

-- the managers are still there, and the traps that are left are yet to be sent
abbrev pub invariant-loop-id : goal.invariant-loop-id
invariant-loop-id g l = record {
  managers : length l.self.managers.items ≡ length l.initial.self.managers.items;
  resends : IsUnderWay g.W.Sink.written g.W.Sink.has_failed l.initial.sink l.sink (after_resends (value_of l.initial.self) 0 l.count)
      (after_resends (value_of l.self) l.id (l.count - l.id));
}
