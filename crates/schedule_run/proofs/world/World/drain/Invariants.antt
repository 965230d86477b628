use Rattle.std.proofs.Common.{◌≡◌, ◌-◌, length}
use Rattle.schedule_run.specs.Commands.{after_drain_line}
use Rattle.schedule_run.specs.World.{value_of}
use Rattle.schedule_lines.proofs.Printing.{IsUnderWay}
use Rattle.schedule_run.proofs.world.World.drain.Given as goal

-- the managers are still there, and the steps that are left are yet to be taken
abbrev pub invariant-loop-step : goal.invariant-loop-step
invariant-loop-step g l = record {
  managers : length l.self.managers.items ≡ length l.initial.self.managers.items;
  drains : IsUnderWay g.W.Sink.written g.W.Sink.has_failed l.initial.sink l.sink (after_drain_line (value_of l.initial.self) l.most)
      (after_drain_line (value_of l.self) (l.most - l._step));
}
