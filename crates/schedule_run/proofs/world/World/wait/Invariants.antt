use Rattle.std.proofs.Common.{◌≡◌, ◌-◌, length}
use Rattle.schedule_run.specs.Waiting.{after_turns}
use Rattle.schedule_run.specs.World.{value_of}
use Rattle.schedule_lines.proofs.Printing.{IsUnderWay}
use Rattle.schedule_run.proofs.world.World.wait.Given as goal

-- the managers are still there, and the turns that are left are yet to be taken
abbrev pub invariant-loop-turn : goal.invariant-loop-turn
invariant-loop-turn g l = record {
  managers : length l.self.managers.items ≡ length l.initial.self.managers.items;
  waits : IsUnderWay g.W.Sink.written g.W.Sink.has_failed l.initial.sink l.sink (after_turns (value_of l.initial.self) l.until l.most)
      (after_turns (value_of l.self) l.until (l.most - l._turn));
}
