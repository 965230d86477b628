use Rattle.std.proofs.Common.{◌≡◌, drop, length}
use Rattle.schedule_run.specs.Commands.{after_giving_up}
use Rattle.schedule_run.specs.World.{value_of}
use Rattle.schedule_lines.proofs.Printing.{IsUnderWay}
use Rattle.schedule_run.proofs.world.World.time_out.Given as goal

-- the managers are still there, and the requests that are left are yet to be given up
abbrev pub invariant-loop-transaction : goal.invariant-loop-transaction
invariant-loop-transaction g l = record {
  managers : length l.self.managers.items ≡ length l.initial.self.managers.items;
  gives_up : IsUnderWay g.W.Sink.written g.W.Sink.has_failed l.initial.sink l.sink (after_giving_up (value_of l.initial.self) l.seat l.transaction-items)
      (after_giving_up (value_of l.self) l.seat (drop l.transaction-index l.transaction-items));
}
