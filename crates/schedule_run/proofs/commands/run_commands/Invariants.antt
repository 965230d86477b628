use Rattle.std.proofs.Common.{◌≡◌, drop, length}
use Rattle.schedule_run.specs.Commands.{after_commands}
use Rattle.schedule_run.specs.World.{value_of}
use Rattle.schedule_lines.proofs.Printing.{IsUnderWay}
use Rattle.schedule_run.proofs.commands.run_commands.Given as goal

-- there is a manager for each seat, and the commands from this one on are yet to be run
abbrev pub invariant-loop-command : goal.invariant-loop-command
invariant-loop-command g l = record {
  managers : length l.world.managers.items ≡ length l.schedule.seats;
  runs : IsUnderWay g.W.Sink.written g.W.Sink.has_failed l.initial.sink l.sink
      (after_commands l.topology.nodes (value_of l.initial.world) l.command-items)
      (after_commands l.topology.nodes (value_of l.world) (drop l.command-index l.command-items));
}
