use Rattle.schedule_run.specs.Commands.{flight_shown}
use Rattle.schedule_lines.proofs.Printing.{IsUnderWay}
use Rattle.schedule_lines.proofs.LinesFrom.{lines_from}
use Rattle.schedule_run.proofs.world.World.show_flight.Given as goal

-- the packets from this one on are yet to be shown
abbrev pub invariant-loop-i : goal.invariant-loop-i
invariant-loop-i g l =
    IsUnderWay g.W.Sink.written g.W.Sink.has_failed l.initial.sink l.sink (lines_from (flight_shown l.topology.nodes) l.self.fabric.flights 0)
    (lines_from (flight_shown l.topology.nodes) l.self.fabric.flights l.i)
