use Rattle.std.proofs.Common.{◌≡◌, false}
use Rattle.std.specs.Prelude.{IsTrue}
use Rattle.serve_run.specs.Seat.{seat_of}
use Rattle.serve_run.specs.Server.{value_of}
use Rattle.serve_run.proofs.Going.{Going}
use Rattle.serve_run.proofs.server.Server.serve_all.Given as goal

-- what was read so far was dealt with, and nothing is held back
abbrev pub invariant-loop : goal.invariant-loop
invariant-loop g l = record {
  goes : Going g.S.Source.state g.W.Sink.written g.W.Sink.has_failed l.fn.lines l.lines (seat_of l.fn.self.seated) (value_of l.self) l.fn.sink l.sink l.counter;
  flushed : IsTrue (g.W.Sink.is_flushed l.sink);
  works : g.W.Sink.has_failed l.sink ≡ false;
}
