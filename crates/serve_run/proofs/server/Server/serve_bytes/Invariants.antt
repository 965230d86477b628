use Rattle.std.proofs.Common.{drop}
use Rattle.std.specs.Prelude.{IsTrue}
use Rattle.schedule_lines.proofs.Printing.{IsUnderWay}
use Rattle.serve_run.specs.Kept.{after_bytes}
use Rattle.serve_run.specs.Server.{value_of}
use Rattle.serve_run.proofs.server.Server.serve_bytes.Given as goal

-- the bytes that are left are yet to be dealt with, and nothing is held back
abbrev pub invariant-loop-byte : goal.invariant-loop-byte
invariant-loop-byte g l = record {
  deals : IsUnderWay g.W.Sink.written g.W.Sink.has_failed l.initial.sink l.sink (after_bytes (value_of l.initial.self) l.bytes)
      (after_bytes (value_of l.self) (drop l.byte-index l.bytes));
  flushed : IsTrue (g.W.Sink.is_flushed l.sink);
}
