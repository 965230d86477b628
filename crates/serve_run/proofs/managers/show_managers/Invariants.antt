use Rattle.std.proofs.Common.{take, drop}
use Rattle.byte_io.proofs.Writing.{HasWritten}
use Rattle.serve_run.specs.Served.{seen_line}
use Rattle.serve_run.proofs.managers.show_managers.Given as goal

-- the lines of the managers so far were written
abbrev pub invariant-loop-seen : goal.invariant-loop-seen
invariant-loop-seen g l =
    HasWritten g.W.Sink.written g.W.Sink.has_failed seen_line l.initial.sink l.sink (take l.seen-index l.managers) (drop l.seen-index l.managers) l.managers
