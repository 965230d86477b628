use Rattle.std.proofs.Common.{take, drop}
use Rattle.byte_io.proofs.Writing.{HasWritten}
use Rattle.audit_run.specs.LaneText.{pair_line}
use Rattle.audit_run.proofs.lane_text.write_pairs.Given as goal

-- the lines of the packets so far were written
abbrev pub invariant-loop-pair : goal.invariant-loop-pair
invariant-loop-pair g l =
    HasWritten g.W.Sink.written g.W.Sink.has_failed pair_line l.initial.sink l.sink (take l.pair-index l.pairs) (drop l.pair-index l.pairs) l.pairs
