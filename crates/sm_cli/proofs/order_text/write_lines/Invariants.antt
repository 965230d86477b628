use Rattle.std.proofs.Common.{take, drop}
use Rattle.byte_io.proofs.Writing.{HasWritten}
use Rattle.sm_cli.specs.OrderText.{order_line}
use Rattle.sm_cli.proofs.order_text.write_lines.Given as goal

-- the switches so far were written
abbrev pub invariant-loop-switch : goal.invariant-loop-switch
invariant-loop-switch g l =
    HasWritten g.W.Sink.written g.W.Sink.has_failed order_line l.initial.sink l.sink (take l.switch-index l.switches) (drop l.switch-index l.switches)
    l.switches
