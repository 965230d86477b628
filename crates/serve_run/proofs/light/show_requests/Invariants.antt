use Rattle.std.specs.Prelude.{length}
use Rattle.std.specs.List.{range_with_len}
use Rattle.light_sweep.specs.LightSweep.{light_request}
use Rattle.schedule_lines.proofs.LinesFrom.{lines_from}
use Rattle.schedule_lines.proofs.Printing.{IsUnderWay}
use Rattle.serve_run.specs.Decided.{light_line}
use Rattle.serve_run.proofs.light.show_requests.Given as goal

-- those from this one on are yet to be shown
abbrev pub invariant-loop-i : goal.invariant-loop-i
invariant-loop-i g l =
    IsUnderWay g.W.Sink.written g.W.Sink.has_failed l.initial.sink l.sink
    (lines_from (λ i. light_line (light_request l.sweep i)) (range_with_len 0 (length l.sweep.reached)) 0)
    (lines_from (λ i. light_line (light_request l.sweep i)) (range_with_len 0 (length l.sweep.reached)) l.i)
