use Rattle.std.specs.Borrow.{Bor}
use Rattle.node_agents.specs.Agent.{Agent}
use Rattle.schedule_lines.specs.Tables.{table_text}
use Rattle.schedule_lines.proofs.Printing.{IsUnderWay}
use Rattle.schedule_lines.proofs.LinesFrom.{lines_from}
use Rattle.schedule_lines.proofs.tables.write_tables.Given as goal

-- those from this one on are yet to be shown
abbrev pub invariant-loop-switch : goal.invariant-loop-switch
invariant-loop-switch g l =
    IsUnderWay g.W.Sink.written g.W.Sink.has_failed l.initial.sink l.sink (lines_from (λ (agent : Bor Agent). table_text agent.now) l.switches 0)
    (lines_from (λ (agent : Bor Agent). table_text agent.now) l.switches l.switch-index)
