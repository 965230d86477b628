use Rattle.std.proofs.Common.{◌+◌, List, ℕ, subst}
use Rattle.std.specs.Borrow.{Bor}
use Rattle.std.proofs.lemmas.Result.{err_from_is_err_and}
use Rattle.node_agents.specs.Agent.{Agent}
use Rattle.schedule_lines.specs.Tables.{table_text}
use Rattle.schedule_lines.specs.Outcome.{Outcome, shows}
use Rattle.schedule_lines.proofs.Printing.{IsUnderWay, begins, goes_on, stops_in}
use Rattle.schedule_lines.proofs.LinesFrom.{lines_at, lines_from}
use Rattle.schedule_lines.proofs.tables.write_tables.Goals as goal

abbrev line : Bor Agent → List ℕ
line agent = table_text agent.now

pub loop-switch-preserved : goal.loop-switch-preserved
loop-switch-preserved g c =
    let xs = c.args.switches.now in
    let i = c.loop-switch.switch-index in
    let x = c.switch-item.result in
    let whole = lines_from line xs 0 in
    let Under : Outcome (Unit {0}) → Type 0 = λ outcome. IsUnderWay g.W.Sink.written g.W.Sink.has_failed c.args.sink.now c.loop-switch.sink whole outcome in
    goes_on g.W.Sink.written g.W.Sink.has_failed c.args.sink.now c.loop-switch.sink c.write_table.new.sink whole (shows (line x) tt)
    (λ u. lines_from line xs (i + 1)) (subst Under (lines_at line xs i x c.loop-switch-test.true c.switch-item.is) c.loop-switch.invariant)
    c.in_ok-write_table.ensures.prints

pub returns-in_err-write_table : goal.returns-in_err-write_table
returns-in_err-write_table g c =
    let p = err_from_is_err_and c.from_residual.result c.from_residual.ensures.1 in
    let xs = c.args.switches.now in
    let i = c.loop-switch.switch-index in
    let x = c.switch-item.result in
    let whole = lines_from line xs 0 in
    let Under : Outcome (Unit {0}) → Type 0 = λ outcome. IsUnderWay g.W.Sink.written g.W.Sink.has_failed c.args.sink.now c.loop-switch.sink whole outcome in
    record {
      prints = rw (p.1, p.2) (stops_in g.W.Sink.written g.W.Sink.has_failed c.in_err-write_table.field-0.0 c.args.sink.now c.loop-switch.sink
          c.write_table.new.sink whole (shows (line x) tt) (λ u. lines_from line xs (i + 1))
          (subst Under (lines_at line xs i x c.loop-switch-test.true c.switch-item.is) c.loop-switch.invariant) c.in_err-write_table.ensures.prints);
    }

pub loop-switch-init : goal.loop-switch-init
loop-switch-init g c = begins g.W.Sink.written g.W.Sink.has_failed c.args.sink.now (lines_from line c.args.switches.now 0)
