-- The inputs were read, and the run goes on.
use Rattle.lft_blocks.specs.Rule.{value_of}
use Rattle.schedule_run.proofs.Running.{has_printed, run_fails}
use Rattle.schedule_run.proofs.run.run_schedule.Goals as goal

pub returns-in-Ok-clause-done : goal.returns-in-Ok-clause-done
returns-in-Ok-clause-done g c =
    has_printed g.S.Source.state c.args.lmc c.args.asked c.args.inputs.now c.read_inputs.new.inputs (value_of c.in_ok-rule.rule) c.in_ok-rule.setting
    c.in_ok-rule.ensures.read c.new-planning.result c.new-planning.ensures g.W.Sink.written g.W.Sink.has_failed c.args.sink.now c.run_commands.new.sink
    c.in-Ok.ensures.prints

pub returns-clause-refused : goal.returns-clause-refused
returns-clause-refused g c =
    rw c.fault_of_run.ensures
    (run_fails g.S.Source.state c.args.lmc c.args.asked c.args.inputs.now c.read_inputs.new.inputs (value_of c.in_ok-rule.rule) c.in_ok-rule.setting
    c.in_ok-rule.ensures.read c.new-planning.result c.new-planning.ensures g.W.Sink.written g.W.Sink.has_failed c.in-Err.fault c.args.sink.now
    c.run_commands.new.sink c.in-Err.ensures.prints)
