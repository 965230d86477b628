use Rattle.sm_manager.specs.Packets.{after_timeout}
use Rattle.sm_manager.proofs.Refusals.{timeout_leaves}
use Rattle.serve_run.proofs.Calls.{refused_call}
use Rattle.schedule_lines.proofs.Refused.{but_for_memory}
use Rattle.serve_run.proofs.served.time_out.Goals as goal

pub returns-in-Err : goal.returns-in-Err
returns-in-Err g c = record {
  does = refused_call g.W.Sink.written g.W.Sink.has_failed c.args.manager.now c.on_timeout.new.self (after_timeout c.args.manager.now c.args.transaction) c.in-Err.fault
      c.refuse_manager.result c.args.sink.now c.refuse_manager.new.sink (timeout_leaves c.args.manager.now c.args.transaction) c.in-Err.ensures.err
      (but_for_memory c.in-Err.fault _ c.in-Err.ensures.judged) c.refuse_manager.ensures.memory
      c.refuse_manager.ensures.prints c.refuse_manager.ensures.unprinted;
}
