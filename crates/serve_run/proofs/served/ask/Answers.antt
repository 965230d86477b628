use Rattle.serve_run.specs.Served.{asked}
use Rattle.serve_run.proofs.Calls.{ask_fault, ask_leaves, refused_call}
use Rattle.schedule_lines.proofs.Refused.{but_for_memory}
use Rattle.serve_run.proofs.served.ask.Goals as goal

pub returns-in-Err : goal.returns-in-Err
returns-in-Err g c = record {
  does = refused_call g.W.Sink.written g.W.Sink.has_failed c.args.manager.now c.ask_manager.new.manager (asked c.args.manager.now c.args.what) c.in-Err.fault
      c.refuse_manager.result c.args.sink.now c.refuse_manager.new.sink (ask_leaves c.args.manager.now c.args.what) c.in-Err.ensures.err
      (λ e. ask_fault c.args.manager.now c.args.what _ (but_for_memory c.in-Err.fault _ c.in-Err.ensures.judged e)) c.refuse_manager.ensures.memory
      c.refuse_manager.ensures.prints c.refuse_manager.ensures.unprinted;
}
