use Rattle.std.proofs.Common.{refl}
use Rattle.schedule_run.specs.Commands.{after_ask_line}
use Rattle.schedule_lines.specs.ManagerAsks.{after_asked, asked_fault}
use Rattle.schedule_run.specs.World.{after_send}
use Rattle.schedule_run.proofs.Seats.{done_does, refused_does}
use Rattle.schedule_lines.proofs.Refused.{but_for_memory}
use Rattle.schedule_run.proofs.world.World.ask.Goals as goal

pub returns-in-Err : goal.returns-in-Err
unfolding after_ask_line
returns-in-Err g c = record {
  does = refused_does c.args.self.now c.args.seat c.index_mut.result.now c.requires c.index_mut.ensures.value
      (λ now. after_send now c.args.seat) (asked_fault c.args.what) (after_asked c.args.what) g.W.Sink.written g.W.Sink.has_failed
      c.ask_manager.new.manager _ (record { fabric = refl; managers = refl; deciders = refl; time = refl }) c.in-Err.fault c.in-Err.ensures.err
      (but_for_memory c.in-Err.fault _ c.in-Err.ensures.judged) c.refuse_manager.result _ _ c.refuse_manager.ensures.memory
      c.refuse_manager.ensures.prints c.refuse_manager.ensures.unprinted;
}

pub returns : goal.returns
unfolding after_ask_line
returns g c = record {
  does = done_does c.args.self.now c.args.seat c.index_mut.result.now c.requires c.index_mut.ensures.value
      (λ now. after_send now c.args.seat) (asked_fault c.args.what) (after_asked c.args.what) g.W.Sink.written g.W.Sink.has_failed
      c.ask_manager.new.manager _ _ (record { fabric = refl; managers = refl; deciders = refl; time = refl }) c.in_default.ensures.judged c.in_default.ensures.ok
      c.send.result _ _ c.send.ensures.does;
}
