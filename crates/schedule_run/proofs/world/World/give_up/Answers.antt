use Rattle.std.proofs.Common.{refl}
use Rattle.sm_manager.specs.Packets.{after_timeout}
use Rattle.schedule_run.specs.Commands.{after_give_up}
use Rattle.schedule_lines.specs.Outcome.{quiet}
use Rattle.schedule_run.proofs.Seats.{quiet_does, refused_does}
use Rattle.schedule_lines.proofs.Refused.{but_for_memory}
use Rattle.schedule_run.proofs.world.World.give_up.Goals as goal

pub returns-in-Ok : goal.returns-in-Ok
unfolding after_give_up
returns-in-Ok g c = record {
  does = quiet_does c.args.self.now c.args.seat c.index_mut.result.now c.requires c.index_mut.ensures.value
      (λ m. (after_timeout m c.args.transaction).fault) (λ m. (after_timeout m c.args.transaction).manager) g.W.Sink.written g.W.Sink.has_failed
      c.on_timeout.new.self _ (record { fabric = refl; managers = refl; deciders = refl; time = refl }) c.in-Ok.ensures.judged c.in-Ok.ensures.ok c.args.sink.now;
}

pub returns-in-Err : goal.returns-in-Err
unfolding after_give_up
returns-in-Err g c = record {
  does = refused_does c.args.self.now c.args.seat c.index_mut.result.now c.requires c.index_mut.ensures.value
      quiet (λ m. (after_timeout m c.args.transaction).fault) (λ m. (after_timeout m c.args.transaction).manager) g.W.Sink.written g.W.Sink.has_failed
      c.on_timeout.new.self _ (record { fabric = refl; managers = refl; deciders = refl; time = refl }) c.in-Err.fault c.in-Err.ensures.err
      (but_for_memory c.in-Err.fault _ c.in-Err.ensures.judged) c.refuse_manager.result _ _ c.refuse_manager.ensures.memory
      c.refuse_manager.ensures.prints c.refuse_manager.ensures.unprinted;
}
