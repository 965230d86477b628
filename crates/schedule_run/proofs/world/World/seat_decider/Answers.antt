use Rattle.std.proofs.Common.{◌∙◌, Ok, Err, arith, refl, sym}
use Rattle.schedule_run.proofs.Deciding.{nobody_does, seats_does}
use Rattle.schedule_run.specs.Deciders.{after_decider_line}
use Rattle.byte_io.proofs.Writing.{prints_nothing}
use Rattle.schedule_run.proofs.world.World.seat_decider.Goals as goal

pub returns-then-index-len : goal.returns-then-index-len
unfolding after_decider_line
returns-then-index-len g c = record {
  does = nobody_does g.W.Sink.written g.W.Sink.has_failed c.args.self.now c.args.index (omega (arith, c.if-index-len.true, c.len.ensures)) _ tt c.args.sink.now;
}

pub returns-in-Ok : goal.returns-in-Ok
returns-in-Ok g c = record {
  does = seats_does c.args.self.now c.args.index c.index_mut-decider.result.now (omega (arith, c.if-index-len.false, c.len.ensures))
      c.index_mut-decider.ensures.value g.W.Sink.written g.W.Sink.has_failed _ (Ok c.in-Ok.field-0) c.seat.ensures.fabric
      (sym c.in-Ok.is ∙ c.seat.ensures.result) refl refl refl _ c.args.sink.now c.args.sink.now
      (prints_nothing g.W.Sink.written g.W.Sink.has_failed c.args.sink.now);
}

pub returns-in-Err : goal.returns-in-Err
returns-in-Err g c = record {
  does = seats_does c.args.self.now c.args.index c.index_mut-decider.result.now (omega (arith, c.if-index-len.false, c.len.ensures))
      c.index_mut-decider.ensures.value g.W.Sink.written g.W.Sink.has_failed _ (Err c.in-Err.fault) c.seat.ensures.fabric
      (sym c.in-Err.is ∙ c.seat.ensures.result) refl refl refl c.refuse_fabric.result c.args.sink.now c.refuse_fabric.new.sink
      c.refuse_fabric.ensures.prints;
}
