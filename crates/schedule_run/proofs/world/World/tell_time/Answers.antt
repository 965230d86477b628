use Rattle.std.proofs.Common.{arith, refl}
use Rattle.std.proofs.lemmas.Result.{err_from_is_err_and}
use Rattle.serve_run.specs.Working as told
use Rattle.schedule_run.specs.Deciders.{after_telling}
use Rattle.schedule_run.proofs.Deciding.{nobody_does, told_does, untold_does}
use Rattle.schedule_run.proofs.world.World.tell_time.Goals as goal

pub returns-then-index-len : goal.returns-then-index-len
unfolding after_telling
returns-then-index-len g c = record {
  does = nobody_does g.W.Sink.written g.W.Sink.has_failed c.args.self.now c.args.index (omega (arith, c.if-index-len.true, c.len.ensures)) _ tt c.args.sink.now;
}

pub returns-in_err-handle_time : goal.returns-in_err-handle_time
returns-in_err-handle_time g c =
    let p = err_from_is_err_and c.from_residual.result c.from_residual.ensures.1 in
    record {
      does = rw (p.1, p.2) (untold_does g.W.Sink.written g.W.Sink.has_failed c.args.self.now c.args.index c.index_mut.result.now
          (omega (arith, c.if-index-len.false, c.len.ensures)) c.index_mut.ensures.value _ refl c.args.sink.now _);
    }

pub returns : goal.returns
returns g c = record {
  does = told_does g.W.Sink.written g.W.Sink.has_failed c.args.self.now c.args.index c.index_mut.result.now
      (omega (arith, c.if-index-len.false, c.len.ensures)) c.index_mut.ensures.value told.Time
      c.handle_time.new.self c.give_out.new.acting c.in_ok-handle_time.ensures _ refl refl refl c.give_out.result c.args.sink.now c.give_out.new.sink
      c.give_out.ensures.fabric c.give_out.ensures.acting c.give_out.ensures.prints;
}
