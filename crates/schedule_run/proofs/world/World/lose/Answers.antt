use Rattle.std.proofs.Common.{Ok, Err, sym, ◌∙◌}
use Rattle.fabric_sim.specs.Changes.{after_lose}
use Rattle.schedule_run.proofs.Doing.{calls_fabric}
use Rattle.byte_io.proofs.Writing.{prints_nothing}
use Rattle.schedule_run.proofs.world.World.lose.Goals as goal

pub returns-in-Ok : goal.returns-in-Ok
returns-in-Ok g c = record {
  does = calls_fabric g.W.Sink.written g.W.Sink.has_failed c.args.self.now c.lose.new.self (after_lose c.args.self.now.fabric c.args.serial)
      (Ok c.in-Ok.field-0) _ c.args.sink.now c.args.sink.now c.lose.ensures.fabric (sym c.in-Ok.is ∙ c.lose.ensures.result)
      (prints_nothing g.W.Sink.written g.W.Sink.has_failed c.args.sink.now);
}

pub returns-in-Err : goal.returns-in-Err
returns-in-Err g c = record {
  does = calls_fabric g.W.Sink.written g.W.Sink.has_failed c.args.self.now c.lose.new.self (after_lose c.args.self.now.fabric c.args.serial)
      (Err c.in-Err.fault) c.refuse_fabric.result c.args.sink.now c.refuse_fabric.new.sink c.lose.ensures.fabric
      (sym c.in-Err.is ∙ c.lose.ensures.result) c.refuse_fabric.ensures.prints;
}
