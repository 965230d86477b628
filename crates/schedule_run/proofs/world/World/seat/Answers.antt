use Rattle.std.proofs.Common.{Ok, Err, sym, ◌∙◌}
use Rattle.fabric_sim.specs.Changes.{after_seat}
use Rattle.schedule_run.specs.Commands.{after_manager_line}
use Rattle.schedule_run.specs.World.{after_fabric_call, value_of}
use Rattle.schedule_run.proofs.Doing.{calls_fabric, does_same}
use Rattle.byte_io.proofs.Writing.{prints_nothing}
use Rattle.schedule_run.proofs.Seats.{at_seat_is}
use Rattle.schedule_run.proofs.world.World.seat.Goals as goal

pub returns-in-Ok : goal.returns-in-Ok
unfolding after_manager_line
returns-in-Ok g c =
    let world = c.args.self.now in
    let w = value_of world in
    let s = c.index.result.now in
    record {
      does = does_same g.W.Sink.written g.W.Sink.has_failed world _ _ c.args.sink.now c.args.sink.now _ _
          (sym (at_seat_is w world.managers.items c.args.seat s c.requires c.index.ensures (λ s. after_fabric_call w (after_seat w.fabric s.at))))
          (calls_fabric g.W.Sink.written g.W.Sink.has_failed world c.seat.new.self (after_seat world.fabric s.seat.now.at) (Ok c.in-Ok.field-0) _
          c.args.sink.now c.args.sink.now c.seat.ensures.fabric (sym c.in-Ok.is ∙ c.seat.ensures.result)
          (prints_nothing g.W.Sink.written g.W.Sink.has_failed c.args.sink.now));
    }

pub returns-in-Err : goal.returns-in-Err
unfolding after_manager_line
returns-in-Err g c =
    let world = c.args.self.now in
    let w = value_of world in
    let s = c.index.result.now in
    record {
      does = does_same g.W.Sink.written g.W.Sink.has_failed world _ c.refuse_fabric.result c.args.sink.now c.refuse_fabric.new.sink _ _
          (sym (at_seat_is w world.managers.items c.args.seat s c.requires c.index.ensures (λ s. after_fabric_call w (after_seat w.fabric s.at))))
          (calls_fabric g.W.Sink.written g.W.Sink.has_failed world c.seat.new.self (after_seat world.fabric s.seat.now.at) (Err c.in-Err.fault)
          c.refuse_fabric.result c.args.sink.now c.refuse_fabric.new.sink c.seat.ensures.fabric (sym c.in-Err.is ∙ c.seat.ensures.result)
          c.refuse_fabric.ensures.prints);
    }
