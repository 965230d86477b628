use Rattle.std.proofs.Common.{ap}
use Rattle.std.proofs.lemmas.Result.{err_from_is_err_and}
use Rattle.std.specs.Option.{option_map_or}
use Rattle.schedule_run.specs.Delivery.{after_hand_up, after_take, after_take_and_send}
use Rattle.schedule_run.specs.Deciders.{after_hearing}
use Rattle.schedule_run.specs.World.{after_send, value_of}
use Rattle.schedule_run.proofs.Doing.{does_no_more, does_same, does_then}
use Rattle.schedule_run.proofs.world.World.hand_up.Goals as goal

pub returns-in_err-take_in : goal.returns-in_err-take_in
unfolding after_hand_up after_take_and_send
returns-in_err-take_in g c =
    let w = value_of c.args.self.now in
    let packet = c.args.packet.now in
    let seat = c.in-Some.seat in
    let q = err_from_is_err_and c.from_residual.result c.from_residual.ensures.1 in
    record {
      does = rw (q.1, q.2) (does_same g.W.Sink.written g.W.Sink.has_failed c.args.self.now c.take_in.new.self _ c.args.sink.now c.take_in.new.sink _ _
          (ap (λ o. option_map_or (λ seat. after_take_and_send w seat packet) o (after_hearing w c.args.port.now packet)) c.in-Some.ensures.seat)
          (does_no_more g.W.Sink.written g.W.Sink.has_failed c.args.self.now c.take_in.new.self c.in_err-take_in.field-0.0 c.args.sink.now
          c.take_in.new.sink (after_take w seat packet) (λ now. after_send now seat) c.in_err-take_in.ensures.does));
    }

pub returns : goal.returns
unfolding after_hand_up after_take_and_send
returns g c =
    let w = value_of c.args.self.now in
    let packet = c.args.packet.now in
    let seat = c.in-Some.seat in
    record {
      does = does_same g.W.Sink.written g.W.Sink.has_failed c.args.self.now c.send.new.self c.send.result c.args.sink.now c.send.new.sink _ _
          (ap (λ o. option_map_or (λ seat. after_take_and_send w seat packet) o (after_hearing w c.args.port.now packet)) c.in-Some.ensures.seat)
          (does_then g.W.Sink.written g.W.Sink.has_failed c.args.self.now c.take_in.new.self c.send.new.self c.in_ok-take_in.field-0 c.send.result
          c.args.sink.now c.take_in.new.sink c.send.new.sink (after_take w seat packet) (λ now. after_send now seat) c.in_ok-take_in.ensures.does
          c.send.ensures.does);
    }
