use Rattle.std.proofs.Common.{◌≡◌, ◌∙◌, [], Some, refl, ap, sym}
use Rattle.std.specs.Option.{option_map_or}
use Rattle.sm_manager.specs.Packets.{after_packet, noted_trap}
use Rattle.schedule_lines.specs.Lines.{trap_text}
use Rattle.schedule_lines.specs.Outcome.{shows}
use Rattle.schedule_lines.proofs.Printing.{prints_same}
use Rattle.schedule_lines.proofs.Refused.{but_for_memory}
use Rattle.schedule_run.specs.Delivery.{heard_text}
use Rattle.schedule_run.specs.World.{value_of}
use Rattle.schedule_run.proofs.Doing.{does_show}
use Rattle.schedule_run.proofs.Seats.{done_does, refused_does, sits}
use Rattle.schedule_run.proofs.world.World.take_in.Goals as goal

pub returns-in-Ok : goal.returns-in-Ok
returns-in-Ok g c =
    let w = value_of c.args.self.now in
    let packet = c.args.packet.now in
    let s = c.index_mut.result.now in
    let text : trap_text (Some c.as_str.result.now) c.in-Ok.trap ≡ heard_text w c.args.seat packet =
    ap (λ n. trap_text (Some n) c.in-Ok.trap) c.as_str.ensures.name
    ∙ (ap (trap_text (Some s.seat.now.name)) c.in-Ok.ensures.trap
    ∙ ap (λ o. option_map_or (λ x. trap_text (Some x.name) (noted_trap x.manager packet.bytes)) o [])
    (sym (sits c.args.self.now.managers.items c.args.seat s c.requires c.index_mut.ensures.value))) in
    record {
      does = done_does c.args.self.now c.args.seat s c.requires c.index_mut.ensures.value (shows (heard_text w c.args.seat packet))
          (λ m. (after_packet m packet.bytes (Some packet.slid)).fault) (λ m. (after_packet m packet.bytes (Some packet.slid)).manager)
          g.W.Sink.written g.W.Sink.has_failed c.on_packet.new.self _ _ (record { fabric = refl; managers = refl; deciders = refl; time = refl }) c.in-Ok.ensures.judged
          c.in-Ok.ensures.ok c.show_trap.result c.args.sink.now c.show_trap.new.sink
          (does_show g.W.Sink.written g.W.Sink.has_failed _ c.show_trap.result c.args.sink.now c.show_trap.new.sink (heard_text w c.args.seat packet)
          (prints_same g.W.Sink.written g.W.Sink.has_failed c.show_trap.result c.args.sink.now c.show_trap.new.sink _ _ text c.show_trap.ensures.prints));
    }

pub returns-in-Err : goal.returns-in-Err
returns-in-Err g c = record {
  does = refused_does c.args.self.now c.args.seat c.index_mut.result.now c.requires c.index_mut.ensures.value
      (shows (heard_text (value_of c.args.self.now) c.args.seat c.args.packet.now))
      (λ m. (after_packet m c.args.packet.now.bytes (Some c.args.packet.now.slid)).fault)
      (λ m. (after_packet m c.args.packet.now.bytes (Some c.args.packet.now.slid)).manager) g.W.Sink.written g.W.Sink.has_failed
      c.on_packet.new.self _ (record { fabric = refl; managers = refl; deciders = refl; time = refl }) c.in-Err.fault c.in-Err.ensures.err
      (but_for_memory c.in-Err.fault _ c.in-Err.ensures.judged) c.refuse_manager.result _ _ c.refuse_manager.ensures.memory
      c.refuse_manager.ensures.prints c.refuse_manager.ensures.unprinted;
}
