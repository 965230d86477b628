use Rattle.std.proofs.Common.{Some}
use Rattle.smp_bytes.specs.Packet.{fault_of}
use Rattle.sm_manager.specs.Packets.{after_packet, noted_trap}
use Rattle.sm_manager.proofs.Refusals.{packet_leaves}
use Rattle.serve_run.proofs.Calls.{refused_packet}
use Rattle.schedule_lines.proofs.Refused.{but_for_memory}
use Rattle.serve_run.proofs.served.take_in.Goals as goal

pub returns-in-Err : goal.returns-in-Err
returns-in-Err g c = record {
  does = refused_packet g.W.Sink.written g.W.Sink.has_failed (noted_trap c.args.manager.now c.args.bytes.now) c.args.manager.now c.on_packet.new.self
      (after_packet c.args.manager.now c.args.bytes.now (Some c.args.from)) c.in-Err.fault c.refuse_manager.result c.args.sink.now c.refuse_manager.new.sink
      (packet_leaves c.args.manager.now c.args.bytes.now (Some c.args.from) (fault_of c.args.bytes.now)) c.in-Err.ensures.err
      (but_for_memory c.in-Err.fault _ c.in-Err.ensures.judged) c.refuse_manager.ensures.memory
      c.refuse_manager.ensures.prints c.refuse_manager.ensures.unprinted;
}
