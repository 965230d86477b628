use Rattle.smp_bytes.specs.Packet.{fault_of}
use Rattle.sm_manager.specs.Packets.{after_packet}
use Rattle.sm_manager.proofs.Refusals.{packet_leaves}
use Rattle.acting_manager.proofs.Called.{called_with}
use Rattle.acting_manager.proofs.asks.take_packet.Goals as goal

pub returns-clause-manager : goal.returns-clause-manager
returns-clause-manager c =
    let m = c.args.manager.now in
    let called = after_packet m c.args.bytes.now c.args.from in
    called_with c.on_packet.result called c.is_done.result c.on_packet.new.self m c.on_packet.ensures.ok c.on_packet.ensures.err (packet_leaves m c.args.bytes.now c.args.from (fault_of c.args.bytes.now)) c.is_done.ensures.ok
    (c.is_done.ensures.judged called.fault c.on_packet.ensures.judged)
