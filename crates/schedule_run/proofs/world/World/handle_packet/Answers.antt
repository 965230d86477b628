use Rattle.std.proofs.Common.{◌∙◌, ap, sym}
use Rattle.std.specs.Option.{option_map_or}
use Rattle.fabric_sim.specs.FabricFault.{fabric_fault_name}
use Rattle.fabric_sim.specs.declared.fabric_fault.FabricFault.TheVariants.{NoSuchPacket}
use Rattle.schedule_run.specs.Commands.{after_fate, after_packet_line}
use Rattle.schedule_lines.specs.Refusals.{refusal_line}
use Rattle.schedule_lines.specs.Outcome.{shows}
use Rattle.schedule_run.specs.World.{value_of}
use Rattle.schedule_run.proofs.Doing.{does_same, does_show}
use Rattle.schedule_run.proofs.world.World.handle_packet.Goals as goal

pub returns-in_default : goal.returns-in_default
unfolding after_packet_line
returns-in_default g c =
    let w = value_of c.args.self.now in
    let line = refusal_line (fabric_fault_name NoSuchPacket) in
    record {
      does = does_same g.W.Sink.written g.W.Sink.has_failed c.args.self.now c.args.self.now c.refuse_fabric.result c.args.sink.now
          c.refuse_fabric.new.sink _ _ (ap (λ o. option_map_or (after_fate w c.args.fate) o (shows line w)) (sym c.in_default.is ∙ c.serial.ensures))
          (does_show g.W.Sink.written g.W.Sink.has_failed c.args.self.now c.refuse_fabric.result c.args.sink.now c.refuse_fabric.new.sink line
          c.refuse_fabric.ensures.prints);
    }

pub returns-in-Deliver : goal.returns-in-Deliver
unfolding after_packet_line
returns-in-Deliver g c =
    let w = value_of c.args.self.now in
    let line = refusal_line (fabric_fault_name NoSuchPacket) in
    record {
      does = does_same g.W.Sink.written g.W.Sink.has_failed c.args.self.now c.deliver.new.self c.deliver.result c.args.sink.now c.deliver.new.sink _ _
          (ap (λ fate. after_fate w fate c.in-Some.serial) (sym c.in-Deliver.is)
          ∙ ap (λ o. option_map_or (after_fate w c.args.fate) o (shows line w)) (sym c.in-Some.is ∙ c.serial.ensures)) c.deliver.ensures.does;
    }
