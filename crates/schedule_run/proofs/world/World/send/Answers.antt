use Rattle.std.proofs.Common.{refl}
use Rattle.schedule_run.proofs.Seats.{sent_does}
use Rattle.schedule_run.proofs.world.World.send.Goals as goal

pub returns : goal.returns
returns g c = record {
  does = sent_does c.args.self.now c.args.seat c.index_mut.result.now c.requires c.index_mut.ensures.value g.W.Sink.written g.W.Sink.has_failed
      c.send_outgoing.new.manager _ refl refl refl c.send_outgoing.result _ _ c.send_outgoing.ensures.fabric c.send_outgoing.ensures.manager
      c.send_outgoing.ensures.prints;
}
