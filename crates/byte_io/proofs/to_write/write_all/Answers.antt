use Rattle.byte_io.proofs.Bytes.{more_gone}
use Rattle.byte_io.proofs.to_write.write_all.Goals as goal

pub loop-rest-preserved-in-Ok : goal.loop-rest-preserved-in-Ok
loop-rest-preserved-in-Ok g c = record {
  gone = more_gone _ _ _ _ _ _ c.loop-rest.invariant.gone c.in-Ok.ensures.bytes;
  tries = c.loop-rest.invariant.tries;
}
