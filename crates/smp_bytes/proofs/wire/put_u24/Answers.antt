use Rattle.smp_bytes.proofs.Written.{part-with_number}
use Rattle.smp_bytes.proofs.wire.put_u24.Goals as goal

pub returns : goal.returns
returns c = part-with_number c.args.at 3 c.args.number c.args.bytes.now c.write_u24.new.buf c.requires.offset c.write_u24.ensures
