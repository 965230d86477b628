use Rattle.smp_bytes.proofs.Written.{part-with_number}
use Rattle.smp_bytes.proofs.wire.put_u32.Goals as goal

pub returns : goal.returns
returns c = part-with_number c.args.at 4 c.args.number c.args.bytes.now c.write_u32.new.buf c.requires c.write_u32.ensures
