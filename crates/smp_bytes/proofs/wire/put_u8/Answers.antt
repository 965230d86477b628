use Rattle.std.proofs.Common.{arith}
use Rattle.smp_bytes.proofs.Written.{set-with_number}
use Rattle.smp_bytes.proofs.wire.put_u8.Goals as goal

pub returns : goal.returns
returns c = set-with_number c.args.at c.args.number c.args.bytes.now c.requires (omega (arith, c.ranges.number))
