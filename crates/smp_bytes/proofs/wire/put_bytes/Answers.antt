use Rattle.smp_bytes.proofs.Written.{mid-with_bytes}
use Rattle.smp_bytes.proofs.wire.put_bytes.Goals as goal

pub returns : goal.returns
returns c = mid-with_bytes c.args.at c.args.written.now c.args.bytes.now c.copy_from_slice.new.self c.copy_from_slice.ensures.after
