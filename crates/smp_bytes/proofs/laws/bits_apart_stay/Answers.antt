-- No bit of the others is written.
use Rattle.smp_bytes.proofs.BitLaws.{bits_in-with_bits_apart}
use Rattle.smp_bytes.proofs.laws.bits_apart_stay.Goals as goal

pub returns : goal.returns
returns c = λ other bits number bytes there small apart. bits_in-with_bits_apart other bits number bytes there.offset there.byte there.within small apart
