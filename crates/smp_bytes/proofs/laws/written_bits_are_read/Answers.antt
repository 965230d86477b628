-- What is written is what is read.
use Rattle.smp_bytes.proofs.BitLaws.{bits_in-with_bits}
use Rattle.smp_bytes.proofs.laws.written_bits_are_read.Goals as goal

pub returns : goal.returns
returns c = λ bits number bytes there small. bits_in-with_bits bits number bytes there.offset there.byte there.within small
