-- Only the byte of the bits is written.
use Rattle.smp_bytes.proofs.Kept.{keeps_other_bytes}
use Rattle.smp_bytes.proofs.laws.other_bytes_stay.Goals as goal

pub returns : goal.returns
returns c = keeps_other_bytes
