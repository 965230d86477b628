-- Only the bytes of the field are written.
use Rattle.smp_bytes.proofs.Kept.{keeps_bytes_outside}
use Rattle.smp_bytes.proofs.laws.bytes_outside_field_stay.Goals as goal

pub returns : goal.returns
returns c = keeps_bytes_outside
