-- The bytes of a number that was read are those bytes.
use Rattle.smp_bytes.proofs.Kept.{write_is_unique}
use Rattle.smp_bytes.proofs.laws.write_is_unique.Goals as goal

pub returns : goal.returns
returns c = write_is_unique
