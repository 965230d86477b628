-- Both writes are of the same bytes.
use Rattle.smp_bytes.proofs.CopyLaws.{with_number-twice}
use Rattle.smp_bytes.proofs.laws.last_write_stands.Goals as goal

pub returns : goal.returns
returns c = with_number-twice
