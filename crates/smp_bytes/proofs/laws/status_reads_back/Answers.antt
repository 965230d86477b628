-- The highest bit of a directed packet's status word is written as it was.
use Rattle.smp_bytes.proofs.StatusLaws.{status_reads_back}
use Rattle.smp_bytes.proofs.laws.status_reads_back.Goals as goal

pub returns : goal.returns
returns c = status_reads_back
