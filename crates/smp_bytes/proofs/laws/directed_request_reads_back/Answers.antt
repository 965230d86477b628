-- Each field is written once, and what is written behind it is apart from it.
use Rattle.smp_bytes.proofs.Made.{directed_reads_back}
use Rattle.smp_bytes.proofs.laws.directed_request_reads_back.Goals as goal

pub returns : goal.returns
returns c = directed_reads_back
