-- Each field is written once, and what is written behind it is apart from it.
use Rattle.smp_bytes.proofs.Made.{lid_routed_reads_back}
use Rattle.smp_bytes.proofs.laws.lid_routed_request_reads_back.Goals as goal

pub returns : goal.returns
returns c = lid_routed_reads_back
