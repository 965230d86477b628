-- The fields are apart.
use Rattle.sa_bytes.proofs.Records.{node_back}
use Rattle.sa_bytes.proofs.laws.node_reads_back.Goals as goal

pub returns : goal.returns
returns c = node_back
