-- The fields are apart.
use Rattle.sa_bytes.proofs.Records.{port_back}
use Rattle.sa_bytes.proofs.laws.port_reads_back.Goals as goal

pub returns : goal.returns
returns c = port_back
