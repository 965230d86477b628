-- The fields are apart.
use Rattle.sa_bytes.proofs.ReadBack.{path_back}
use Rattle.sa_bytes.proofs.laws.path_reads_back.Goals as goal

pub returns : goal.returns
returns c = path_back
