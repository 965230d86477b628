-- The fields are apart.
use Rattle.sa_bytes.proofs.ReadBack.{member_back}
use Rattle.sa_bytes.proofs.laws.member_reads_back.Goals as goal

pub returns : goal.returns
returns c = member_back
