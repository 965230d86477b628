-- The fields are apart, and before the record.
use Rattle.sa_bytes.proofs.ReadBack.{answer_back}
use Rattle.sa_bytes.proofs.laws.sa_answer_reads_back.Goals as goal

pub returns : goal.returns
returns c = answer_back
