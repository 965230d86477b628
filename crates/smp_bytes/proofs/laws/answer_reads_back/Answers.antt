-- Method, status and attribute are written, and nothing else.
use Rattle.smp_bytes.proofs.Answered.{answer_reads_back}
use Rattle.smp_bytes.proofs.laws.answer_reads_back.Goals as goal

pub returns : goal.returns
returns c = answer_reads_back
