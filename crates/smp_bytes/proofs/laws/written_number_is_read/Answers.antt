-- What is written is what is read.
use Rattle.smp_bytes.proofs.FieldLaws.{number_in-with_number}
use Rattle.smp_bytes.proofs.laws.written_number_is_read.Goals as goal

pub returns : goal.returns
returns c = number_in-with_number
