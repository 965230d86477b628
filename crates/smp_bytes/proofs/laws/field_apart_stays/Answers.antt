-- No byte of the other field is written.
use Rattle.smp_bytes.proofs.FieldLaws.{number_in-with_number_apart}
use Rattle.smp_bytes.proofs.laws.field_apart_stays.Goals as goal

pub returns : goal.returns
returns c = number_in-with_number_apart
