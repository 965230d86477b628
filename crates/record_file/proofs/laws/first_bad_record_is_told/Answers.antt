use Rattle.record_file.proofs.Faults.{first_bad_record_is_told}
use Rattle.record_file.proofs.laws.first_bad_record_is_told.Goals as goal

pub returns : goal.returns
returns c = first_bad_record_is_told
