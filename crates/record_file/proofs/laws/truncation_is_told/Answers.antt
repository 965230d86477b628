use Rattle.record_file.proofs.Faults.{truncation_is_told}
use Rattle.record_file.proofs.laws.truncation_is_told.Goals as goal

pub returns : goal.returns
returns c = truncation_is_told
