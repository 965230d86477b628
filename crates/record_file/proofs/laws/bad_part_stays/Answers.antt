use Rattle.record_file.proofs.Beginnings.{bad_part_stays}
use Rattle.record_file.proofs.laws.bad_part_stays.Goals as goal

pub returns : goal.returns
returns c = bad_part_stays
