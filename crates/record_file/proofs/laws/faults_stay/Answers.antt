use Rattle.record_file.proofs.Pieces.{stays}
use Rattle.record_file.proofs.laws.faults_stay.Goals as goal

pub returns : goal.returns
returns c bytes rest fault h = let is = stays bytes rest fault h in (is.later, is.keeps, is.floors)
