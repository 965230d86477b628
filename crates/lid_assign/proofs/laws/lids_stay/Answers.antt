use Rattle.lid_assign.proofs.Staying.{lids_stay}
use Rattle.lid_assign.proofs.laws.lids_stay.Goals as goal

pub returns : goal.returns
returns c = lids_stay
