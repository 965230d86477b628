use Rattle.lid_assign.proofs.LidLaws.{lids_law}
use Rattle.lid_assign.proofs.laws.lids_law.Goals as goal

pub returns : goal.returns
returns c = lids_law
