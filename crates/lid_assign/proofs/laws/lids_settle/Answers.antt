use Rattle.lid_assign.proofs.Staying.{lids_settle}
use Rattle.lid_assign.proofs.laws.lids_settle.Goals as goal

pub returns : goal.returns
returns c = lids_settle
