use Rattle.lid_assign.proofs.Uniqueness.{lids_are_unique}
use Rattle.lid_assign.proofs.laws.lids_are_unique.Goals as goal

pub returns : goal.returns
returns c = lids_are_unique
