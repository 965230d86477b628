use Rattle.lid_assign.proofs.Owners.{owners_are_inverse}
use Rattle.lid_assign.proofs.laws.owners_are_inverse.Goals as goal

pub returns : goal.returns
returns c = owners_are_inverse
