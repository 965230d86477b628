use Rattle.lid_assign.proofs.Ranges.{ranges_law}
use Rattle.lid_assign.proofs.laws.ranges_law.Goals as goal

pub returns : goal.returns
returns c = ranges_law
