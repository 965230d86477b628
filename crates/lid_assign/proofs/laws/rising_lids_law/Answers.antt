use Rattle.lid_assign.proofs.RisingLids.{rising_lids_law}
use Rattle.lid_assign.proofs.laws.rising_lids_law.Goals as goal

pub returns : goal.returns
returns c = rising_lids_law
