use Rattle.lid_assign.proofs.Counting.{no_room_at_lmc_0}
use Rattle.lid_assign.proofs.laws.no_room_at_lmc_0.Goals as goal

pub returns : goal.returns
returns c = no_room_at_lmc_0
