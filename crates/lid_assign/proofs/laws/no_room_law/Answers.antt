use Rattle.lid_assign.proofs.Uniqueness.{no_room_law}
use Rattle.lid_assign.proofs.laws.no_room_law.Goals as goal

pub returns : goal.returns
returns c = no_room_law
