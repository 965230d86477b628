use Rattle.program_laws.proofs.managed.PathExample as managed
use Rattle.program_laws.proofs.laws.managed_writings.some_path_is_told_at_a_seat.Goals as goal

pub returns : goal.returns
returns c = managed.some_path_is_told_at_a_seat
