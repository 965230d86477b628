use Rattle.program_laws.proofs.lasting.ToldPaths as lasting
use Rattle.program_laws.proofs.laws.managed_writings.paths_are_told_at_seats.Goals as goal

pub returns : goal.returns
returns c = lasting.paths_are_told_at_seats
