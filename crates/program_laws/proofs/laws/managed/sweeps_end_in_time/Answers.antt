use Rattle.program_laws.proofs.wakes.AtSeats as wakes
use Rattle.program_laws.proofs.laws.managed.sweeps_end_in_time.Goals as goal

pub returns : goal.returns
returns c = wakes.sweeps_end_in_time
