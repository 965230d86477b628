use Rattle.program_laws.proofs.wakes.SweepExample as wakes
use Rattle.program_laws.proofs.laws.managed.some_sweep_is_at_a_seat.Goals as goal

pub returns : goal.returns
returns c = wakes.some_sweep_is_at_a_seat
