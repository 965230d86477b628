use Rattle.program_laws.proofs.wakes.Resting as wakes
use Rattle.program_laws.proofs.laws.healing.rests_end_in_time.Goals as goal

pub returns : goal.returns
returns c = wakes.rests_end_in_time
