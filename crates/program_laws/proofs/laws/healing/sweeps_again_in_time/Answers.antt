use Rattle.program_laws.proofs.wakes.NextSweep as wakes
use Rattle.program_laws.proofs.laws.healing.sweeps_again_in_time.Goals as goal

pub returns : goal.returns
returns c = wakes.sweeps_again_in_time
