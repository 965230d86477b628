use Rattle.program_laws.proofs.wakes.Sweeping as wakes
use Rattle.program_laws.proofs.laws.managed.managed_sweeps_end.Goals as goal

pub returns : goal.returns
returns c = wakes.managed_sweeps_end
