use Rattle.program_laws.proofs.wakes.Asking as wakes
use Rattle.program_laws.proofs.laws.managed.managed_sweeps_ask_few.Goals as goal

pub returns : goal.returns
returns c = wakes.managed_sweeps_ask_few
