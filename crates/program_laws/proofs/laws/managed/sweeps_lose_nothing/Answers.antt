use Rattle.program_laws.proofs.wakes.Awaited as wakes
use Rattle.program_laws.proofs.laws.managed.sweeps_lose_nothing.Goals as goal

pub returns : goal.returns
returns c = wakes.sweeps_lose_nothing
