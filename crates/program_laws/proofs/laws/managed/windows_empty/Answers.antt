use Rattle.program_laws.proofs.wakes.Empties as wakes
use Rattle.program_laws.proofs.laws.managed.windows_empty.Goals as goal

pub returns : goal.returns
returns c = wakes.windows_empty
