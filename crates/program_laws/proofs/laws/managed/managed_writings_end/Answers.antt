use Rattle.program_laws.proofs.wakes.Deciding as wakes
use Rattle.program_laws.proofs.laws.managed.managed_writings_end.Goals as goal

pub returns : goal.returns
returns c = wakes.managed_writings_end
