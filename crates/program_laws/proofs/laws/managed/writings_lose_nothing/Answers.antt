use Rattle.program_laws.proofs.wakes.Awaited as wakes
use Rattle.program_laws.proofs.laws.managed.writings_lose_nothing.Goals as goal

pub returns : goal.returns
returns c = wakes.writings_lose_nothing
