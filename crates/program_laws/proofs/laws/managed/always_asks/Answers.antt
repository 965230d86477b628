use Rattle.program_laws.proofs.wakes.News as wakes
use Rattle.program_laws.proofs.laws.managed.always_asks.Goals as goal

pub returns : goal.returns
returns c = wakes.always_asks
