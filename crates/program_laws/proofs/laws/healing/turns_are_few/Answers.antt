use Rattle.program_laws.proofs.alone.FewTurns as alone
use Rattle.program_laws.proofs.laws.healing.turns_are_few.Goals as goal

pub returns : goal.returns
returns c = alone.turns_are_few
