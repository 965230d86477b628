use Rattle.program_laws.proofs.wakes.InTurn as wakes
use Rattle.program_laws.proofs.laws.healing.works_in_turn.Goals as goal

pub returns : goal.returns
returns c = wakes.works_in_turn
