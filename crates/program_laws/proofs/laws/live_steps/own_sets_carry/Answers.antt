use Rattle.program_laws.proofs.live_steps.OwnSets as proved
use Rattle.program_laws.proofs.laws.live_steps.own_sets_carry.Goals as goal

pub returns : goal.returns
returns c = proved.own_sets_carry
