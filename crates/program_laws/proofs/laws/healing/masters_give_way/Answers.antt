use Rattle.program_laws.proofs.alone.OtherMasters as alone
use Rattle.program_laws.proofs.laws.healing.masters_give_way.Goals as goal

pub returns : goal.returns
returns c = alone.masters_give_way
