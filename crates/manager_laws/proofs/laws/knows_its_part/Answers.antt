use Rattle.manager_laws.proofs.KnownPart as known
use Rattle.manager_laws.proofs.laws.knows_its_part.Goals as goal

pub returns : goal.returns
returns c = known.knows_its_part
