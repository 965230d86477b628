use Rattle.manager_laws.proofs.writing_ends.Ended as proved
use Rattle.manager_laws.proofs.laws.writing_ends.writings_end.Goals as goal

pub returns : goal.returns
returns c = proved.writings_end
