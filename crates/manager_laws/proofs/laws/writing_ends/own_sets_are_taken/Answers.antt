use Rattle.manager_laws.proofs.own_sets.Taken as proved
use Rattle.manager_laws.proofs.laws.writing_ends.own_sets_are_taken.Goals as goal

pub returns : goal.returns
returns c = proved.own_sets_are_taken
