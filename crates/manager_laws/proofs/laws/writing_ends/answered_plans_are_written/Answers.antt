use Rattle.manager_laws.proofs.own_sets.Answered as proved
use Rattle.manager_laws.proofs.laws.writing_ends.answered_plans_are_written.Goals as goal

pub returns : goal.returns
returns c = proved.answered_plans_are_written
