use Rattle.manager_laws.proofs.WritingExample as proved
use Rattle.manager_laws.proofs.laws.writing_ends.some_sets_are_answered.Goals as goal

pub returns : goal.returns
returns c = proved.some_sets_are_answered
