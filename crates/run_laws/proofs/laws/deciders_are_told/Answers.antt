use Rattle.run_laws.proofs.Deciders.{deciders_are_told}
use Rattle.run_laws.proofs.laws.deciders_are_told.Goals as goal

pub returns : goal.returns
returns c = deciders_are_told
