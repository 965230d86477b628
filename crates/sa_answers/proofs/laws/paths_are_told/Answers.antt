-- Each wire that the packet takes is a step of the way by the facts.
use Rattle.sa_answers.proofs.ToldPaths.{paths_told}
use Rattle.sa_answers.proofs.laws.paths_are_told.Goals as goal

pub returns : goal.returns
returns c = paths_told
