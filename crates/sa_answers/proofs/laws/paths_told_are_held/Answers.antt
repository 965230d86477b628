-- Each step of the way by the facts is a step of the packet.
use Rattle.sa_answers.proofs.HeldPaths.{paths_held}
use Rattle.sa_answers.proofs.laws.paths_told_are_held.Goals as goal

pub returns : goal.returns
returns c = paths_held
