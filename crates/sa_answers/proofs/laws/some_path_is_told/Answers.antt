-- The path is computed.
use Rattle.sa_answers.proofs.SomePath.{some_path_is_told}
use Rattle.sa_answers.proofs.laws.some_path_is_told.Goals as goal

pub returns : goal.returns
returns c = some_path_is_told
