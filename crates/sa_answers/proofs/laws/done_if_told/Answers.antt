-- Each kind of reply has either.
use Rattle.sa_answers.proofs.Replies.{done_if_bytes}
use Rattle.sa_answers.proofs.laws.done_if_told.Goals as goal

pub returns : goal.returns
returns c = done_if_bytes
