-- The reply fits into a packet.
use Rattle.sa_answers.proofs.Replies.{answers_back}
use Rattle.sa_answers.proofs.laws.answers_are_the_requests.Goals as goal

pub returns : goal.returns
returns c = answers_back
