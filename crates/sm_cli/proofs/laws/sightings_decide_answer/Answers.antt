use Rattle.sm_cli.proofs.AnswerLaws.{sightings_decide_answer}
use Rattle.sm_cli.proofs.laws.sightings_decide_answer.Goals as goal

pub returns : goal.returns
returns c = sightings_decide_answer
