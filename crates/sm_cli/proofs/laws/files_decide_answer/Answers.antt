use Rattle.sm_cli.proofs.AnswerLaws.{files_decide_answer}
use Rattle.sm_cli.proofs.laws.files_decide_answer.Goals as goal

pub returns : goal.returns
returns c = files_decide_answer
