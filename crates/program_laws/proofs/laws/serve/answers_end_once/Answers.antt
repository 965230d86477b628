use Rattle.program_laws.proofs.serve.Framed as framed
use Rattle.program_laws.proofs.laws.serve.answers_end_once.Goals as goal

pub returns : goal.returns
returns c = framed.answers_end_once
