use Rattle.program_laws.proofs.serve.Alike as alike
use Rattle.program_laws.proofs.laws.serve.same_told_same_texts.Goals as goal

pub returns : goal.returns
returns c = alike.same_told_same_texts
