use Rattle.run_laws.proofs.Alike as alike
use Rattle.run_laws.proofs.laws.same_taken_in_same_lines.Goals as goal

pub returns : goal.returns
returns c = alike.same_taken_in_same_lines
