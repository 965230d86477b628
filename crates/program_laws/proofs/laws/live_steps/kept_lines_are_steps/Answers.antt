use Rattle.program_laws.proofs.live_steps.Arriving as proved
use Rattle.program_laws.proofs.laws.live_steps.kept_lines_are_steps.Goals as goal

pub returns : goal.returns
returns c = proved.kept_lines_are_steps
