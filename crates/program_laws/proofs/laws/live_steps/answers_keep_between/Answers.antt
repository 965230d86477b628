use Rattle.program_laws.proofs.live_steps.Between as proved
use Rattle.program_laws.proofs.laws.live_steps.answers_keep_between.Goals as goal

pub returns : goal.returns
returns c = proved.answers_keep_between
