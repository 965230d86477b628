use Rattle.program_laws.proofs.live_steps.Arriving as proved
use Rattle.program_laws.proofs.laws.live_steps.packets_arrive_in_ordered_live_steps.Goals as goal

pub returns : goal.returns
returns c = proved.packets_arrive_in_ordered_live_steps
