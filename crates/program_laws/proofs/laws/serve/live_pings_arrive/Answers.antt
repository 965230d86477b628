use Rattle.program_laws.proofs.serve.LivePinged as live
use Rattle.program_laws.proofs.laws.serve.live_pings_arrive.Goals as goal

pub returns : goal.returns
returns c = live.live_pings_arrive
