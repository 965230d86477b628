use Rattle.program_laws.proofs.lasting.StandingPings as lasting
use Rattle.program_laws.proofs.laws.healing.standing_pings_arrive.Goals as goal

pub returns : goal.returns
returns c = lasting.standing_pings_arrive
