use Rattle.program_laws.proofs.lasting.HealingAtSeat as lasting
use Rattle.program_laws.proofs.laws.healing.heals_at_seat.Goals as goal

pub returns : goal.returns
returns c = lasting.heals_at_seat
