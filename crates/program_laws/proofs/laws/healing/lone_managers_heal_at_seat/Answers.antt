use Rattle.program_laws.proofs.alone.LoneAtSeat as alone
use Rattle.program_laws.proofs.laws.healing.lone_managers_heal_at_seat.Goals as goal

pub returns : goal.returns
returns c = alone.lone_managers_heal_at_seat
