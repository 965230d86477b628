use Rattle.updown_routes.proofs.Ways.{way_law}
use Rattle.updown_routes.proofs.laws.next_ports_lead_to_the_target.Goals as goal

pub returns : goal.returns
returns c = way_law
