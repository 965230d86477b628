use Rattle.two_orders.proofs.Agreement.{agreement_stays}
use Rattle.two_orders.proofs.laws.agreement_stays.Goals as goal

pub returns : goal.returns
returns c = record { law = agreement_stays }
