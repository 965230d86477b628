use Rattle.two_orders.proofs.Agreement.{agreement_grows}
use Rattle.two_orders.proofs.laws.agreement_grows.Goals as goal

pub returns : goal.returns
returns c = record { law = agreement_grows }
