use Rattle.two_orders.proofs.Agreement.{grows_again}
use Rattle.two_orders.proofs.laws.grows_again.Goals as goal

pub returns : goal.returns
returns c = record { law = grows_again }
