use Rattle.two_orders.proofs.LabelLaws.{labelled_go_on}
use Rattle.two_orders.proofs.laws.labelled_go_on.Goals as goal

pub returns : goal.returns
returns c = record { law = labelled_go_on }
