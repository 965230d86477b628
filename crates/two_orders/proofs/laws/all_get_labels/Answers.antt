use Rattle.two_orders.proofs.TreeLabels.{all_get_labels}
use Rattle.two_orders.proofs.laws.all_get_labels.Goals as goal

pub returns : goal.returns
returns c = record { law = all_get_labels }
