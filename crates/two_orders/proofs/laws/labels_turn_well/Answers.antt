use Rattle.two_orders.proofs.LabelLaws.{labels_turn_well}
use Rattle.two_orders.proofs.laws.labels_turn_well.Goals as goal

pub returns : goal.returns
returns c = record { law = labels_turn_well }
