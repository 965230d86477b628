use Rattle.spread_labels.proofs.DistanceSums.{quarters_in_parts}
use Rattle.spread_labels.proofs.distance_class.quarters.Goals as goal

pub returns : goal.returns
returns c = quarters_in_parts c.args.sum c.args.count c.if-count-eq0.false
