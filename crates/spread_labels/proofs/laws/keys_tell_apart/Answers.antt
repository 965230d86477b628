use Rattle.spread_labels.proofs.KeyOrder.{keys_tell_apart}
use Rattle.spread_labels.proofs.laws.keys_tell_apart.Goals as goal

pub returns : goal.returns
returns c = keys_tell_apart
