use Rattle.lid_assign.proofs.Uniqueness.{others_rise}
use Rattle.lid_assign.proofs.laws.others_rise.Goals as goal

pub returns : goal.returns
returns c = others_rise
