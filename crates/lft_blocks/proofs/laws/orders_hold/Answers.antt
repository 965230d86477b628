use Rattle.lft_blocks.proofs.RulesRoute.{orders_hold}
use Rattle.lft_blocks.proofs.laws.orders_hold.Goals as goal

pub returns : goal.returns
returns c = orders_hold
