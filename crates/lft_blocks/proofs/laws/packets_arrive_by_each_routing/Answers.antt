use Rattle.lft_blocks.proofs.Reached.{packets_arrive_by_each_routing}
use Rattle.lft_blocks.proofs.laws.packets_arrive_by_each_routing.Goals as goal

pub returns : goal.returns
returns c = packets_arrive_by_each_routing
