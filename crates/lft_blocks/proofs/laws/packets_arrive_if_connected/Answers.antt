use Rattle.lft_blocks.proofs.WholeFabrics.{packets_arrive_if_connected}
use Rattle.lft_blocks.proofs.laws.packets_arrive_if_connected.Goals as goal

pub returns : goal.returns
returns c = packets_arrive_if_connected
