use Rattle.lft_blocks.proofs.Reached.{packets_arrive_where_covered}
use Rattle.lft_blocks.proofs.laws.packets_arrive_where_covered.Goals as goal

pub returns : goal.returns
returns c = packets_arrive_where_covered
