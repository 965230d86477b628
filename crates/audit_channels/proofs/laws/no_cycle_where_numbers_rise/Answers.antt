use Rattle.audit_channels.specs.ChannelOrders.{Follows}
use Rattle.audit_channels.proofs.Orders.{no_cycle}
use Rattle.audit_channels.proofs.laws.no_cycle_where_numbers_rise.Goals as goal

pub returns : goal.returns
returns c = record { law = λ waits cycle rise. no_cycle (Follows waits) rise cycle }
