use Rattle.std.proofs.Common.{subst}
use Rattle.audit_channels.specs.ChannelOrders.{LeadToChannels}
use Rattle.audit_channels.proofs.waits.Waits.len.Goals as goal

pub returns-clause-channels : goal.returns-clause-channels
returns-clause-channels c = subst LeadToChannels c.self.view_is c.self.invariant
