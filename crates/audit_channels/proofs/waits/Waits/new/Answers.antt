-- None follows.
use Rattle.std.proofs.Common.{sym, subst}
use Rattle.audit_channels.specs.ChannelOrders.{LeadToChannels}
use Rattle.audit_channels.proofs.Made.{none_follows}
use Rattle.audit_channels.proofs.waits.Waits.new.Goals as goal

pub invariant_of-result : goal.invariant_of-result
invariant_of-result c = subst LeadToChannels (sym c.loop-channel.invariant) (none_follows c.loop-channel._channel)
