use Rattle.std.proofs.Common.{◌-◌, length}
use Rattle.audit_channels.proofs.ChannelWays.{OnWay}
use Rattle.audit_channels.proofs.cycle.cycle_from.Given as goal

abbrev pub invariant-loop-way : goal.invariant-loop-way
invariant-loop-way l = OnWay l.waits l.numbers l.way.items l.at

abbrev pub decreases-loop-way : goal.decreases-loop-way
decreases-loop-way l = length l.waits - length l.way.items
