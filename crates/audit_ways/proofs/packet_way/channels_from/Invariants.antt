-- The channels so far.
use Rattle.audit_ways.proofs.PacketWays.{AreListed}
use Rattle.audit_ways.proofs.packet_way.channels_from.Given as goal

abbrev pub invariant-loop : goal.invariant-loop
invariant-loop l = AreListed l.edges l.first l.counter l.switch l.channels.items
