use Rattle.packet_walks.specs.BlockDeliveries.{AreSeenBy}
use Rattle.packet_walks.proofs.block_deliveries.delivered.Given as goal

-- what is seen at the switches so far
abbrev pub invariant-loop-switch : goal.invariant-loop-switch
invariant-loop-switch l = AreSeenBy l.nodes l.owners l.rows l.number l.walks.arrived.items l.walks.exits.items
