use Rattle.packet_walks.specs.BlockDeliveries.{AreSeenBy}
use Rattle.packet_walks.proofs.block_deliveries.BlockWalks.add_switch.Given as goal

-- what is seen of the LIDs so far
abbrev pub invariant-loop-index : goal.invariant-loop-index
invariant-loop-index l = AreSeenBy l.nodes l.owners l.rows l.number l.self.arrived.items l.self.exits.items
