use Rattle.std.proofs.Common.{◌≡◌, drop}
use Rattle.packet_walks.specs.BlockDeliveries.{back_by}
use Rattle.packet_walks.proofs.block_deliveries.go_back_once.Given as goal

-- by the exits that are left
abbrev pub invariant-loop-exit : goal.invariant-loop-exit
invariant-loop-exit l = back_by (drop l.exit-index l.exits) l.arrived.items ≡ back_by l.exits l.fn.arrived.items
