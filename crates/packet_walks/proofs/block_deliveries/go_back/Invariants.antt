use Rattle.std.proofs.Common.{◌≡◌}
use Rattle.packet_walks.specs.BlockDeliveries.{back_times}
use Rattle.packet_walks.proofs.block_deliveries.go_back.Given as goal

-- after the rounds so far
abbrev pub invariant-loop-round : goal.invariant-loop-round
invariant-loop-round l = l.arrived.items ≡ back_times l._round l.exits l.fn.arrived.items
