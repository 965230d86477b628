use Rattle.std.proofs.Common.{◌≡◌, drop}
use Rattle.packet_walks.specs.BlockDeliveries.{in_each}
use Rattle.packet_walks.proofs.block_deliveries.from_each.Given as goal

-- by the sets that are left
abbrev pub invariant-loop-more : goal.invariant-loop-more
invariant-loop-more l = in_each l.lids (drop l.more-index l.later) ≡ in_each l.initial.lids l.later
