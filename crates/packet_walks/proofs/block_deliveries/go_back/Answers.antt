-- A round more.
use Rattle.std.proofs.Common.{suc, ap, ◌∙◌}
use Rattle.packet_walks.specs.BlockDeliveries.{back_by}
use Rattle.packet_walks.proofs.block_deliveries.go_back.Goals as goal

pub returns-then-not-go_back_once : goal.returns-then-not-go_back_once
returns-then-not-go_back_once c = (suc c.loop-round._round, c.go_back_once.ensures ∙ ap (back_by c.args.exits.now) c.loop-round.invariant)
