use Rattle.std.proofs.Common.{◌≡◌, ◌-◌, length}
use Rattle.spread_labels.specs.Orders.{numbers_from}
use Rattle.balanced_choices.specs.EdgesTaken.{without_by}
use Rattle.balanced_choices.proofs.choice.remove_packets.Given as goal

-- the positions that are left do the rest
abbrev pub invariant-loop-position : goal.invariant-loop-position
invariant-loop-position l =
    without_by l.sent l.taken l.loads (numbers_from l.position (length l.taken - l.position))
    ≡ without_by l.sent l.taken l.fn.loads (numbers_from 0 (length l.taken))
