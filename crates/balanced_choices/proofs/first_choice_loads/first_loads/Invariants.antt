use Rattle.std.proofs.Common.{◌≡◌, ◌≤◌, ◌-◌, ◌*◌, drop, length, replicate}
use Rattle.balanced_choices.specs.Loads.{loads_with_all}
use Rattle.balanced_choices.proofs.first_choice_loads.first_loads.Given as goal

-- the destinations that are left add the rest
abbrev pub invariant-loop-first : goal.invariant-loop-first
invariant-loop-first l =
    (loads_with_all l.graph l.sent l.digits l.loads.items (drop l.first l.destinations)
    ≡ loads_with_all l.graph l.sent l.digits (replicate (256 * length l.graph) 0) l.destinations)
    × (length l.loads.items ≡ 256 * length l.graph)
    × (l.first ≤ length l.destinations)

abbrev pub decreases-loop-first : goal.decreases-loop-first
decreases-loop-first l = length l.destinations - l.first
