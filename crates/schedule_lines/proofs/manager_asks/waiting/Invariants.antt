use Rattle.std.proofs.Common.{◌≡◌, ◌-◌, ◌≤◌, length, take}
use Rattle.sm_manager.specs.Manager.{outstanding}
use Rattle.schedule_lines.proofs.manager_asks.waiting.Given as goal

-- the first of them are there
abbrev pub invariant-loop-transaction : goal.invariant-loop-transaction
invariant-loop-transaction l =
    (l.waiting.items ≡ take (length l.waiting.items) (outstanding l.manager)) × (length l.waiting.items ≤ length (outstanding l.manager))

abbrev pub decreases-loop-transaction : goal.decreases-loop-transaction
decreases-loop-transaction l = length (outstanding l.manager) - length l.waiting.items
