use Rattle.std.proofs.Common.{◌≡◌, ◌+◌, ◌*◌, ◌<◌, ℕ, length, get_or}
use Rattle.node_agents.specs.Agent.{entry_at}
use Rattle.schedule_lines.proofs.tables.block.Given as goal

-- the entries below the number are there
abbrev pub invariant-loop-i : goal.invariant-loop-i
invariant-loop-i l = (length l.block ≡ 64) × ((k : ℕ) → k < l.i → get_or l.block k 0 ≡ entry_at l.agent (64 * l.b + k))
