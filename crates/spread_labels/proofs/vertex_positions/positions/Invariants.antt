use Rattle.std.proofs.Common.{◌≡◌, ◌<◌, ℕ, get_or, length}
use Rattle.spread_labels.proofs.vertex_positions.positions.Given as goal

-- the positions so far
abbrev pub invariant-loop-position : goal.invariant-loop-position
invariant-loop-position l = (length l.positions.items ≡ l.count) × ((p : ℕ) → p < l.position → get_or l.positions.items (get_or l.vertices p 0) 0 ≡ p)
