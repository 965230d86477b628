use Rattle.std.proofs.Common.{◌≡◌, ◌<◌, ℕ, get_or, length}
use Rattle.updown_routes.proofs.positions.positions.Given as goal

-- the positions so far
abbrev pub invariant-loop-position : goal.invariant-loop-position
invariant-loop-position l = (length l.positions.items ≡ length l.order) × ((p : ℕ) → p < l.position → get_or l.positions.items (get_or l.order p 0) 0 ≡ p)
