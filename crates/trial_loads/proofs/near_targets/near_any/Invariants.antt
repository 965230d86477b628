use Rattle.std.proofs.Common.{◌≡◌, ◌||◌, ℕ, drop}
use Rattle.trial_loads.specs.NearTargets.{has_target, is_near_any}
use Rattle.trial_loads.proofs.near_targets.near_any.Given as goal

-- what was found, and what the edges that are left lead to
abbrev pub invariant-loop-edge : goal.invariant-loop-edge
invariant-loop-edge l = (k : ℕ) → (has_target l.set k || is_near_any l.near (drop l.edge-index l.edges) k) ≡ is_near_any l.near l.edges k
