use Rattle.std.proofs.Common.{◌≡◌, ◌<◌, ◌≤◌, ℕ, get_or}
use Rattle.std.specs.Prelude.{None}
use Rattle.std.specs.Option.{option_or}
use Rattle.spread_labels.proofs.growth_keys.fill.Given as goal

-- what was written, and what is as it was
abbrev pub invariant-loop-i : goal.invariant-loop-i
invariant-loop-i l = ((k : ℕ) → k < l.i → get_or l.far k None ≡ option_or (get_or l.fn.far k None) (get_or l.found k None))
    × ((k : ℕ) → l.i ≤ k → get_or l.far k None ≡ get_or l.fn.far k None)
