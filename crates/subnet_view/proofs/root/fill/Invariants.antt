use Rattle.std.proofs.Common.{◌≡◌, ◌<◌, ◌≤◌, ℕ, get_or}
use Rattle.std.specs.Prelude.{None, option_map}
use Rattle.std.specs.Option.{option_or}
use Rattle.subnet_view.proofs.root.fill.Given as goal

-- what was written, and what is as it was
abbrev pub invariant-loop-i : goal.invariant-loop-i
invariant-loop-i l = ((k : ℕ) → k < l.i → get_or l.roots k None ≡ option_or (get_or l.fn.roots k None) (option_map (λ d. l.root) (get_or l.distances k None)))
    × ((k : ℕ) → l.i ≤ k → get_or l.roots k None ≡ get_or l.fn.roots k None)
