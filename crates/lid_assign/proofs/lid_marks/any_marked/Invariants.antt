use Rattle.std.proofs.Common.{◌≡◌, ◌<◌, ◌≤◌, ℕ, false, get_or}
use Rattle.lid_assign.proofs.lid_marks.any_marked.Given as goal

-- none so far is marked
abbrev pub invariant-loop-n : goal.invariant-loop-n
invariant-loop-n l = (k : ℕ) → l.first ≤ k → k < l.n → get_or l.marks k false ≡ false
