use Rattle.std.proofs.Common.{◌≡◌, drop}
use Rattle.sm_state.specs.Election.{best_with, greatest_of, is_above}
use Rattle.sm_state.proofs.election.greatest_above.Given as goal

-- the best so far, with those that are left
abbrev pub invariant-loop-other : goal.invariant-loop-other
invariant-loop-other l = best_with (is_above l.own) (drop l.other-index l.seen) l.best ≡ greatest_of (is_above l.own) l.seen
