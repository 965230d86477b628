use Rattle.std.proofs.Common.{◌≡◌, drop}
use Rattle.sm_state.specs.Election.{best_with, is_candidate, successor_of}
use Rattle.sm_state.proofs.election.successor.Given as goal

-- the best so far, with those that are left
abbrev pub invariant-loop-other : goal.invariant-loop-other
invariant-loop-other l = best_with (is_candidate l.own) (drop l.other-index l.seen) l.best ≡ successor_of l.own l.seen
