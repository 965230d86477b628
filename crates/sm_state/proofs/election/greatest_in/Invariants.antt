use Rattle.std.proofs.Common.{◌≡◌, drop}
use Rattle.sm_state.specs.Election.{best_with, greatest_of, is_heard_in}
use Rattle.sm_state.proofs.election.greatest_in.Given as goal

-- the best so far, with those that are left
abbrev pub invariant-loop-other : goal.invariant-loop-other
invariant-loop-other l =
    best_with (is_heard_in l.state l.own) (drop l.other-index l.seen) l.best ≡ greatest_of (is_heard_in l.state l.own) l.seen
