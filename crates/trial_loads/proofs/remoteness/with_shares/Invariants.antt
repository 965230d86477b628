use Rattle.std.proofs.Common.{◌≡◌, ◌+◌, cond}
use Rattle.std.specs.Prelude.{slice_index}
use Rattle.std.specs.List.{sum_by}
use Rattle.spread_labels.specs.Orders.{numbers_from}
use Rattle.trial_loads.specs.NearTargets.{has_target}
use Rattle.trial_loads.specs.Starts.{capped}
use Rattle.trial_loads.proofs.remoteness.with_shares.Given as goal

-- the sum with the shares of the targets so far
abbrev pub invariant-loop-k : goal.invariant-loop-k
invariant-loop-k l = l.sum ≡ capped (l.fn.sum + sum_by (λ k. cond (has_target l.set k) (slice_index l.shares k) 0) (numbers_from 0 l.k))
