use Rattle.std.proofs.Common.{◌≡◌, ◌-◌, length}
use Rattle.std.specs.Prelude.{filter, not}
use Rattle.spread_labels.specs.Orders.{numbers_from}
use Rattle.trial_loads.specs.TrialLoads.{candidates_in, goes_up, shared}
use Rattle.trial_loads.proofs.shared_loads.share_down.Given as goal

-- the shares of the positions that are left make up the rest
abbrev pub invariant-loop-position : goal.invariant-loop-position
invariant-loop-position l =
    let towards = candidates_in l.ways.graph.now l.ways.sets.now l.k in
    shared towards (filter (λ s. not (goes_up towards s)) (numbers_from l.position (length l.ways.graph.now - l.position)))
    (record { had = l.had; carried = l.loads })
    ≡ shared towards (filter (λ s. not (goes_up towards s)) (numbers_from 0 (length l.ways.graph.now)))
    (record { had = l.fn.had; carried = l.fn.loads })
