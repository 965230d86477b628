use Rattle.std.proofs.Common.{◌≡◌, drop, map}
use Rattle.spread_labels.specs.MarkSets.{picked}
use Rattle.balanced_choices.specs.Ways.{channel_by}
use Rattle.trial_loads.specs.TrialLoads.{with_more}
use Rattle.trial_loads.proofs.shared_loads.share.Given as goal

-- the shares of the candidates that are left make up the rest
abbrev pub invariant-loop-j : goal.invariant-loop-j
invariant-loop-j l = record {
  had : with_more l.share l.had (map (λ e. e.to) (picked l.k (drop l.j l.sets) (drop l.j l.edges)))
      ≡ with_more l.share l.fn.had (map (λ e. e.to) (picked l.k l.sets l.edges));
  loads : with_more l.share l.loads (map (channel_by l.position) (picked l.k (drop l.j l.sets) (drop l.j l.edges)))
      ≡ with_more l.share l.fn.loads (map (channel_by l.position) (picked l.k l.sets l.edges));
}
