use Rattle.trial_loads.specs.NearTargets.{AreNear, AreWithShares}
use Rattle.trial_loads.proofs.remoteness.add_shares.Given as goal

-- the targets that are nearer than the distance, and the sums with their shares
abbrev pub invariant-loop-distance : goal.invariant-loop-distance
invariant-loop-distance l = record {
  near : AreNear l.graph.edges.now l.targets l.distance l.near.items;
  sums : AreWithShares l.graph.edges.now l.graph.adapters.now l.targets l.distance l.fn.sums l.sums;
}
