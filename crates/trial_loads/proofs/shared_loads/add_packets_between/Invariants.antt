use Rattle.std.proofs.Common.{◌≡◌, length, take}
use Rattle.trial_loads.specs.TrialLoads.{carried_between}
use Rattle.trial_loads.proofs.shared_loads.add_packets_between.Given as goal

-- the packets to the targets so far
abbrev pub invariant-loop-k : goal.invariant-loop-k
invariant-loop-k l = record {
  had : l.had.len ≡ length l.graph.edges.now;
  loads : l.loads ≡ carried_between l.graph.edges.now l.graph.adapters.now l.fn.loads (take l.k l.targets);
}
