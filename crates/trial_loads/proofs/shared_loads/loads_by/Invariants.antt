use Rattle.std.proofs.Common.{◌≡◌, ◌≤◌, ◌*◌, ◌-◌, length, replicate, take}
use Rattle.trial_loads.specs.TrialLoads.{carried_between}
use Rattle.trial_loads.proofs.shared_loads.loads_by.Given as goal

-- the packets to the targets so far
abbrev pub invariant-loop-first : goal.invariant-loop-first
invariant-loop-first l = record {
  first : l.first ≤ l.targets.len;
  long : l.loads.len ≡ 256 * length l.graph.edges.now;
  loads : l.loads.items ≡ carried_between l.graph.edges.now l.graph.adapters.now (replicate (256 * length l.graph.edges.now) 0) (take l.first l.targets.items);
}

abbrev pub decreases-loop-first : goal.decreases-loop-first
decreases-loop-first l = l.targets.len - l.first
