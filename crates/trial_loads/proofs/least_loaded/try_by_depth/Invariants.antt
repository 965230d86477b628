use Rattle.std.proofs.Common.{◌≡◌, map, take}
use Rattle.trial_loads.specs.LeastLoaded.{keys_by_depth, least_by}
use Rattle.trial_loads.specs.TrialLoads.{trial_load}
use Rattle.trial_loads.proofs.least_loaded.try_by_depth.Given as goal

-- the best so far, with its load
abbrev pub invariant-loop-start : goal.invariant-loop-start
invariant-loop-start l =
    record {
      keys : l.best.keys.items ≡ least_by (trial_load l.graph.edges.now l.graph.adapters.now) l.fn.first.keys.items
          (map (keys_by_depth l.graph.edges.now l.keys l.direction) (take l.start-index l.starts));
      load : l.best.load ≡ trial_load l.graph.edges.now l.graph.adapters.now l.best.keys.items;
    }
