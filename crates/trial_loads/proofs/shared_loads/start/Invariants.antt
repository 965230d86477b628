use Rattle.std.proofs.Common.{◌≡◌, length, take}
use Rattle.trial_loads.specs.TrialLoads.{first_had}
use Rattle.trial_loads.proofs.shared_loads.start.Given as goal

-- what the positions so far start with
abbrev pub invariant-loop-position : goal.invariant-loop-position
invariant-loop-position l = record {
  long : length l.had ≡ length l.adapters;
  had : take l.position l.had ≡ first_had l.to (take l.position l.adapters);
}
