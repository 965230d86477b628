use Rattle.std.proofs.Common.{◌≡◌, None, drop, map}
use Rattle.schedule_run.specs.Waiting.{first_wake}
use Rattle.schedule_run.specs.World.{decider_value}
use Rattle.schedule_run.proofs.world.World.first_wake.Given as goal

-- the deciders that are left are yet to be looked at
abbrev pub invariant-loop-decider : goal.invariant-loop-decider
invariant-loop-decider l =
    first_wake l.first (map decider_value (drop l.decider-index l.self.deciders.items)) ≡ first_wake None (map decider_value l.self.deciders.items)
