use Rattle.std.proofs.Common.{◌≡◌, ℕ, ◌<◌, false, get_or, map}
use Rattle.schedule_run.specs.Waiting.{has_come, wake_at}
use Rattle.schedule_run.specs.World.{DeciderValue, decider_value}
use Rattle.schedule_run.proofs.world.World.due_at.Given as goal

-- none so far is meant
abbrev pub invariant-loop-index : goal.invariant-loop-index
invariant-loop-index l =
    (k : ℕ) (d : DeciderValue) → k < l.index → has_come l.self.time (wake_at (get_or (map decider_value l.self.deciders.items) k d)) ≡ false
