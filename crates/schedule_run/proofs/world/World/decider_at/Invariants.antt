use Rattle.std.proofs.Common.{◌≡◌, ℕ, ◌<◌, false, get_or, map}
use Rattle.schedule_run.specs.Deciders.{is_awake_at}
use Rattle.schedule_run.specs.World.{DeciderValue, decider_value}
use Rattle.schedule_run.proofs.world.World.decider_at.Given as goal

-- none so far is meant
abbrev pub invariant-loop-index : goal.invariant-loop-index
invariant-loop-index l =
    (k : ℕ) (d : DeciderValue) → k < l.index → is_awake_at l.port (get_or (map decider_value l.self.deciders.items) k d) ≡ false
