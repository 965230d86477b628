use Rattle.std.proofs.Common.{◌≡◌, ℕ, ◌<◌, false, get_or, map}
use Rattle.fabric_model.specs.Cables.{is_same_port}
use Rattle.schedule_run.specs.World.{SeatedValue, seated_value}
use Rattle.schedule_run.proofs.world.World.manager_at.Given as goal

-- none so far sits at the port
abbrev pub invariant-loop-seat : goal.invariant-loop-seat
invariant-loop-seat l = (k : ℕ) (d : SeatedValue) → k < l.seat → is_same_port (get_or (map seated_value l.self.managers.items) k d).at l.port ≡ false
