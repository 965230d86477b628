use Rattle.std.proofs.Common.{◌≡◌, map, take}
use Rattle.schedule_run.specs.Commands.{new_seated}
use Rattle.schedule_run.specs.World.{seated_value}
use Rattle.schedule_run.proofs.world.seat_all.Given as goal

-- a manager for each seat so far
abbrev pub invariant-loop-seat : goal.invariant-loop-seat
invariant-loop-seat l = map seated_value l.managers.items ≡ map (new_seated l.planning l.topology.nodes) (take l.seat-index l.seats)
