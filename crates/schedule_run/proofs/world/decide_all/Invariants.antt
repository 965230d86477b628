use Rattle.std.proofs.Common.{◌≡◌, map, take}
use Rattle.schedule_run.specs.Commands.{new_decider}
use Rattle.schedule_run.specs.World.{decider_value}
use Rattle.schedule_run.proofs.world.decide_all.Given as goal

-- a manager for each seat so far
abbrev pub invariant-loop-seat : goal.invariant-loop-seat
invariant-loop-seat l = map decider_value l.deciders.items ≡ map (new_decider l.planning l.topology.nodes) (take l.seat-index l.seats)
