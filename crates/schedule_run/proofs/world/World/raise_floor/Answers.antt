use Rattle.std.proofs.Common.{None, Ok, refl}
use Rattle.sm_manager.specs.Manager.{after_raise_floor}
use Rattle.schedule_run.specs.Commands.{after_floor_line}
use Rattle.schedule_lines.specs.Outcome.{quiet}
use Rattle.schedule_run.specs.World.{value_of}
use Rattle.schedule_run.proofs.Seats.{done_leaves}
use Rattle.schedule_run.proofs.world.World.raise_floor.Goals as goal

pub returns-clause-leaves : goal.returns-clause-leaves
unfolding after_floor_line
returns-clause-leaves c =
    done_leaves (value_of c.args.self.now) c.args.self.now.managers.items c.args.seat c.index_mut.result.now c.requires c.index_mut.ensures.value
    quiet (λ m. None) (λ m. after_raise_floor m c.args.floor) c.raise_floor.new.self refl c.raise_floor.ensures (Ok tt) _ refl
