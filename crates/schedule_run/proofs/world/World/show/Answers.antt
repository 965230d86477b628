use Rattle.std.proofs.Common.{[], Some, ap, sym, ◌∙◌}
use Rattle.std.specs.Option.{option_map_or}
use Rattle.schedule_lines.specs.ManagerAsks.{text_of}
use Rattle.schedule_run.specs.Commands.{shown_at, shown_of}
use Rattle.schedule_lines.proofs.Printing.{prints_same}
use Rattle.schedule_run.proofs.Seats.{sits}
use Rattle.schedule_run.proofs.world.World.show.Goals as goal

pub returns : goal.returns
unfolding shown_of
returns g c = record {
  prints = prints_same g.W.Sink.written g.W.Sink.has_failed c.show_manager.result c.args.sink.now c.show_manager.new.sink _ _
      (ap (λ n. text_of c.args.what (Some n) c.index-seated.result.now.manager) c.as_str.ensures.name
      ∙ ap (λ o. option_map_or (shown_at c.args.what) o [])
      (sym (sits c.args.self.now.managers.items c.args.seat c.index-seated.result.now c.requires c.index-seated.ensures))) c.show_manager.ensures.prints;
}
