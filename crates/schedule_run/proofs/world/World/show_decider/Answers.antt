use Rattle.std.proofs.Common.{◌∙◌, ℕ, List, [], Some, arith, ap, subst, sym}
use Rattle.std.specs.Option.{option_map_or}
use Rattle.schedule_lines.specs.ManagerAsks.{text_of}
use Rattle.byte_io.specs.Prints.{Prints}
use Rattle.schedule_run.specs.Deciders.{decider_shown, decider_shown_at}
use Rattle.byte_io.proofs.Writing.{prints_nothing}
use Rattle.schedule_lines.proofs.Printing.{prints_same}
use Rattle.schedule_run.proofs.Deciding.{decides_at, nobody_shown}
use Rattle.schedule_run.proofs.world.World.show_decider.Goals as goal

pub returns-then-index-len : goal.returns-then-index-len
returns-then-index-len g c =
    let Printed : List ℕ → Type 0 = Prints g.W.Sink.written g.W.Sink.has_failed c.args.sink.now c.args.sink.now in
    record {
      prints = subst Printed
          (sym (nobody_shown c.args.self.now c.args.index c.args.what (omega (arith, c.if-index-len.true, c.len.ensures))))
          (prints_nothing g.W.Sink.written g.W.Sink.has_failed c.args.sink.now);
    }

pub returns : goal.returns
unfolding decider_shown
returns g c =
    let items = c.args.self.now.deciders.items in
    record {
      prints = prints_same g.W.Sink.written g.W.Sink.has_failed c.show_manager.result c.args.sink.now c.show_manager.new.sink _ _
          (ap (λ n. text_of c.args.what (Some n) c.manager.result.now) c.as_str-name.ensures.name
          ∙ ap (text_of c.args.what (Some c.index-decider.result.now.seat.now.name)) c.manager.ensures
          ∙ ap (λ o. option_map_or (decider_shown_at c.args.what) o [])
          (sym (decides_at items c.args.index c.index-decider.result.now (omega (arith, c.if-index-len.false, c.len.ensures)) c.index-decider.ensures)))
          c.show_manager.ensures.prints;
    }
