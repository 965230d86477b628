use Rattle.std.proofs.Common.{ℕ, List, refl, subst, sym}
use Rattle.byte_io.specs.Prints.{Prints}
use Rattle.schedule_run.specs.World.{value_of}
use Rattle.schedule_run.proofs.Merging.{merge_quiet, merges, merges_itself, somebody}
use Rattle.byte_io.proofs.Writing.{prints_nothing}
use Rattle.schedule_run.proofs.world.World.merge.Goals as goal

pub returns-then-seat-other : goal.returns-then-seat-other
returns-then-seat-other g c =
    let w = value_of c.args.self.now in
    let Printed : List ℕ → Type 0 = Prints g.W.Sink.written g.W.Sink.has_failed c.args.sink.now c.args.sink.now in
    record {
      does = record {
        managers = refl;
        leaves = merges_itself w c.args.seat c.args.other c.if-seat-other.true;
        prints = subst Printed (sym (merge_quiet w c.args.seat c.args.other)) (prints_nothing g.W.Sink.written g.W.Sink.has_failed c.args.sink.now);
      };
    }

pub returns-in-Ok : goal.returns-in-Ok
returns-in-Ok g c =
    let w = value_of c.args.self.now in
    let items = c.args.self.now.managers.items in
    let s = somebody items c.args.seat c.requires.seat in
    let o = somebody items c.args.other c.requires.other in
    let Printed : List ℕ → Type 0 = Prints g.W.Sink.written g.W.Sink.has_failed c.args.sink.now c.args.sink.now in
    record {
      does = record {
        managers = c.in-Ok.ensures.managers;
        leaves = merges w items _ c.args.seat c.args.other s.0 o.0 s.1 o.1 (c.in-Ok.ensures.ok s.0 o.0 s.1 o.1) _ refl;
        prints = subst Printed (sym (merge_quiet w c.args.seat c.args.other)) (prints_nothing g.W.Sink.written g.W.Sink.has_failed c.args.sink.now);
      };
    }
