use Rattle.std.proofs.Common.{◌≡◌, false, ◌==◌, cond, sym, rules}
use Rattle.std.proofs.lemmas.Bool.{cond-false}
use Rattle.schedule_run.specs.Commands.{after_tell, after_tell_ends}
use Rattle.schedule_lines.specs.Outcome.{quiet}
use Rattle.schedule_run.specs.World.{value_of}
use Rattle.schedule_run.proofs.Doing.{does_same, does_then}
use Rattle.schedule_run.proofs.world.World.tell_ends.Goals as goal

pub returns : goal.returns
unfolding after_tell_ends
returns g c =
    let w = value_of c.args.self.now in
    let one = c.args.one.now.node in
    let other = c.args.other.now.node in
    let apart : (other == one) ≡ false = search rules in
    record {
      does = does_then g.W.Sink.written g.W.Sink.has_failed c.args.self.now c.tell.new.self c.tell-2.new.self c.in_ok-tell.field-0 c.tell-2.result
          c.args.sink.now c.tell.new.sink c.tell-2.new.sink (after_tell w one) (λ now. cond (other == one) (quiet now) (after_tell now other))
          c.in_ok-tell.ensures.does
          (does_same g.W.Sink.written g.W.Sink.has_failed c.tell.new.self c.tell-2.new.self c.tell-2.result c.tell.new.sink c.tell-2.new.sink _ _
          (sym (cond-false (other == one) _ _ apart)) c.tell-2.ensures.does);
    }
