use Rattle.ibsm.proofs.Opened.{opened_more, refused_more}
use Rattle.ibsm.proofs.perform.open_all.Goals as goal
use Rattle.ibsm.proofs.perform.open_all.Goals.{in-Ok, in-Err-Memory}

pub loop-input-preserved : goal.loop-input-preserved
loop-input-preserved g c =
    elim c.match-open_behind.branch [
      | in-Ok w ↦
          opened_more (g.R.Opener.answers c.args.rt.now) c.args.names.now c.loop-input.has_memory _ c.loop-input.input c.loop-input.files.items
          c.open_behind.new.files.items _ _
          c.loop-input-test.true w.has_memory-is w.in-Ok.ensures.1 w.in-Ok.ensures.2 c.loop-input.invariant
      | in-Err-Memory w ↦
          refused_more (g.R.Opener.answers c.args.rt.now) c.args.names.now c.loop-input.has_memory _ c.loop-input.input c.loop-input.files.items
          c.open_behind.new.files.items _ _
          c.loop-input-test.true w.has_memory-is w.in-Err-Memory.field-0-is w.in-Err-Memory.ensures.0 c.loop-input.invariant
    ]
