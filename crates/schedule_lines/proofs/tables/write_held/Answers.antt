-- A LID more.
use Rattle.byte_io.proofs.Writing.{written_next, wrote}
use Rattle.schedule_lines.specs.Tables.{held_line}
use Rattle.schedule_lines.proofs.tables.write_held.Goals as goal

pub loop-lid-preserved : goal.loop-lid-preserved
loop-lid-preserved g c =
    written_next g.W.Sink.written g.W.Sink.has_failed held_line c.args.sink.now c.loop-lid.sink c.write_lid.new.sink c.args.lids.now _
    c.loop-lid.lid-index c.loop-lid-item.result c.loop-lid.invariant c.loop-lid-test.true c.loop-lid-item.is
    (wrote g.W.Sink.written g.W.Sink.has_failed c.in_ok-write_lid.field-0 c.loop-lid.sink c.write_lid.new.sink _ c.in_ok-write_lid.ensures)
